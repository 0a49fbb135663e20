use Rattle.std.proofs.Common.{◌≡◌, ℕ, ◌*◌, ◌<◌, ◌≤◌, length, max, slice_index_or, All}
use Rattle.std.specs.Int.{div_ceil}
use Rattle.gm_poll.specs.Pollers.{PollerState, IsNew}
use Rattle.gm_poll.proofs.hub.Hub.new.Given as goal

abbrev pub invariant-loop-thread : goal.invariant-loop-thread
invariant-loop-thread g l = record {
  mailboxes : length l.mailboxes.items ≡ l.thread;
  marks : All (λ mailbox. div_ceil l.slots l.count ≤ length mailbox.marks.items * 64) l.mailboxes.items;
  all : length l.pollers.items ≡ l.thread;
  each : (at : ℕ) (other : PollerState) → at < l.thread → IsNew at (max l.count 1) l.slots (slice_index_or l.pollers.items at other);
}
