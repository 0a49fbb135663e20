use Rattle.std.proofs.Common.{◌≡◌, ℕ, ◌+◌, ◌*◌, ◌-◌, ◌<◌, length}
use Rattle.gm_poll.specs.Pollers.{nobody, call_at}
use Rattle.gm_poll.proofs.poller.Poller.new.Given as goal

abbrev pub invariant-loop-slot : goal.invariant-loop-slot
invariant-loop-slot l = record {
  slot : l.slot ≡ l.thread + length l.calls.items * l.count;
  calls : (at : ℕ) → at < length l.calls.items → call_at l.calls.items at ≡ record nobody { slot = l.thread + at * l.count };
}

abbrev pub decreases-loop-slot : goal.decreases-loop-slot
decreases-loop-slot l = l.slots - l.slot
