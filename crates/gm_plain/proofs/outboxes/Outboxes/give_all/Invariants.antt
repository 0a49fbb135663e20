use Rattle.std.proofs.Common.{◌≡◌, length, drop}
use Rattle.gm_plain.specs.Outboxes.{with_bytes_each}
use Rattle.gm_plain.proofs.outboxes.Outboxes.give_all.Given as goal

abbrev pub invariant-loop-slot : goal.invariant-loop-slot
invariant-loop-slot l = record {
  bytes : with_bytes_each l.text l.slots l.fn.self ≡ with_bytes_each l.text (drop l.slot-index l.slots) l.copy;
  len : length l.copy ≡ length l.fn.self;
}
