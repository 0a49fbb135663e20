use Rattle.std.proofs.Common.{◌≡◌, take}
use Rattle.gm_plain.specs.Outboxes.{bytes_of}
use Rattle.gm_plain.proofs.outboxes.copy_each.Given as goal

abbrev pub invariant-loop-outbox : goal.invariant-loop-outbox
invariant-loop-outbox l = bytes_of l.copies.items ≡ bytes_of (take l.outbox-index l.outboxes)
