use Rattle.std.proofs.Common.{arith}
use Rattle.gm_plain.proofs.TakingBack.{paid_less}
use Rattle.gm_plain.proofs.log.paid.Goals as goal

pub overflow_add-count : goal.overflow_add-count
overflow_add-count c = omega (arith, paid_less c.loop-note.note-index c.args.notes.now, c.loop-note.invariant, c.weight-count.ensures.small, c.requires)
