use Rattle.std.proofs.Common.{◌≡◌, vec_len}
use Rattle.gm_word.specs.Seats.{lines_of}
use Rattle.gm_word.proofs.Settling.{HandedSoFar}
use Rattle.gm_word.proofs.closing.hand_in.Given as goal

abbrev pub invariant-loop-pen : goal.invariant-loop-pen
invariant-loop-pen l = (l.seat.table_id ≡ l.initial.seat.table_id) × HandedSoFar l.seat (lines_of l.initial.seat.me.0) l.pens.items l.fn.pens.items

abbrev pub decreases-loop-pen : goal.decreases-loop-pen
decreases-loop-pen l = vec_len l.pens
