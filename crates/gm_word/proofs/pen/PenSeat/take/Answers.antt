use Rattle.std.proofs.Common.{rules}
use Rattle.gm_word.proofs.Moves.{pen_moves}
use Rattle.gm_word.proofs.pen.PenSeat.take.Goals as goal

pub compare_exchange-found-requires : goal.compare_exchange-found-requires
compare_exchange-found-requires c =
    let sits = c.self.invariant in
    (search rules, search rules, pen_moves _ _ _ sits.count _ sits.knows sits.slot_is)
