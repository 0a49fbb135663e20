use Rattle.std.proofs.Common.{rules}
use Rattle.gm_lane_word.proofs.Moves.{finish_moves}
use Rattle.gm_lane_word.proofs.attempt.Attempt.finish.Goals as goal

pub compare_exchange-found-requires : goal.compare_exchange-found-requires
compare_exchange-found-requires g c = (search rules, search rules, finish_moves _ _ _ c.self.invariant.hold_is)
