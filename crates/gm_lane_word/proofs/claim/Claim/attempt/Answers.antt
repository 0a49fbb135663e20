use Rattle.std.proofs.Common.{rules}
use Rattle.gm_lane_word.proofs.Moves.{attempt_moves}
use Rattle.gm_lane_word.proofs.claim.Claim.attempt.Goals as goal

pub swap-requires : goal.swap-requires
swap-requires g c = (search rules, search rules, attempt_moves _ _ _ c.self.invariant.hold_is)
