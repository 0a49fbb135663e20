use Rattle.std.proofs.Common.{rules, sym, ◌∙◌}
use Rattle.gm_lane_word.proofs.Moves.{hand_over_moves}
use Rattle.gm_lane_word.proofs.word.LaneWord.leave.Goals as goal

pub swap-requires : goal.swap-requires
swap-requires g c = (search rules, search rules, hand_over_moves _ _ _ (λ free. let not = sym c.claim.invariant.hold_is ∙ free in cc))
