use Rattle.std.proofs.Common.{rules, sym, ◌∙◌}
use Rattle.gm_lane_word.proofs.Moves.{hand_over_moves}
use Rattle.gm_lane_word.proofs.claim.Claim.hand_over.Goals as goal

pub swap-requires : goal.swap-requires
swap-requires g c = (search rules, search rules, hand_over_moves _ _ _ (λ free. let not = sym c.self.invariant.hold_is ∙ free in cc))
