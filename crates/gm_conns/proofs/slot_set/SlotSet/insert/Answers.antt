use Rattle.std.proofs.Common.{◌||◌, ◌==◌, List, ℕ, ap, ◌∙◌, length-set, arith}
use Rattle.gm_conns.specs.Slots.{has}
use Rattle.gm_conns.proofs.SlotLemmas.{has-insert, used-with}
use Rattle.gm_conns.proofs.slot_set.SlotSet.insert.Goals as goal

pub invariant_of-self : goal.invariant_of-self
invariant_of-self c =
    (length-set c.self.inside.words _ _ ∙ c.self.invariant.0, used-with c.self.inside.used c.self.inside.words _ _ c.self.invariant.0 (omega (arith, c.requires)) c.self.invariant.1)

pub returns : goal.returns
returns c = λ i.
    has-insert c.self.inside.words c.args.slot i c.self.invariant.0 c.requires
    ∙ ap (λ (words : List ℕ). (i == c.args.slot) || has words i) c.self.view_is
