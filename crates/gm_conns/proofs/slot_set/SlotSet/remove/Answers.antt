use Rattle.std.proofs.Common.{not, ◌&&◌, ◌==◌, List, ℕ, ap, ◌∙◌, length-set, arith}
use Rattle.gm_conns.specs.Slots.{has}
use Rattle.gm_conns.proofs.SlotLemmas.{has-remove, used-without}
use Rattle.gm_conns.proofs.slot_set.SlotSet.remove.Goals as goal

pub invariant_of-self : goal.invariant_of-self
invariant_of-self c =
    (length-set c.self.inside.words _ _ ∙ c.self.invariant.0, used-without c.self.inside.used c.self.inside.words _ _ c.self.invariant.0 (omega (arith, c.requires)) c.self.invariant.1 c.if-word-eq0.true)

pub returns-then-word-eq0 : goal.returns-then-word-eq0
returns-then-word-eq0 c = λ i.
    has-remove c.self.inside.words c.args.slot i c.self.invariant.0 c.requires
    ∙ ap (λ (words : List ℕ). not (i == c.args.slot) && has words i) c.self.view_is

pub returns-else-word-eq0 : goal.returns-else-word-eq0
returns-else-word-eq0 c = λ i.
    has-remove c.self.inside.words c.args.slot i c.self.invariant.0 c.requires
    ∙ ap (λ (words : List ℕ). not (i == c.args.slot) && has words i) c.self.view_is
