use Rattle.std.proofs.Common.{rules, sym, subst}
use Rattle.std.specs.Prelude.{true}
use Rattle.std.proofs.Common.{◌≡◌}
use Rattle.gm_session.specs.Talks.{TalkState, has_ended}
use Rattle.gm_session.proofs.Talking.{talk_closed, talk_refused, closing_adds, refusal_adds}
use Rattle.gm_session.proofs.talk.Talk.close.Goals as goal

pub invariant_of-self : goal.invariant_of-self
invariant_of-self g c =
    talk_closed g.K.BookName.settings _ c.self.invariant _ _ _ _ c.apply-answer.ensures.number (search rules)
    (closing_adds _ _ c.apply-answer.result _ _ c.number-slot.ensures (sym c.if-is_ok.ensures.value) c.apply-answer.ensures.hands)
    (subst (λ (t : TalkState). has_ended t.talking ≡ true) (sym c.self.view_is) c.requires) c.enter.ensures

pub invariant_of-self-else-is_ok : goal.invariant_of-self-else-is_ok
invariant_of-self-else-is_ok g c =
    talk_refused g.K.BookName.settings _ c.self.invariant _ _ c.apply-answer.ensures.number (refusal_adds _ _ c.apply-answer.result _ _ (sym c.if-is_ok.ensures.value) c.apply-answer.ensures.hands)
