use Rattle.std.proofs.Common.{rules, sym, subst, false}
use Rattle.gm_session.specs.Talks.{TalkState, IsHanded}
use Rattle.gm_session.proofs.Talking.{talk_unserved, talk_refused, closing_adds, refusal_adds}
use Rattle.gm_session.proofs.talk.Talk.refuse.Goals as goal

pub invariant_of-self : goal.invariant_of-self
invariant_of-self g c =
    talk_unserved g.K.BookName.settings _ c.self.invariant _ _ _ _ c.apply-answer.ensures.number (search rules)
    (closing_adds _ _ c.apply-answer.result _ _ c.number-slot.ensures (sym c.if-is_ok.ensures.value) c.apply-answer.ensures.hands)
    _ _ (subst (λ (t : TalkState). IsHanded t c.args.side c.requires.0 false) (sym c.self.view_is) c.requires.1) c.enter.ensures

pub invariant_of-self-else-is_ok : goal.invariant_of-self-else-is_ok
invariant_of-self-else-is_ok g c =
    talk_refused g.K.BookName.settings _ c.self.invariant _ _ c.apply-answer.ensures.number (refusal_adds _ _ c.apply-answer.result _ _ (sym c.if-is_ok.ensures.value) c.apply-answer.ensures.hands)
