use Rattle.std.proofs.Common.{◌≡◌, ℕ, Bool, not, ◌&&◌, List, ◌++◌, sym, ap, subst, ◌∙◌}
use Rattle.gm_play.specs.Prints.{bytes_text, shut_text}
use Rattle.gm_play.specs.Players.{TakesNoop}
use Rattle.gm_play.proofs.Telling.{drains, tells}
use Rattle.gm_play.proofs.line.tell_one.Goals as goal
use Rattle.gm_play.proofs.line.tell_one.Goals.{then-shut, else-shut}

pub returns-in_ok-put_shut : goal.returns-in_ok-put_shut
returns-in_ok-put_shut g c k limits reading h =
    let became : c.if-shut.put_shut ≡ (c.shut-shut.result && not c.args.told.now) =
    elim c.if-shut.branch [ then-shut w ↦ rw w.if-shut.true w.put_shut-is | else-shut w ↦ rw w.if-shut.false (w.put_shut-is ∙ w.if-shut.false) ]
    in
    tells g.S.JobServer.agrees k limits reading c.args.slot c.args.told.now c.shut-shut.result c.args.out.now.items c.put_bytes.new.out.items c.put_shut.new.out.items c.take_noop.new.out.items c.in-Ok.stepped c.step.new.self c.take_noop.new.front
    (sym (c.is_open.ensures k limits reading h) ∙ c.if-is_open.true) (c.shut-shut.ensures k limits reading h) (c.in-Ok.ensures.answers k limits reading h)
    (λ r i. subst (λ (l : List ℕ). TakesNoop g.S.JobServer.agrees k limits r c.args.slot l c.take_noop.new.front c.take_noop.new.out.items) c.in_ok-bytes.ensures (c.in_ok-take_noop.ensures k limits r i))
    (c.in_ok-put_bytes.ensures ∙ ap (λ (l : List ℕ). c.args.out.now.items ++ bytes_text c.args.slot l) c.deref.ensures.value)
    (c.in_ok-put_shut.ensures ∙ ap (λ (b : Bool). c.put_bytes.new.out.items ++ shut_text c.args.slot b) became)

pub returns-in_default : goal.returns-in_default
returns-in_default g c k limits reading h =
    absurd (drains g.S.JobServer.agrees k limits reading c.args.slot c.step.result c.step.new.self c.in_default.not-Ok (c.step.ensures.answers k limits reading h))
