use Rattle.std.proofs.Common.{◌≡◌, ◌++◌, sym, append-nil}
use Rattle.gm_front.specs.Inputs.{input_of}
use Rattle.gm_play.specs.Prints.{said_of}
use Rattle.gm_play.proofs.Outcomes.{on_ok, not_some}
use Rattle.gm_play.proofs.Handing.{hands, refuses}
use Rattle.gm_play.proofs.line.hand_in.Goals as goal
use Rattle.gm_play.proofs.line.hand_in.Goals.{in-Some+in_ok-put_open-in-Ok, in_default}

pub returns-after-stepped : goal.returns-after-stepped
returns-after-stepped g c =
    on_ok c.tell.result _ _
    (λ all k limits reading h.
    let said : c.match-stepped.out.items ≡ c.args.out.now.items ++ said_of c.in-Ok.stepped.done.opened =
    elim c.match-stepped.branch [
      | in-Some+in_ok-put_open-in-Ok w ↦ rw (w.out-is, w.in-Some.is) w.in_ok-put_open-in-Ok.ensures
      | in_default w ↦ rw (w.out-is, not_some c.in-Ok.stepped.done.opened w.in_default.not-Some) (sym (append-nil c.args.out.now.items))
    ]
    in
    hands g.S.JobServer.agrees k limits reading (input_of c.args.input) c.args.out.now.items c.match-stepped.out.items c.tell.new.out.items c.in-Ok.stepped c.args.front.now c.step.new.self c.tell.new.front c.args.told.now c.tell.new.told h (c.in-Ok.ensures.answers k limits reading h.held) said
    (λ before r i. all k limits before r i))
    c.tell.ensures

pub returns-in_default-refused : goal.returns-in_default-refused
returns-in_default-refused g c =
    on_ok c.put_refused.result _ _
    (λ said k limits reading h.
    refuses g.S.JobServer.agrees k limits reading (input_of c.args.input) c.in-Err-Refused.refused c.args.out.now.items c.put_refused.new.out.items c.args.front.now c.step.new.self c.args.told.now h (rw c.in-Err-Refused.field-0-is at (c.in-Err-Refused.ensures.answers k limits reading h.held)) c.in_default-refused.not-Memory said)
    c.put_refused.ensures
