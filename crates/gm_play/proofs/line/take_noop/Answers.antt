use Rattle.gm_play.proofs.Outcomes.{on_ok}
use Rattle.gm_play.proofs.Telling.{takes, takes_not}
use Rattle.gm_play.proofs.line.take_noop.Goals as goal
use Rattle.gm_play.proofs.line.take_noop.Goals.{in-Ok, in-Err}

pub returns : goal.returns
returns g c =
    elim c.match-step.branch [
      | in-Ok w ↦
          rw (w.result-is, w.out-is)
          (on_ok w.write_response.result _ _
          (λ said k limits reading h. takes g.S.JobServer.agrees k limits reading c.args.slot c.args.out.now.items w.write_response.new.out.items w.in-Ok.field-0 c.step.new.self (w.in-Ok.ensures.answers k limits reading h) said)
          w.write_response.ensures.ok)
      | in-Err w ↦
          rw (w.result-is, w.out-is)
          (λ k limits reading h. takes_not g.S.JobServer.agrees k limits reading c.args.slot c.args.out.now.items w.in-Err.field-0 c.step.new.self (w.in-Err.ensures.answers k limits reading h))
    ]
