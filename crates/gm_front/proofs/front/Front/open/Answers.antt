use Rattle.gm_front.proofs.Taking.{opens, opens_none}
use Rattle.gm_front.proofs.Feeders.{not_some}
use Rattle.gm_front.proofs.front.Front.open.Goals as goal
use Rattle.gm_front.proofs.front.Front.open.Goals.{in-Some, in_default}

pub returns : goal.returns
returns g c k limits reading h =
    let a = c.in_ok-done.ensures.answers k reading.steps h.agreed in
    elim c.match-done.branch [
      | in-Some w ↦
          rw w.self-is
          (opens g.S.JobServer.agrees k limits reading c.args.addr.now w.in-Some.slot c.in_ok-done.done c.stepped.result c.args.self.now w.set_feeder.new.self c.apply.new.self w.new-feeder.result h a w.in-Some.is w.new-feeder.ensures.limits w.new-feeder.ensures.pending w.new-feeder.ensures.fault w.set_feeder.ensures.feeders w.set_feeder.ensures.server w.set_feeder.ensures.limits c.stepped.ensures.done c.stepped.ensures.drained)
      | in_default w ↦ absurd (opens_none g.S.JobServer.agrees k limits reading c.args.addr.now c.in_ok-done.done c.apply.new.self a (not_some c.in_ok-done.done.opened w.in_default.not-Some))
    ]
