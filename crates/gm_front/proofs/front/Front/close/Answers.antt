use Rattle.gm_front.proofs.Taking.{closes}
use Rattle.gm_front.proofs.front.Front.close.Goals as goal

pub returns : goal.returns
returns g c k limits reading h =
    closes g.S.JobServer.agrees k limits reading c.args.slot c.in_ok-done.done c.stepped.result c.args.self.now c.set_feeder.new.self c.apply.new.self h (c.in_ok-done.ensures.answers k reading.steps h.agreed)
    c.set_feeder.ensures.feeders c.set_feeder.ensures.server c.set_feeder.ensures.limits c.stepped.ensures.done c.stepped.ensures.drained
