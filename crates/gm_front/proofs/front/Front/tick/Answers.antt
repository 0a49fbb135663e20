use Rattle.std.proofs.Common.{refl}
use Rattle.gm_front.proofs.Taking.{ticks}
use Rattle.gm_front.proofs.front.Front.tick.Goals as goal

pub returns : goal.returns
returns g c k limits reading h =
    ticks g.S.JobServer.agrees k limits reading c.args.now c.in_ok-done.done c.stepped.result c.args.self.now _ h (c.in_ok-done.ensures.answers k reading.steps h.agreed) refl refl c.stepped.ensures.done c.stepped.ensures.drained
