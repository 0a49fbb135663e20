use Rattle.gm_play.proofs.Handing.{plays_skip}
use Rattle.gm_play.proofs.line.play_order.Goals as goal

pub returns-in-Skip : goal.returns-in-Skip
returns-in-Skip g c k limits reading h = rw c.in-Skip.is (plays_skip g.S.JobServer.agrees k limits reading c.args.out.now.items c.args.front.now c.args.told.now h)
