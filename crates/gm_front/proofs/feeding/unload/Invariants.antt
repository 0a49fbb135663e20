use Rattle.std.proofs.Common.{length}
use Rattle.gm_front.proofs.Unloading.{Unloading}
use Rattle.gm_front.proofs.feeding.unload.Given as goal

abbrev pub invariant-loop-event : goal.invariant-loop-event
invariant-loop-event g l = Unloading g.S.JobServer.agrees l.slot l.fn.server l.fn.feeder l.units l.created l.server l.feeder

abbrev pub decreases-loop-event : goal.decreases-loop-event
decreases-loop-event g l = length l.feeder.pending
