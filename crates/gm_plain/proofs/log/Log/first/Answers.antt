use Rattle.std.proofs.Common.{subst}
use Rattle.gm_plain.specs.Logs.{Logged, AreInOrder}
use Rattle.gm_plain.proofs.log.Log.first.Goals as goal

pub returns-clause-in_order : goal.returns-clause-in_order
returns-clause-in_order c = subst (λ (l : Logged). AreInOrder l.first l.notes) c.self.view_is c.self.invariant.0.in_order
