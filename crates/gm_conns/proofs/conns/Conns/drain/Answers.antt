use Rattle.std.proofs.Common.{refl}
use Rattle.gm_conns.specs.Connections.{emptied}
use Rattle.gm_conns.proofs.ConnTableLemmas.{keeps_same, requeued}
use Rattle.gm_conns.proofs.conns.Conns.drain.Goals as goal

pub invariant_of-self : goal.invariant_of-self
invariant_of-self c = keeps_same c.self.inside c.self.invariant c.self.view_is c.args.slot c.requires (requeued emptied c.conn.view_is c.take.ensures.left refl) c.index_mut-conn.ensures.value refl refl (λ f. refl)
