use Rattle.std.proofs.Common.{refl, ap}
use Rattle.gm_conns.specs.Connections.{shut}
use Rattle.gm_conns.proofs.ConnTableLemmas.{keeps_same}
use Rattle.gm_conns.proofs.conns.Conns.shut_down.Goals as goal

pub invariant_of-self : goal.invariant_of-self
invariant_of-self c = keeps_same c.self.inside c.self.invariant c.self.view_is c.args.slot c.requires (ap shut c.conn.view_is) c.index_mut-conn.ensures.value refl refl (λ f. refl)
