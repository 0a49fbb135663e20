use Rattle.std.proofs.Common.{refl, ap}
use Rattle.gm_conns.specs.Connections.{Connection, is_able}
use Rattle.gm_conns.proofs.ConnTableLemmas.{keeps_same}
use Rattle.gm_conns.proofs.conns.Conns.reserve_out.Goals as goal

pub invariant_of-self : goal.invariant_of-self
invariant_of-self c =
    let viewed = c.conn.view_is in
    keeps_same c.self.inside c.self.invariant c.self.view_is c.args.slot c.requires refl c.index_mut-conn.ensures.value
    (ap (λ (x : Connection). x.is_open) viewed) (ap (λ (x : Connection). x.phase) viewed) (λ f. ap (is_able f) viewed)
