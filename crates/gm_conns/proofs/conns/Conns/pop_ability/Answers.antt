use Rattle.std.proofs.Common.{refl, ap}
use Rattle.gm_conns.specs.Connections.{Connection}
use Rattle.gm_conns.proofs.ConnTableLemmas.{keeps_same, loses_ability}
use Rattle.gm_conns.proofs.conns.Conns.pop_ability.Goals as goal

pub invariant_of-self : goal.invariant_of-self
invariant_of-self c =
    let others = c.in-Some.ensures.others in
    loses_ability c.self.inside c.self.invariant c.self.view_is c.args.slot c.requires refl c.index_mut-conn.ensures.value
    (ap (λ (x : Connection). x.is_open) others) (ap (λ (x : Connection). x.phase) others) c.in-Some.f _ _ c.index_mut-able.ensures.value
    c.remove.ensures.slots c.remove.ensures.count c.in-Some.ensures.able c.in-Some.ensures.some

pub invariant_of-self-in-None : goal.invariant_of-self-in-None
invariant_of-self-in-None c =
    keeps_same c.self.inside c.self.invariant c.self.view_is c.args.slot c.requires c.in-None.ensures.kept c.index_mut-conn.ensures.value refl refl (λ f. refl)
