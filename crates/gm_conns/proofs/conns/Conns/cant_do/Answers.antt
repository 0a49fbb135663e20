use Rattle.std.proofs.Common.{refl, sym, ap, ◌∙◌}
use Rattle.gm_conns.specs.Connections.{Connection}
use Rattle.gm_conns.proofs.ConnTableLemmas.{stays_unable, keeps_same, loses_ability}
use Rattle.gm_conns.proofs.conns.Conns.cant_do.Goals as goal

pub invariant_of-self : goal.invariant_of-self
invariant_of-self c =
    let others = c.cant_do.ensures.abilities in
    loses_ability c.self.inside c.self.invariant c.self.view_is c.args.slot c.requires refl c.index_mut-conn.ensures.value
    (ap (λ (x : Connection). x.is_open) others) (ap (λ (x : Connection). x.phase) others) c.args.f _ _ c.index_mut-able.ensures.value
    c.remove.ensures.slots c.remove.ensures.count c.cant_do.ensures.able (sym c.is_able-was_able.ensures ∙ c.if-was_able.true)

pub invariant_of-self-else-was_able : goal.invariant_of-self-else-was_able
invariant_of-self-else-was_able c =
    let others = c.cant_do.ensures.abilities in
    let was = sym c.is_able-was_able.ensures ∙ c.if-was_able.false in
    keeps_same c.self.inside c.self.invariant c.self.view_is c.args.slot c.requires refl c.index_mut-conn.ensures.value
    (ap (λ (x : Connection). x.is_open) others) (ap (λ (x : Connection). x.phase) others)
    (λ g. c.cant_do.ensures.able g ∙ stays_unable c.args.f c.index_mut-conn.result.now was g)
