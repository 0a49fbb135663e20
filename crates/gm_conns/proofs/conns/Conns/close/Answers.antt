use Rattle.std.proofs.Common.{◌≡◌, true, false, [], refl, sym, ap, subst, ◌∙◌}
use Rattle.gm_conns.specs.Connections.{Connection, closed, without_abilities}
use Rattle.gm_conns.specs.ConnTables.{Table, conn}
use Rattle.gm_conns.proofs.ConnTableLemmas.{within_inside, changed_here, changes_twice, changes_slot, IsKept-closed}
use Rattle.gm_conns.proofs.conns.Conns.close.Goals as goal

pub invariant_of-self : goal.invariant_of-self
invariant_of-self c =
    let t = c.self.inside in
    let here = changed_here c.args.slot without_abilities false c.args.self.now c.reset.new.self c.reset.ensures in
    let opened = ap (λ (x : Connection). x.is_open) here ∙ c.requires in
    let idle = subst (λ (t : Table). (conn t c.args.slot).abilities ≡ []) (sym c.self.view_is) (ap (λ (x : Connection). x.abilities) here) in
    IsKept-closed t.conns.items t.able.items t.free t.asleep c.self.invariant c.args.slot (within_inside t c.self.invariant c.self.view_is c.args.slot opened)
    c.new.result c.insert.new.self c.remove.new.self c.new.ensures idle c.insert.ensures c.remove.ensures

pub returns : goal.returns
returns c =
    let here = changed_here c.args.slot without_abilities false c.args.self.now c.reset.new.self c.reset.ensures in
    let opened = ap (λ (x : Connection). x.is_open) here ∙ c.requires in
    changes_twice c.args.slot without_abilities (λ _. closed) (λ _. closed) c.args.self.now c.reset.new.self _ c.reset.ensures
    (changes_slot c.self.inside c.self.invariant c.self.view_is c.args.slot opened (λ _. closed) true c.new.ensures c.index_mut-conn.ensures.value c.insert-2.ensures)
    (λ x. refl)
