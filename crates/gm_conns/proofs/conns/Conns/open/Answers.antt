use Rattle.std.proofs.Common.{true, sym, ap, subst, ◌∙◌, arith}
use Rattle.gm_conns.specs.Connections.{Connection, closed, opened}
use Rattle.gm_conns.specs.ConnTables.{Table, IsLeastFree}
use Rattle.gm_conns.proofs.ConnTableLemmas.{free_slot, taken_slot, read_slot, IsKept-opened, changes_within}
use Rattle.gm_conns.proofs.conns.Conns.open.Goals as goal

pub invariant_of-self : goal.invariant_of-self
invariant_of-self c =
    let t = c.self.inside in
    let slot = free_slot t.conns.items t.able.items t.free t.asleep c.self.invariant c.in-Some.slot c.in-Some.ensures.found.2 in
    let here = read_slot t.conns.items t.able.items t.free t.asleep c.self.invariant c.in-Some.slot slot.0 closed c.index_mut-conn.result.now c.index_mut-conn.ensures.value in
    IsKept-opened t.conns.items t.able.items t.free t.asleep c.self.invariant c.in-Some.slot slot.0 _
    c.in_ok-addr.addr.items c.remove.new.self (ap (λ (x : Connection). record x { is_open = true; addr = c.in_ok-addr.addr.items }) (c.conn.view_is ∙ sym here ∙ slot.1)) slot.1 c.remove.ensures

pub returns-clause-opened : goal.returns-clause-opened
returns-clause-opened c =
    let t = c.self.inside in
    let slot = free_slot t.conns.items t.able.items t.free t.asleep c.self.invariant c.in-Some.slot c.in-Some.ensures.found.2 in
    let here = read_slot t.conns.items t.able.items t.free t.asleep c.self.invariant c.in-Some.slot slot.0 closed c.index_mut-conn.result.now c.index_mut-conn.ensures.value in
    changes_within t (λ _. opened c.args.addr.now) true c.self.view_is slot.0
    (ap (λ (x : Connection). record x { is_open = true; addr = c.in_ok-addr.addr.items }) (c.conn.view_is ∙ sym here ∙ slot.1) ∙ ap opened c.in_ok-addr.ensures.items)
    c.index_mut-conn.ensures.value c.insert.ensures

pub returns-clause-slot : goal.returns-clause-slot
returns-clause-slot c =
    let t = c.self.inside in
    let slot = free_slot t.conns.items t.able.items t.free t.asleep c.self.invariant c.in-Some.slot c.in-Some.ensures.found.2 in
    subst (λ (t : Table). IsLeastFree c.in-Some.slot t) c.self.view_is (record {
      within = slot.0;
      free = slot.1;
      least = λ d h. taken_slot t.conns.items t.able.items t.free t.asleep c.self.invariant d (omega (arith, slot.0)) (c.in-Some.ensures.least d (omega arith) h);
    })
