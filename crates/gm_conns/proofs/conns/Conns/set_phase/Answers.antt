use Rattle.std.proofs.Common.{true, if◌then◌else◌, ◌==◌, refl, ap, ◌∙◌}
use Rattle.gm_conns.specs.Slots.{has}
use Rattle.gm_conns.specs.Connections.{with_phase}
use Rattle.gm_conns.proofs.ConnTableLemmas.{open_inside, within_inside, IsKept-phase, changes_slot}
use Rattle.gm_conns.proofs.conns.Conns.set_phase.Goals as goal

pub invariant_of-self : goal.invariant_of-self
invariant_of-self c =
    let t = c.self.inside in
    let old = c.index_mut-conn.result.now in
    IsKept-phase t.conns.items t.able.items t.free t.asleep c.self.invariant
    c.args.slot (within_inside t c.self.invariant c.self.view_is c.args.slot c.requires) _
    old (with_phase c.args.phase old) c.set.new.self (ap (with_phase c.args.phase) c.conn.view_is) c.index_mut-conn.ensures.value
    (open_inside t c.self.invariant c.self.view_is c.args.slot c.requires) refl (λ f. refl)
    (λ i. c.set.ensures i ∙ ap (λ b. if i == c.args.slot then b else has t.asleep i) c.is_asleep.ensures)

pub returns : goal.returns
returns c =
    changes_slot c.self.inside c.self.invariant c.self.view_is c.args.slot c.requires (with_phase c.args.phase) true
    (ap (with_phase c.args.phase) c.conn.view_is) c.index_mut-conn.ensures.value c.insert.ensures
