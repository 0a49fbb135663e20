use Rattle.std.proofs.Common.{refl, true}
use Rattle.std.proofs.lemmas.Result.{err_from_is_err_and}
use Rattle.gm_feeder.specs.Streams.{item_in}
use Rattle.gm_notes.specs.Servers.{step_of}
use Rattle.gm_session.specs.Effects.{nothing}
use Rattle.gm_session.proofs.Handing.{next_unit, next_fault, unit_stops, fault_stops, packet_stops}
use Rattle.gm_session.proofs.applier.Applier.take_unit.Goals as goal

pub returns-in_ok-apply_unit-in-Unit-clause-takes : goal.returns-in_ok-apply_unit-in-Unit-clause-takes
returns-in_ok-apply_unit-in-Unit-clause-takes g c =
    next_unit g.K.BookName.settings g.K.BookName.taped c.args.desk.now.number _ _ c.take_packet.new.self _ _ _ c.in_default.ensures.none (step_of c.in-Unit.event) true
    (rw c.in-Unit.is at c.next_event.follows.holds-at-none) c.in_ok-apply_unit-in-Unit.ensures.applies

pub returns-in_ok-take_fault-in-Fault-clause-takes : goal.returns-in_ok-take_fault-in-Fault-clause-takes
returns-in_ok-take_fault-in-Fault-clause-takes g c =
    next_fault g.K.BookName.settings _ c.args.desk.now.number _ _ c.take_packet.new.self _ _ _ c.in_default.ensures.none c.in-Fault.fault
    (rw c.in-Fault.is at c.next_event.follows.holds-at-none) c.in_ok-take_fault-in-Fault.ensures.applies

pub returns-in_err-take_long-clause-takes : goal.returns-in_err-take_long-clause-takes
returns-in_err-take_long-clause-takes g c =
    let e = err_from_is_err_and c.from_residual.result c.from_residual.ensures.1 in
    rw (e.1, e.2)
    (packet_stops _ _ _ c.args.self.now.slot c.args.session.now.feeder c.take_packet.new.self (item_in c.in-Some.packet) _ c.in_err-take_long.field-0.0 _ _ refl
    c.in-Some.ensures.packet c.in_err-take_long.ensures.applies)

pub returns-in_err-apply_unit-in-Unit-clause-takes : goal.returns-in_err-apply_unit-in-Unit-clause-takes
returns-in_err-apply_unit-in-Unit-clause-takes g c =
    let e = err_from_is_err_and c.from_residual-in_err-apply_unit-in-Unit.result c.from_residual-in_err-apply_unit-in-Unit.ensures.1 in
    rw (e.1, e.2)
    (unit_stops _ _ _ c.args.self.now.slot c.args.session.now.feeder c.take_packet.new.self _ _ _ c.in_default.ensures.none _ c.in_err-apply_unit-in-Unit.field-0.0
    (rw c.in-Unit.is at c.next_event.follows.holds-at-none) c.in_err-apply_unit-in-Unit.ensures.applies)

pub returns-in_err-take_fault-in-Fault-clause-takes : goal.returns-in_err-take_fault-in-Fault-clause-takes
returns-in_err-take_fault-in-Fault-clause-takes g c =
    let e = err_from_is_err_and c.from_residual-in_err-take_fault-in-Fault.result c.from_residual-in_err-take_fault-in-Fault.ensures.1 in
    rw (e.1, e.2)
    (fault_stops _ _ _ c.args.self.now.slot c.args.session.now.feeder c.take_packet.new.self _ _ _ c.in_default.ensures.none c.in-Fault.fault c.in_err-take_fault-in-Fault.field-0.0
    (rw c.in-Fault.is at c.next_event.follows.holds-at-none) c.in_err-take_fault-in-Fault.ensures.applies)

pub returns-in-Wait-clause-gathers : goal.returns-in-Wait-clause-gathers
returns-in-Wait-clause-gathers g c = nothing
