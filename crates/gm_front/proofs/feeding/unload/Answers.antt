use Rattle.std.proofs.Common.{refl}
use Rattle.gm_front.proofs.Heads.{falls}
use Rattle.gm_front.proofs.Unloading.{unloading_more, ends_waiting, ends_faulty, ends_short}
use Rattle.gm_front.proofs.feeding.unload.Goals as goal

pub loop-event-smaller : goal.loop-event-smaller
loop-event-smaller g c =
    let h = rw c.in-Unit.is at c.next_event.follows.holds-at-none in
    falls c.loop-event.feeder c.next_event.follows.lender-at-none h.item h.gives

pub loop-event-preserved : goal.loop-event-preserved
loop-event-preserved g c =
    rw c.or-created.ensures
    (unloading_more g.S.JobServer.agrees c.args.slot c.args.server.now c.args.feeder.now c.loop-event.units c.loop-event.created c.in-Ok.newer c.loop-event.server c.loop-event.feeder c.hand_in_unit.new.server
    c.next_event.follows.lender-at-none _ c.loop-event.invariant (rw c.in-Unit.is at c.next_event.follows.holds-at-none) c.in-Ok.ensures.ok)

pub returns-in-Wait-clause-ok : goal.returns-in-Wait-clause-ok
returns-in-Wait-clause-ok g c =
    ends_waiting g.S.JobServer.agrees c.args.slot c.args.server.now c.args.feeder.now _ c.loop-event.server c.loop-event.feeder c.next_event.follows.lender-at-none c.loop-event.invariant refl
    (rw c.in-Wait.is at c.next_event.follows.holds-at-none)

pub returns-in-Fault-clause-ok : goal.returns-in-Fault-clause-ok
returns-in-Fault-clause-ok g c =
    ends_faulty g.S.JobServer.agrees c.args.slot c.args.server.now c.args.feeder.now _ c.loop-event.server c.loop-event.feeder c.in-Fault.fault c.next_event.follows.lender-at-none c.loop-event.invariant refl
    (rw c.in-Fault.is at c.next_event.follows.holds-at-none)

pub returns-in_default-clause-err : goal.returns-in_default-clause-err
returns-in_default-clause-err g c =
    ends_short g.S.JobServer.agrees c.args.slot c.args.server.now c.args.feeder.now c.loop-event.units c.loop-event.created c.loop-event.server c.loop-event.feeder
    c.next_event.follows.lender-at-none c.hand_in_unit.new.server _ c.loop-event.invariant (rw c.in-Unit.is at c.next_event.follows.holds-at-none) c.in_default.ensures.err
