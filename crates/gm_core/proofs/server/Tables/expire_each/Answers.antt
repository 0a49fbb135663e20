use Rattle.std.proofs.Common.{subst, arith}
use Rattle.std.proofs.lemmas.List.{nil_from_length}
use Rattle.gm_core.proofs.TickLemmas.{Expiring, expiring_begins, expiring_on, expiring_done, late_now, late_text, late_room}
use Rattle.gm_core.proofs.server.Tables.expire_each.Goals as goal

pub loop-late-init : goal.loop-late-init
loop-late-init c = expiring_begins c.args.self.now c.args.lates.items c.requires.late c.requires.room

pub expire-requires-clause-due : goal.expire-requires-clause-due
expire-requires-clause-due c =
    late_now c.args.self.now c.loop-late.self c.loop-late.self c.in-Some.late c.pop_front.new.self.items (subst (Expiring c.args.self.now c.loop-late.self) c.in-Some.ensures.items c.loop-late.invariant)

pub expire-requires-clause-text : goal.expire-requires-clause-text
expire-requires-clause-text c =
    late_text c.args.self.now c.loop-late.self c.loop-late.self c.in-Some.late c.pop_front.new.self.items (subst (Expiring c.args.self.now c.loop-late.self) c.in-Some.ensures.items c.loop-late.invariant)

pub expire-requires-clause-room : goal.expire-requires-clause-room
expire-requires-clause-room c =
    late_room c.args.self.now c.loop-late.self c.loop-late.self c.in-Some.late c.pop_front.new.self.items (subst (Expiring c.args.self.now c.loop-late.self) c.in-Some.ensures.items c.loop-late.invariant)

pub loop-late-preserved : goal.loop-late-preserved
loop-late-preserved c =
    expiring_on c.args.self.now c.loop-late.self c.expire.new.self c.in-Some.late c.pop_front.new.self.items (subst (Expiring c.args.self.now c.loop-late.self) c.in-Some.ensures.items c.loop-late.invariant)
    c.expire.ensures.goes c.expire.ensures.moment c.expire.ensures.jobs c.expire.ensures.poured

pub returns : goal.returns
returns c =
    let none = nil_from_length c.loop-late.lates.items (omega (arith, c.loop-late.lates.ok.0, c.in_default.ensures.cases.0)) in
    expiring_done c.args.self.now c.loop-late.self (subst (Expiring c.args.self.now c.loop-late.self) none c.loop-late.invariant)
