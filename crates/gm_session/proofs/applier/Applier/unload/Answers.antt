use Rattle.std.proofs.Common.{◌∙◌, Ok, Err, refl}
use Rattle.std.proofs.lemmas.Result.{err_from_is_err_and}
use Rattle.gm_front.proofs.Heads.{falls}
use Rattle.gm_session.specs.Effects.{nothing}
use Rattle.gm_session.specs.declared.applier.Taken.TheVariants.{Unit as AUnit, Nothing}
use Rattle.gm_session.proofs.Gathering.{gathers_then}
use Rattle.gm_session.proofs.Handing.{at_home, unloading_none, unloading_more, unloads_some, unloads_all, unloads_stops}
use Rattle.gm_session.proofs.applier.Applier.unload.Goals as goal

pub loop-batch-init : goal.loop-batch-init
loop-batch-init g c = record { unloading = unloading_none g.K.BookName.settings c.args.desk.now.number c.args.self.now.slot c.args.session.now.feeder c.args.desk.now.witness.seen; gathers = nothing; number = refl }

pub loop-batch-smaller : goal.loop-batch-smaller
loop-batch-smaller g c =
    let t = rw c.in-Unit.is at c.in_ok-may_be_long.ensures.takes in
    falls c.loop-batch.session.feeder c.take_unit.new.session.feeder t.0 t.1

pub loop-batch-preserved : goal.loop-batch-preserved
loop-batch-preserved g c =
    let k = g.K.BookName.settings in
    let taped = g.K.BookName.taped in
    let t = at_home k taped c.args.desk.now.number c.args.self.now.slot _ c.loop-batch.session.feeder c.take_unit.new.session.feeder _ c.take_unit.new.desk.witness.seen (Ok (AUnit c.in-Unit.may_be_long))
    c.loop-batch.invariant.number (rw c.in-Unit.is at c.in_ok-may_be_long.ensures.takes) in
    record {
      unloading = unloading_more k taped c.args.desk.now.number c.args.self.now.slot _ _ _ _ _ _ c.loop-batch.invariant.unloading c.in-Unit.may_be_long t;
      gathers = gathers_then k taped _ _ _ _ _ _ _ _ c.loop-batch.invariant.number c.loop-batch.invariant.gathers c.in_ok-may_be_long.ensures.gathers;
      number = c.in_ok-may_be_long.ensures.number ∙ c.loop-batch.invariant.number;
    }

pub returns-in_err-may_be_long-clause-unloads : goal.returns-in_err-may_be_long-clause-unloads
returns-in_err-may_be_long-clause-unloads g c =
    let k = g.K.BookName.settings in
    let taped = g.K.BookName.taped in
    let e = err_from_is_err_and c.from_residual.result c.from_residual.ensures.1 in
    let end = c.in_err-may_be_long.field-0.0 in
    rw (e.1, e.2)
    (unloads_stops k taped c.args.desk.now.number c.args.self.now.slot _ _ _ _ _ c.take_unit.new.session.feeder c.loop-batch.invariant.unloading end
    (at_home k taped c.args.desk.now.number c.args.self.now.slot _ c.loop-batch.session.feeder c.take_unit.new.session.feeder _ c.take_unit.new.desk.witness.seen (Err end)
    c.loop-batch.invariant.number c.in_err-may_be_long.ensures.takes) c.take_unit.new.session.has_units)

pub returns-in_err-may_be_long-clause-gathers : goal.returns-in_err-may_be_long-clause-gathers
returns-in_err-may_be_long-clause-gathers g c =
    gathers_then g.K.BookName.settings g.K.BookName.taped _ _ _ _ _ _ _ _ c.loop-batch.invariant.number c.loop-batch.invariant.gathers c.in_err-may_be_long.ensures.gathers

pub returns-in_default-clause-unloads : goal.returns-in_default-clause-unloads
returns-in_default-clause-unloads g c =
    let k = g.K.BookName.settings in
    let taped = g.K.BookName.taped in
    unloads_all k taped c.args.desk.now.number c.args.self.now.slot _ _ _ _ _ c.take_unit.new.session.feeder c.loop-batch.invariant.unloading
    (at_home k taped c.args.desk.now.number c.args.self.now.slot _ c.loop-batch.session.feeder c.take_unit.new.session.feeder _ c.take_unit.new.desk.witness.seen (Ok Nothing)
    c.loop-batch.invariant.number (rw c.in_default.is at c.in_ok-may_be_long.ensures.takes))

pub returns-in_default-clause-gathers : goal.returns-in_default-clause-gathers
returns-in_default-clause-gathers g c =
    gathers_then g.K.BookName.settings g.K.BookName.taped _ _ _ _ _ _ _ _ c.loop-batch.invariant.number c.loop-batch.invariant.gathers c.in_ok-may_be_long.ensures.gathers

pub returns-then-has_ended-clause-unloads : goal.returns-then-has_ended-clause-unloads
returns-then-has_ended-clause-unloads g c =
    let k = g.K.BookName.settings in
    let taped = g.K.BookName.taped in
    let t = at_home k taped c.args.desk.now.number c.args.self.now.slot _ c.loop-batch.session.feeder c.take_unit.new.session.feeder _ c.take_unit.new.desk.witness.seen (Ok (AUnit c.in-Unit.may_be_long))
    c.loop-batch.invariant.number (rw c.in-Unit.is at c.in_ok-may_be_long.ensures.takes) in
    unloads_some k taped c.args.desk.now.number c.args.self.now.slot _ c.args.desk.now.witness.seen c.take_unit.new.desk.witness.seen c.take_unit.new.session.feeder
    (unloading_more k taped c.args.desk.now.number c.args.self.now.slot _ _ _ _ _ _ c.loop-batch.invariant.unloading c.in-Unit.may_be_long t)

pub returns-then-has_ended-clause-gathers : goal.returns-then-has_ended-clause-gathers
returns-then-has_ended-clause-gathers g c =
    gathers_then g.K.BookName.settings g.K.BookName.taped _ _ _ _ _ _ _ _ c.loop-batch.invariant.number c.loop-batch.invariant.gathers c.in_ok-may_be_long.ensures.gathers
