use Rattle.gm_session.specs.Effects.{nothing}
use Rattle.gm_session.proofs.Handing.{step_took}
use Rattle.gm_session.proofs.applier.Applier.step.Goals as goal

pub returns-clause-steps : goal.returns-clause-steps
returns-clause-steps g c =
    step_took g.K.BookName.settings g.K.BookName.taped c.args.desk.now.number c.args.self.now.slot _ _ _ _ c.args.session.now.feeder c.fill.new.self.feeder c.unload.new.session.feeder c.args.session.now.has_units
    c.unload.new.session.has_units c.unload.result _ _ c.in_ok-fill.ensures.fills c.unload.ensures.unloads

pub returns-in_err-fill-clause-gathers : goal.returns-in_err-fill-clause-gathers
returns-in_err-fill-clause-gathers g c = nothing
