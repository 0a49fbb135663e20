use Rattle.std.proofs.Common.{◌∙◌, refl, None}
use Rattle.gm_session.proofs.Handing.{reading_none, reading_more, reading_over}
use Rattle.gm_session.proofs.applier.Applier.run.Goals as goal

pub loop-init : goal.loop-init
loop-init g c = record {
  reading = reading_none g.K.BookName.settings c.args.desk.now.number c.args.self.now.slot (g.I.Read.remaining c.args.reader.now) c.args.desk.now.witness.seen c.args.session.now.feeder c.args.session.now.has_units c.requires;
  number = refl;
}

pub loop-preserved : goal.loop-preserved
loop-preserved g c = record {
  reading = reading_more g.K.BookName.settings g.K.BookName.taped c.args.desk.now.number _ _ _ (g.I.Read.remaining c.loop.reader) (g.I.Read.remaining c.step.new.source) None None _ c.loop.desk.witness.seen
      c.step.new.desk.witness.seen c.loop.session.feeder c.loop.session.has_units c.loop.invariant.reading c.loop.desk.number c.loop.invariant.number c.step.new.session.has_units c.step.new.session.feeder
      c.in-Ok.ensures.steps;
  number = c.in-Ok.ensures.number ∙ c.loop.invariant.number;
}

pub returns-in-Err-clause-reads : goal.returns-in-Err-clause-reads
returns-in-Err-clause-reads g c =
    reading_over g.K.BookName.settings g.K.BookName.taped c.args.desk.now.number _ _ _ (g.I.Read.remaining c.loop.reader) (g.I.Read.remaining c.step.new.source) None None _ c.loop.desk.witness.seen
    c.step.new.desk.witness.seen c.loop.session.feeder c.loop.session.has_units c.loop.invariant.reading c.loop.desk.number c.loop.invariant.number c.in-Err.end c.in-Err.ensures.steps
