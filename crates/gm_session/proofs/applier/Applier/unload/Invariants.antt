use Rattle.std.proofs.Common.{◌≡◌, length}
use Rattle.gm_session.specs.Effects.{Gathers}
use Rattle.gm_session.proofs.Handing.{Unloading}
use Rattle.gm_session.proofs.applier.Applier.unload.Given as goal

abbrev pub invariant-loop-batch : goal.invariant-loop-batch
invariant-loop-batch g l = record {
  unloading : Unloading g.K.BookName.settings l.fn.desk.number l.fn.self.slot l.fn.session.feeder l.fn.desk.witness.seen l.desk.witness.seen l.session.feeder;
  gathers : Gathers g.K.BookName.settings g.K.BookName.taped l.fn.desk.number l.fn.desk.witness.seen l.fn.effects l.desk.witness.seen l.effects;
  number : l.desk.number ≡ l.fn.desk.number;
}

abbrev pub decreases-loop-batch : goal.decreases-loop-batch
decreases-loop-batch g l = length l.session.feeder.pending
