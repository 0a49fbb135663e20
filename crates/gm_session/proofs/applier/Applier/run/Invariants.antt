use Rattle.std.proofs.Common.{◌≡◌}
use Rattle.gm_session.proofs.Handing.{Reading}
use Rattle.gm_session.proofs.applier.Applier.run.Given as goal

abbrev pub invariant-loop : goal.invariant-loop
invariant-loop g l = record {
  reading : Reading g.K.BookName.settings l.fn.desk.number l.fn.self.slot l.fn.session.feeder.limits (g.I.Read.remaining l.fn.reader) (g.I.Read.remaining l.reader) l.fn.desk.witness.seen l.desk.witness.seen l.session.feeder l.session.has_units;
  number : l.desk.number ≡ l.fn.desk.number;
}
