use Rattle.gm_notes.specs.Closings.{expire_each}
use Rattle.gm_plain.specs.Holds.{Grew}
use Rattle.gm_plain.proofs.ServerLoops.{OverJobs}
use Rattle.gm_plain.proofs.server.PlainServer.expire_each.Given as goal

abbrev pub invariant-loop-index : goal.invariant-loop-index
invariant-loop-index l = record {
  over : OverJobs l.fn.self l.self expire_each l.index;
  grew : Grew l.fn.self l.self;
}
