use Rattle.gm_notes.specs.Closings.{discard_each}
use Rattle.gm_plain.proofs.ServerLoops.{OverJobs}
use Rattle.gm_plain.proofs.server.PlainServer.discard_each.Given as goal

abbrev pub invariant-loop-index : goal.invariant-loop-index
invariant-loop-index l = OverJobs l.fn.self l.self (λ k. discard_each) l.index
