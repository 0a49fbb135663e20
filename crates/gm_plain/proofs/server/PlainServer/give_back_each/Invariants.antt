use Rattle.gm_notes.specs.Closings.{give_back_each}
use Rattle.gm_plain.proofs.ServerLoops.{OverJobs}
use Rattle.gm_plain.proofs.server.PlainServer.give_back_each.Given as goal

abbrev pub invariant-loop-index : goal.invariant-loop-index
invariant-loop-index l = OverJobs l.fn.self l.self (λ k. give_back_each k l.slot) l.index
