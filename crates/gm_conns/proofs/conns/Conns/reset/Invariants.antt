use Rattle.std.proofs.Common.{length}
use Rattle.gm_conns.specs.ConnTables.{conn, LosesAbilities}
use Rattle.gm_conns.proofs.conns.Conns.reset.Given as goal

abbrev pub invariant-loop : goal.invariant-loop
invariant-loop l = LosesAbilities l.slot l.initial.self l.self

abbrev pub decreases-loop : goal.decreases-loop
decreases-loop l = length (conn l.self l.slot).abilities
