use Rattle.std.proofs.Common.{length}
use Rattle.gm_core.proofs.TickLemmas.{Expiring}
use Rattle.gm_core.proofs.server.Tables.expire_each.Given as goal

abbrev pub invariant-loop-late : goal.invariant-loop-late
invariant-loop-late l = Expiring l.fn.self l.self l.lates.items

abbrev pub decreases-loop-late : goal.decreases-loop-late
decreases-loop-late l = length l.lates.items
