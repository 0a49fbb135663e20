use Rattle.std.proofs.Common.{arith}
use Rattle.std.proofs.lemmas.Grind.{common_steps}
use Rattle.gm_plain.proofs.AbilityLemmas.{order_next}
use Rattle.gm_plain.proofs.abilities.as_they_came.Goals as goal

pub loop-note-preserved : goal.loop-note-preserved
loop-note-preserved c = grind (arith, common_steps, order_next)
