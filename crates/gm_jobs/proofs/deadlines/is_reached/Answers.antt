use Rattle.std.proofs.Common.{◌<◌, arith}
use Rattle.std.proofs.lemmas.Bool.Decides.{nat_tests}
use Rattle.gm_jobs.proofs.deadlines.is_reached.Goals as goal

pub returns-in-Some : goal.returns-in-Some
returns-in-Some c = λ e d n there. let least = c.in-Some.ensures.least d n there in let late : c.args.now < c.in-Some.deadline = grind (arith, nat_tests) in omega arith
