use Rattle.std.proofs.Common.{length}
use Rattle.gm_jobs.specs.Deadlines.{AllListed, listing}
use Rattle.gm_jobs.proofs.deadlines.gather.Given as goal

abbrev pub invariant-loop-deadline : goal.invariant-loop-deadline
invariant-loop-deadline l = AllListed l.jobs.entries (listing l.waiting l.reached)

abbrev pub decreases-loop-deadline : goal.decreases-loop-deadline
decreases-loop-deadline l = length l.waiting
