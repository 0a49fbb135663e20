use Rattle.std.proofs.Common.{◌^◌, ◌-◌}
use Rattle.gm_jobs.proofs.LeaveLemmas.{LeftUpTo}
use Rattle.gm_jobs.proofs.index.leave_each.Given as goal

abbrev pub invariant-loop-number : goal.invariant-loop-number
invariant-loop-number l = LeftUpTo l.slot l.hints l.initial.jobs l.i l.jobs l.last

abbrev pub decreases-loop-number : goal.decreases-loop-number
decreases-loop-number l = 2 ^ 63 - l.i
