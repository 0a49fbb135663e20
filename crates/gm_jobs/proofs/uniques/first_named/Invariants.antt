use Rattle.std.proofs.Common.{◌≡◌, ℕ, ◌<◌, false, get_or}
use Rattle.gm_jobs.specs.Live.{is_named}
use Rattle.gm_jobs.specs.Tables.{find_job, passes}
use Rattle.gm_jobs.proofs.uniques.first_named.Given as goal

-- no job so far has the name
abbrev pub invariant-loop-number : goal.invariant-loop-number
invariant-loop-number l = (k : ℕ) → k < l.number-index → passes (is_named l.f l.unique) (find_job l.jobs.entries (get_or l.numbers k 0)) ≡ false
