-- The numbers of refusals.
use Rattle.std.specs.Prelude.{ℕ}
use Rattle.gm_jobs.specs.declared.jobs.JobError.{JobError}
use Rattle.gm_jobs.specs.declared.jobs.JobError.TheVariants.{Memory, NumbersSpent}

abbrev pub job_error_number : JobError → ℕ
job_error_number Memory = 6
job_error_number NumbersSpent = 15
