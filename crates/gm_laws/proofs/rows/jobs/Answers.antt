use Rattle.std.proofs.Common.{refl}
use Rattle.std.specs.Fmt.{digits}
use Rattle.gm_laws.proofs.rows.jobs.Goals as goal

pub returns-clause-priorities : goal.returns-clause-priorities
unfolding digits
returns-clause-priorities c = refl

pub returns-clause-six_priorities : goal.returns-clause-six_priorities
unfolding digits
returns-clause-six_priorities c = refl

pub returns-clause-six_keepings : goal.returns-clause-six_keepings
unfolding digits
returns-clause-six_keepings c = refl

pub returns-clause-six_hearings : goal.returns-clause-six_hearings
unfolding digits
returns-clause-six_hearings c = refl

pub returns-clause-joined_listeners : goal.returns-clause-joined_listeners
unfolding digits
returns-clause-joined_listeners c = refl

pub returns-clause-joined_job : goal.returns-clause-joined_job
unfolding digits
returns-clause-joined_job c = refl

pub returns-clause-joining_keys : goal.returns-clause-joining_keys
unfolding digits
returns-clause-joining_keys c = refl

pub returns-clause-joins_running : goal.returns-clause-joins_running
unfolding digits
returns-clause-joins_running c = (refl, refl)

pub returns-clause-ended_jobs : goal.returns-clause-ended_jobs
unfolding digits
returns-clause-ended_jobs c = refl

pub returns-clause-only_its_worker : goal.returns-clause-only_its_worker
unfolding digits
returns-clause-only_its_worker c = refl

pub returns-clause-progress : goal.returns-clause-progress
unfolding digits
returns-clause-progress c = refl

pub returns-clause-report_kept : goal.returns-clause-report_kept
unfolding digits
returns-clause-report_kept c = refl

pub returns-clause-exceptions_option : goal.returns-clause-exceptions_option
unfolding digits
returns-clause-exceptions_option c = refl

pub returns-clause-exception_ends : goal.returns-clause-exception_ends
unfolding digits
returns-clause-exception_ends c = refl

pub returns-clause-data_with_nul : goal.returns-clause-data_with_nul
unfolding digits
returns-clause-data_with_nul c = refl

pub returns-clause-queue_limit : goal.returns-clause-queue_limit
unfolding digits
returns-clause-queue_limit c = refl

pub returns-clause-limit_counts : goal.returns-clause-limit_counts
unfolding digits
returns-clause-limit_counts c = refl

pub returns-clause-function_limit : goal.returns-clause-function_limit
unfolding digits
returns-clause-function_limit c = refl

pub returns-clause-last_number : goal.returns-clause-last_number
unfolding digits
returns-clause-last_number c = refl

pub returns-clause-refusal_order : goal.returns-clause-refusal_order
unfolding digits
returns-clause-refusal_order c = refl

pub returns-clause-function_names : goal.returns-clause-function_names
unfolding digits
returns-clause-function_names c = refl

pub returns-clause-handles : goal.returns-clause-handles
unfolding digits
returns-clause-handles c = refl

pub returns-clause-places : goal.returns-clause-places
unfolding digits
returns-clause-places c = (refl, refl, refl, refl, refl, refl, refl)
