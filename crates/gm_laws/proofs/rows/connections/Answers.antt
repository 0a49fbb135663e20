use Rattle.std.proofs.Common.{refl}
use Rattle.std.specs.Fmt.{digits}
use Rattle.gm_laws.proofs.rows.connections.Goals as goal

pub returns-clause-least_slot : goal.returns-clause-least_slot
unfolding digits
returns-clause-least_slot c = (refl, refl, refl)

pub returns-clause-made_jobs : goal.returns-clause-made_jobs
unfolding digits
returns-clause-made_jobs c = (refl, refl, refl, refl)

pub returns-clause-slots_spent : goal.returns-clause-slots_spent
unfolding digits
returns-clause-slots_spent c = (refl, refl, refl)

pub returns-clause-closed_slots : goal.returns-clause-closed_slots
unfolding digits
returns-clause-closed_slots c = (refl, refl, refl, refl, refl, refl)

pub returns-clause-nothing_inherited : goal.returns-clause-nothing_inherited
unfolding digits
returns-clause-nothing_inherited c = refl

pub returns-clause-option_not_inherited : goal.returns-clause-option_not_inherited
unfolding digits
returns-clause-option_not_inherited c = refl

pub returns-clause-sleep_not_inherited : goal.returns-clause-sleep_not_inherited
unfolding digits
returns-clause-sleep_not_inherited c = (refl, refl, refl)

pub returns-clause-shut_not_inherited : goal.returns-clause-shut_not_inherited
unfolding digits
returns-clause-shut_not_inherited c = (refl, refl, refl, refl, refl, refl, refl)

pub returns-clause-listener_not_inherited : goal.returns-clause-listener_not_inherited
unfolding digits
returns-clause-listener_not_inherited c = refl

pub returns-clause-work_not_inherited : goal.returns-clause-work_not_inherited
unfolding digits
returns-clause-work_not_inherited c = (refl, refl)

pub returns-clause-bytes_wait : goal.returns-clause-bytes_wait
unfolding digits
returns-clause-bytes_wait c = (refl, refl, refl, refl, refl, refl, refl)

pub returns-clause-bytes_sent : goal.returns-clause-bytes_sent
unfolding digits
returns-clause-bytes_sent c = refl

pub returns-clause-two_slots : goal.returns-clause-two_slots
unfolding digits
returns-clause-two_slots c = refl

pub returns-clause-returned_job : goal.returns-clause-returned_job
unfolding digits
returns-clause-returned_job c = refl

pub returns-clause-job_retries : goal.returns-clause-job_retries
unfolding digits
returns-clause-job_retries c = (refl, refl, refl, refl, refl)

pub returns-clause-lost_job : goal.returns-clause-lost_job
unfolding digits
returns-clause-lost_job c = (refl, refl, refl, refl)

pub returns-clause-woken_by_return : goal.returns-clause-woken_by_return
unfolding digits
returns-clause-woken_by_return c = (refl, refl)

pub returns-clause-not_itself : goal.returns-clause-not_itself
unfolding digits
returns-clause-not_itself c = (refl, refl)

pub returns-clause-orphaned_job : goal.returns-clause-orphaned_job
unfolding digits
returns-clause-orphaned_job c = refl

pub returns-clause-kept_job : goal.returns-clause-kept_job
unfolding digits
returns-clause-kept_job c = refl

pub returns-clause-only_unwanted : goal.returns-clause-only_unwanted
unfolding digits
returns-clause-only_unwanted c = refl

pub returns-clause-runs_on : goal.returns-clause-runs_on
unfolding digits
returns-clause-runs_on c = refl

pub returns-clause-only_its_jobs : goal.returns-clause-only_its_jobs
unfolding digits
returns-clause-only_its_jobs c = refl
