use Rattle.std.proofs.Common.{refl}
use Rattle.std.specs.Fmt.{digits}
use Rattle.gm_laws.proofs.rows.workers.Goals as goal

pub returns-clause-ability_order : goal.returns-clause-ability_order
unfolding digits
returns-clause-ability_order c = refl

pub returns-clause-round_robin : goal.returns-clause-round_robin
unfolding digits
returns-clause-round_robin c = (refl, refl)

pub returns-clause-priority_first : goal.returns-clause-priority_first
unfolding digits
returns-clause-priority_first c = (refl, refl)

pub returns-clause-round_robin_anew : goal.returns-clause-round_robin_anew
unfolding digits
returns-clause-round_robin_anew c = refl

pub returns-clause-only_its_functions : goal.returns-clause-only_its_functions
unfolding digits
returns-clause-only_its_functions c = refl

pub returns-clause-queue_order : goal.returns-clause-queue_order
unfolding digits
returns-clause-queue_order c = refl

pub returns-clause-one_wake : goal.returns-clause-one_wake
unfolding digits
returns-clause-one_wake c = (refl, refl)

pub returns-clause-one_wake_then : goal.returns-clause-one_wake_then
unfolding digits
returns-clause-one_wake_then c = (refl, refl)

pub returns-clause-all_wake : goal.returns-clause-all_wake
unfolding digits
returns-clause-all_wake c = refl

pub returns-clause-only_able_wake : goal.returns-clause-only_able_wake
unfolding digits
returns-clause-only_able_wake c = refl

pub returns-clause-work_before_sleep : goal.returns-clause-work_before_sleep
unfolding digits
returns-clause-work_before_sleep c = (refl, refl)

pub returns-clause-work_before_ability : goal.returns-clause-work_before_ability
unfolding digits
returns-clause-work_before_ability c = (refl, refl)

pub returns-clause-only_its_work : goal.returns-clause-only_its_work
unfolding digits
returns-clause-only_its_work c = (refl, refl)

pub returns-clause-work_before_grab : goal.returns-clause-work_before_grab
unfolding digits
returns-clause-work_before_grab c = (refl, refl)

pub returns-clause-grab_stirs : goal.returns-clause-grab_stirs
unfolding digits
returns-clause-grab_stirs c = (refl, refl)

pub returns-clause-stale_noop : goal.returns-clause-stale_noop
unfolding digits
returns-clause-stale_noop c = (refl, refl)

pub returns-clause-still_owed : goal.returns-clause-still_owed
unfolding digits
returns-clause-still_owed c = refl

pub returns-clause-withdrawn_noop : goal.returns-clause-withdrawn_noop
unfolding digits
returns-clause-withdrawn_noop c = (refl, refl, refl, refl)

pub returns-clause-taken_noop : goal.returns-clause-taken_noop
unfolding digits
returns-clause-taken_noop c = (refl, refl, refl, refl, refl)

pub returns-clause-deadline : goal.returns-clause-deadline
unfolding digits
returns-clause-deadline c = refl

pub returns-clause-no_deadline : goal.returns-clause-no_deadline
unfolding digits
returns-clause-no_deadline c = refl

pub returns-clause-time_limits : goal.returns-clause-time_limits
unfolding digits
returns-clause-time_limits c = refl

pub returns-clause-time_stands : goal.returns-clause-time_stands
unfolding digits
returns-clause-time_stands c = refl

pub returns-clause-edges_of_time : goal.returns-clause-edges_of_time
unfolding digits
returns-clause-edges_of_time c = refl

pub returns-clause-expired_together : goal.returns-clause-expired_together
unfolding digits
returns-clause-expired_together c = refl

pub returns-clause-deadline_forgotten : goal.returns-clause-deadline_forgotten
unfolding digits
returns-clause-deadline_forgotten c = refl
