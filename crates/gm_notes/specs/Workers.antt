-- The effects of workers' requests.
use Rattle.std.specs.Prelude.{ℕ, ◌+◌, ◌-◌, ◌^◌, Bool, true, false, not, ◌&&◌, ◌==◌, min, if◌then◌else◌, List, filter, codes}
use Rattle.std.specs.Prelude.{Option, Some, None}
use Rattle.gm_packet.specs.Answers.{Answer, no_job, job_assign, job_assign_uniq, work_fail}
use Rattle.gm_notes.specs.declared.note.Note.{Note}
use Rattle.gm_notes.specs.declared.note.Note.TheVariants.{Can, Cant, Slept, Woken, Stirred, Assigned, Ended, Report}
use Rattle.gm_notes.specs.Settings.{Settings}
use Rattle.gm_notes.specs.Notes.{is_open, has_option, phase, is_asleep, is_awake, moment}
use Rattle.gm_notes.specs.Jobs.{Job, job, job_state, listeners, waiting_for, is_empty, pick, handle, job_of_handle}
use Rattle.gm_notes.specs.declared.states.Pick.{Pick}
use Rattle.gm_notes.specs.JobStates.{is_running_at}
use Rattle.gm_notes.specs.Past.{Past, with_note, give, refuse, with_mention, tell_all}
use Rattle.gm_notes.specs.Submissions.{is_bad_name, is_one_too_many}

-- ---- abilities and sleep

-- a sleeping worker is owed a NOOP at once if a job waits that it can do now
abbrev pub wake_if : Bool → ℕ → Past → Past
wake_if true c past = with_note (Woken c) past
wake_if false c past = past

abbrev pub add_ability : ℕ → List ℕ → ℕ → Past → Past
add_ability c f t past =
    wake_if (is_asleep (phase c past.notes) && not (is_empty (waiting_for f past.notes))) c (with_note (Can c f t) (with_mention f past))

abbrev pub can_do : Settings → ℕ → List ℕ → ℕ → Past → Past
can_do k c f t past =
    if is_bad_name f then refuse c (codes "bad_function") past
    else (if is_one_too_many k f past.notes then refuse c (codes "too_many_functions") past
    else add_ability c f t past)

abbrev pub cant_do : ℕ → List ℕ → Past → Past
cant_do c f past = if is_bad_name f then refuse c (codes "bad_function") past else with_note (Cant c f) past

-- it doesn't go to sleep while a job waits that it can do
abbrev pub sleep_beside : Option Pick → ℕ → Past → Past
sleep_beside None c past = past
sleep_beside (Some found) c past = with_note (Woken c) past

abbrev pub pre_sleep : Settings → ℕ → Past → Past
pre_sleep k c past = if is_awake (phase c past.notes) then sleep_beside (pick k c past.notes) c (with_note (Slept c) past) else past

-- ---- grabs

abbrev pub wake_itself : ℕ → Past → Past
wake_itself c past = if is_asleep (phase c past.notes) then with_note (Stirred c) past else past

-- the moment plus the seconds, at most the greatest of 64 bits; none for 0
abbrev pub deadline_after : ℕ → ℕ → Option ℕ
deadline_after now timeout = if timeout == 0 then None else Some (min (now + timeout) (2 ^ 64 - 1))

-- the answer with a job that is given out, with its unique id if the worker asked for it
abbrev pub assignment : Settings → Bool → ℕ → Job → Answer
assignment k true n job = job_assign_uniq (handle k n) job.function job.unique job.body
assignment k false n job = job_assign (handle k n) job.function job.body

abbrev pub tell_assigned : Settings → ℕ → Bool → ℕ → Option Job → Past → Past
tell_assigned k c uniq n None past = past
tell_assigned k c uniq n (Some job) past = give c (assignment k uniq n job) past

abbrev pub give_out : Settings → ℕ → Bool → Option Pick → Past → Past
give_out k c uniq None past = give c no_job past
give_out k c uniq (Some found) past =
    tell_assigned k c uniq found.job (job found.job past.notes)
    (with_note (Assigned found.job c (deadline_after (moment past.notes) found.timeout)) past)

abbrev pub grab : Settings → ℕ → Bool → Past → Past
grab k c uniq past = give_out k c uniq (pick k c past.notes) (wake_itself c past)

-- ---- work

-- a WORK packet's report on its job: the packet to be passed on, whether only to listeners with the exceptions option,
-- the report of how far the job is, if it holds one, and whether the job ends with it
pub record Work : Type 0 where
  pub answer : Answer
  pub exceptions_only : Bool
  pub report : Option (List ℕ × List ℕ)
  pub ends : Bool

abbrev pub keep_report : ℕ → Option (List ℕ × List ℕ) → Past → Past
keep_report n None past = past
keep_report n (Some numbers) past = with_note (Report n numbers.0 numbers.1) past

abbrev pub end_if : Bool → ℕ → Past → Past
end_if true n past = with_note (Ended n) past
end_if false n past = past

-- whether slot c gets exceptions
abbrev pub wants_exceptions : ℕ → List Note → Bool
wants_exceptions c notes = is_open c notes && has_option c notes

-- which slots get it
abbrev pub hearers : Bool → List ℕ → List Note → List ℕ
hearers true slots notes = filter (λ c. wants_exceptions c notes) slots
hearers false slots notes = slots

-- a packet that only some listeners get, and that ends the job: the others get WORK_FAIL
abbrev pub tell_others : Bool → Answer → List ℕ → List Note → Past → Past
tell_others true answer slots notes past = tell_all answer (filter (λ c. not (wants_exceptions c notes)) slots) past
tell_others false answer slots notes past = past

abbrev pub tell_work : Settings → Work → ℕ → Past → Past
tell_work k w n past =
    end_if w.ends n
    (tell_others (w.exceptions_only && w.ends) (work_fail (handle k n)) (listeners n past.notes) past.notes
    (tell_all w.answer (hearers w.exceptions_only (listeners n past.notes) past.notes) (keep_report n w.report past)))

-- the job that the handle names runs at the slot, or the packet is refused
abbrev pub work_on : Settings → ℕ → Work → Option ℕ → Past → Past
work_on k c w None past = refuse c (codes "job_not_found") past
work_on k c w (Some n) past = if is_running_at c (job_state n past.notes) then tell_work k w n past else refuse c (codes "job_not_found") past

abbrev pub work : Settings → ℕ → List ℕ → Work → Past → Past
work k c text w past = work_on k c w (job_of_handle k text past.notes) past
