-- The effects of closings and ticks.
use Rattle.std.specs.Prelude.{ℕ, Bool, false, not, ◌&&◌, nat_le, max, if◌then◌else◌, List, [], ◌∷◌, reverse, Option, Some, None}
use Rattle.gm_packet.specs.Answers.{work_fail}
use Rattle.gm_notes.specs.declared.note.Note.TheVariants.{Closed, Returned, Lost, Ended, Discarded, Now}
use Rattle.gm_notes.specs.Settings.{Settings}
use Rattle.gm_notes.specs.Notes.{moment}
use Rattle.gm_notes.specs.Flow.{Emptied}
use Rattle.gm_notes.specs.Jobs.{Job, job_state, job, made, is_wanted, is_last_try, listeners, deadline, handle}
use Rattle.gm_notes.specs.JobStates.{is_waiting, is_running, is_running_at}
use Rattle.gm_notes.specs.Past.{Past, with_note, with_flow, tell_all, wake}
use Rattle.gm_notes.specs.Workers.{wake_itself}

-- ---- closing

-- a waiting job that nobody wants is discarded
abbrev pub discard_one : ℕ → Past → Past
discard_one n past = if is_waiting (job_state n past.notes) && not (is_wanted n past.notes) then with_note (Discarded n) past else past

abbrev pub discard_each : List ℕ → Past → Past
discard_each [] past = past
discard_each (n ∷ jobs) past = discard_each jobs (discard_one n past)

abbrev pub wake_for : Settings → Option Job → Past → Past
wake_for k None past = past
wake_for k (Some job) past = wake k job.function past

-- a job that its worker gives back waits again, or is lost if that was its last try
abbrev pub return_or_lose : Settings → ℕ → Past → Past
return_or_lose k n past =
    if is_last_try k n past.notes then with_note (Lost n) past else wake_for k (job n past.notes) (with_note (Returned n) past)

-- a job that ran at slot c is given back if it is wanted, and is discarded if not
abbrev pub give_back_one : Settings → ℕ → ℕ → Past → Past
give_back_one k c n past =
    if is_running_at c (job_state n past.notes)
    then (if is_wanted n past.notes then return_or_lose k n past else with_note (Discarded n) past)
    else past

abbrev pub give_back_each : Settings → ℕ → List ℕ → Past → Past
give_back_each k c [] past = past
give_back_each k c (n ∷ jobs) past = give_back_each k c jobs (give_back_one k c n past)

-- the connection in slot c closes, and what waited for it is dropped
abbrev pub disconnect : ℕ → Past → Past
disconnect c past = with_flow (Emptied c) (with_note (Closed c) (wake_itself c past))

-- the jobs made, in the order of their numbers
abbrev pub rising : Past → List ℕ
rising past = reverse (made past.notes)

abbrev pub close : Settings → ℕ → Past → Past
close k c past = give_back_each k c (rising past) (discard_each (rising past) (disconnect c past))

-- ---- ticks

abbrev pub is_reached : Option ℕ → ℕ → Bool
is_reached None now = false
is_reached (Some late) now = nat_le late now

-- a running job whose deadline is reached has failed; its worker gets nothing
abbrev pub expire_one : Settings → ℕ → Past → Past
expire_one k n past =
    if is_running (job_state n past.notes) && is_reached (deadline n past.notes) (moment past.notes)
    then with_note (Ended n) (tell_all (work_fail (handle k n)) (listeners n past.notes) past)
    else past

abbrev pub expire_each : Settings → List ℕ → Past → Past
expire_each k [] past = past
expire_each k (n ∷ jobs) past = expire_each k jobs (expire_one k n past)

abbrev pub tick : Settings → ℕ → Past → Past
tick k now past = expire_each k (rising past) (with_note (Now (max now (moment past.notes))) past)
