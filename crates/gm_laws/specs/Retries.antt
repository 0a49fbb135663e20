-- With a limit on retries: how often a job is handed out, which jobs are lost, and when they end.
use Rattle.std.specs.Prelude.{◌≡◌, ℕ, suc, ◌<◌, ◌≤◌, Bool, true, false, ◌==◌, if◌then◌else◌, List, [], ◌∷◌, ◌++◌}
use Rattle.gm_notes.specs.declared.note.Note.{Note}
use Rattle.gm_notes.specs.declared.note.Note.TheVariants.{Assigned, Returned, Lost}
use Rattle.gm_notes.specs.Settings.{Settings}
use Rattle.gm_notes.specs.Jobs.{job_state, is_wanted}
use Rattle.gm_notes.specs.JobStates as states
use Rattle.gm_notes.specs.Past.{Past}
use Rattle.gm_notes.specs.Steps.{Step}
use Rattle.gm_history.specs.History.{runs_at_a_slot}
use Rattle.gm_history.specs.Causes.{is_tick}

-- ---- how often

-- how many of the notes say so
abbrev pub times : (Note → Bool) → List Note → ℕ
times says [] = 0
times says (note ∷ older) = if says note then suc (times says older) else times says older

-- job n is handed out
abbrev pub hands_out : ℕ → Note → Bool
hands_out n (Assigned m c deadline) = n == m
hands_out n note = false

-- it waits again, since its worker went
abbrev pub gives_back : ℕ → Note → Bool
gives_back n (Returned m) = n == m
gives_back n note = false

-- it is lost
abbrev pub loses : ℕ → Note → Bool
loses n (Lost m) = n == m
loses n note = false

-- ---- the laws

-- if there is a limit, no job is handed out more often
abbrev pub NoJobIsHandedOutMoreOften : Settings → List Note → Type 0
NoJobIsHandedOutMoreOften k notes = 0 < k.retries → (n : ℕ) → times (hands_out n) notes ≤ k.retries

-- a job is lost once at most, and without a limit never
abbrev pub NoJobIsLostTwice : Settings → List Note → Type 0
NoJobIsLostTwice k notes = (n : ℕ) → times (loses n) notes ≤ (if k.retries == 0 then 0 else 1)

-- when job n was lost, after these notes: it ran at a slot, it had been handed out as often as the limit says and had
-- come back each time but the last, and it was wanted
abbrev pub IsLostSo : Settings → List Note → ℕ → Type 0
IsLostSo k older n =
    (0 < k.retries) × (runs_at_a_slot (job_state n older) ≡ true) × (times (hands_out n) older ≡ k.retries)
    × (suc (times (gives_back n) older) ≡ k.retries) × (is_wanted n older ≡ true)

abbrev pub OnlyTheLastTryLoses : Settings → List Note → Type 0
OnlyTheLastTryLoses k notes = (newer older : List Note) (n : ℕ) → notes ≡ newer ++ Lost n ∷ older → IsLostSo k older n

-- a lost job ends with the next tick, and until then it stays lost
abbrev pub LostJobsEndWithTheNextTick : Settings → Past → Step → Past → Type 0
LostJobsEndWithTheNextTick k before s after =
    (n : ℕ) → job_state n before.notes ≡ states.Lost → job_state n after.notes ≡ (if is_tick s then states.Ended else states.Lost)
