-- Invariants of the notes between steps.
use Rattle.std.specs.Prelude.{◌≡◌, ◌⊎◌, ℕ, ◌<◌, true, false, List, Some}
use Rattle.gm_notes.specs.declared.note.Note.{Note}
use Rattle.gm_notes.specs.Settings.{Settings}
use Rattle.gm_notes.specs.Notes.{is_open, phase, is_asleep}
use Rattle.gm_notes.specs.Jobs.{Job, job_state, job, is_able, is_kept, listeners}
use Rattle.gm_notes.specs.JobStates as states
use Rattle.gm_history.specs.Hearing.{AllOpen, listens}

-- a slot that listens to a job is open
abbrev pub ListenersAreOpen : Settings → List Note → Type 0
ListenersAreOpen k notes = (n : ℕ) → AllOpen (listeners n notes) notes

-- the slot where a job runs is open
abbrev pub RunnersAreOpen : Settings → List Note → Type 0
RunnersAreOpen k notes = (n c : ℕ) → job_state n notes ≡ states.Running c → is_open c notes ≡ true

-- a background submission keeps the job, or a slot listens to it
abbrev pub IsAwaited : ℕ → List Note → Type 0
IsAwaited n notes = (is_kept n notes ≡ true) ⊎ ((c : ℕ) × (0 < listens c n notes))

-- so it is with each waiting job
abbrev pub NoWaitingJobIsOrphaned : Settings → List Note → Type 0
NoWaitingJobIsOrphaned k notes = (n : ℕ) → job_state n notes ≡ states.Waiting → IsAwaited n notes

-- a worker that sleeps can do none of the jobs that wait
abbrev pub NoOneSleepsBesideWork : Settings → List Note → Type 0
NoOneSleepsBesideWork k notes = (c n : ℕ) (what : Job) →
    is_asleep (phase c notes) ≡ true → job_state n notes ≡ states.Waiting → job n notes ≡ Some what → is_able c what.function notes ≡ false
