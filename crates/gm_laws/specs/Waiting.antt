-- Which of the jobs that wait a grab gets, and which workers are woken for them.
use Rattle.std.specs.Prelude.{◌≡◌, ◌⊎◌, ℕ, zero, suc, ◌+◌, ◌-◌, ◌^◌, ◌<◌, min, true, false, ◌==◌, if◌then◌else◌}
use Rattle.std.specs.Prelude.{List, [], ◌∷◌, ◌++◌, length, Option, Some, None}
use Rattle.gm_packet.specs.Kinds.{kind_of}
use Rattle.gm_packet.specs.Answers.{no_job}
use Rattle.gm_notes.specs.declared.note.Note.{Note}
use Rattle.gm_notes.specs.declared.note.Note.TheVariants.{Made, Returned}
use Rattle.gm_notes.specs.declared.states.Priority.{Priority}
use Rattle.gm_notes.specs.declared.states.Priority.TheVariants.{High, Normal, Low}
use Rattle.gm_notes.specs.Settings.{Settings}
use Rattle.gm_notes.specs.Notes.{takes_units, moment}
use Rattle.gm_notes.specs.Jobs.{Job, job_state, job, deadline, queue, is_able}
use Rattle.gm_notes.specs.JobStates as states
use Rattle.gm_notes.specs.Past.{Past}
use Rattle.gm_notes.specs.Servers.{owes}
use Rattle.gm_notes.specs.Steps.{Step, Packet, run}
use Rattle.gm_history.specs.History.{HasWork, is_able_within}
use Rattle.gm_history.specs.Causes.{is_one_of, is_grab, JustQueues}

-- ---- which job goes first

-- when the job last came to wait: how many notes there were before
abbrev pub came : ℕ → List Note → ℕ
came n [] = 0
came n (Made m f p u body ∷ older) = if n == m then length older else came n older
came n (Returned m ∷ older) = if n == m then length older else came n older
came n (note ∷ older) = came n older

-- high goes before normal and low, and normal before low
abbrev pub IsHigher : Priority → Priority → Type 0
IsHigher High Normal = Unit {0}
IsHigher High Low = Unit {0}
IsHigher Normal Low = Unit {0}
IsHigher p q = ⊥

-- job n, which is this, goes before job m, which is that: by priority, and then by when they came
abbrev pub GoesBefore : List Note → ℕ → Job → ℕ → Job → Type 0
GoesBefore notes n what m other = IsHigher what.priority other.priority ⊎ ((what.priority ≡ other.priority) × (came n notes < came m notes))

-- the job that a slot is given goes before each other of its function that waited
abbrev pub GivesTheFirst : Past → Past → Type 0
GivesTheFirst before after = (c n m : ℕ) (what other : Job) →
    job_state n before.notes ≡ states.Waiting → job_state n after.notes ≡ states.Running c → job_state m before.notes ≡ states.Waiting →
    job n before.notes ≡ Some what → job m before.notes ≡ Some other → other.function ≡ what.function → (n ≡ m → ⊥) →
    GoesBefore before.notes n what m other

-- m is ahead of n in the list
abbrev pub IsAhead : ℕ → ℕ → List ℕ → Type 0
IsAhead m n ns = (before between after : List ℕ) × (ns ≡ before ++ m ∷ (between ++ n ∷ after))

-- nothing gets in before job n, which waits before and after a step: what is ahead of it in its queue was ahead of it
-- already
abbrev pub NothingGetsInBefore : Past → Past → Type 0
NothingGetsInBefore before after = (n m : ℕ) (what : Job) →
    job_state n before.notes ≡ states.Waiting → job_state n after.notes ≡ states.Waiting → job n before.notes ≡ Some what →
    IsAhead m n (queue what.function what.priority after.notes) → IsAhead m n (queue what.function what.priority before.notes)

abbrev pub FirstComeFirstServed : Settings → Past → Step → Past → Type 0
FirstComeFirstServed k before s after = GivesTheFirst before after × NothingGetsInBefore before after

-- with as_gearmand no job waits that the slot can do and whose priority is higher than that of the job that the slot is
-- given
abbrev pub HighGoesFirst : Settings → Past → Step → Past → Type 0
HighGoesFirst k before s after = (c n m : ℕ) (what other : Job) → k.as_gearmand ≡ true →
    job_state n before.notes ≡ states.Waiting → job_state n after.notes ≡ states.Running c → job n before.notes ≡ Some what →
    job_state m before.notes ≡ states.Waiting → job m before.notes ≡ Some other → is_able c other.function before.notes ≡ true →
    IsHigher other.priority what.priority → ⊥

-- ---- which workers are woken

-- a NOOP becomes owed to a slot only in a step after which a job waits that the slot can do
abbrev pub WakesHaveWork : Settings → Past → Step → Past → Type 0
WakesHaveWork k before s after = (c : ℕ) → owes c before ≡ false → owes c after ≡ true → HasWork c after.notes

-- ---- what a grab gets

-- a job that is given out at this moment and may take this many seconds has this deadline: the moment plus the seconds,
-- at most the greatest number of 64 bits; 0 seconds are no limit
abbrev pub IsDeadline : ℕ → ℕ → Option ℕ → Type 0
IsDeadline now zero deadline = deadline ≡ None
IsDeadline now (suc seconds) deadline = deadline ≡ Some (min (now + suc seconds) (2 ^ 64 - 1))

-- slot c is answered with NO_JOB, and no job waits that it can do
abbrev pub HasNoWork : ℕ → Past → Past → Type 0
HasNoWork c before after = JustQueues c no_job before after × (HasWork c before.notes → ⊥)

-- a job that waited and that slot c can do runs there, with the time limit of the slot's ability for its function
abbrev pub IsGiven : ℕ → Past → Past → Type 0
IsGiven c before after =
    (n : ℕ) × (what : Job) × (seconds : ℕ)
    × (job_state n before.notes ≡ states.Waiting) × (job n before.notes ≡ Some what) × (is_able_within c what.function seconds before.notes ≡ true)
    × (job_state n after.notes ≡ states.Running c) × IsDeadline (moment before.notes) seconds (deadline n after.notes)

-- A grab of a slot that takes units is answered with NO_JOB exactly if no job waits that the slot can do.
abbrev pub NoJobMeansNoWork : Type 0
NoJobMeansNoWork = (k : Settings) (steps : List Step) (c number : ℕ) →
    let before = run k steps in
    let after = run k (Packet c number [] ∷ steps) in
    is_one_of is_grab (kind_of number) ≡ true → takes_units c before.notes ≡ true → HasNoWork c before after ⊎ IsGiven c before after
