-- When each note may be added, and that every note of a past was.
use Rattle.std.specs.Prelude.{◌≡◌, ◌⊎◌, ℕ, ◌<◌, ◌≤◌, Bool, true, false, ◌||◌, ◌&&◌, ◌==◌, List, [], ◌∷◌, length, Some, None}
use Rattle.std.specs.List.{list_any}
use Rattle.gm_notes.specs.declared.note.Note.{Note}
use Rattle.gm_notes.specs.declared.note.Note.TheVariants.{Opened, Shut, Closed, Named, OptionSet, Can, Cant, Reset, Slept}
use Rattle.gm_notes.specs.declared.note.Note.TheVariants.{Woken, Stirred, Took, Withdrew, Made, Kept, Listens, Assigned}
use Rattle.gm_notes.specs.declared.note.Note.TheVariants.{Returned, Lost, Ended, Discarded, Report, Mention, Limit, Now, Went}
use Rattle.gm_notes.specs.declared.states.Mode.{Mode}
use Rattle.gm_notes.specs.declared.states.Mode.TheVariants as modes
use Rattle.gm_notes.specs.declared.states.Pick.{Pick}
use Rattle.gm_notes.specs.Settings.{Settings}
use Rattle.gm_notes.specs.Notes.{is_open, phase, is_asleep, is_awake, is_owed, moment, mode}
use Rattle.gm_notes.specs.Jobs.{Job, job_state, job, is_wanted, is_last_try, functions, is_mentioned, limit, total, is_able}
use Rattle.gm_notes.specs.Jobs.{joined, next_number, pick, abilities, is_of}
use Rattle.gm_notes.specs.JobStates.{JobState, is_waiting, is_running, is_live}
use Rattle.gm_notes.specs.JobStates as states

-- slot c's grab gets job n
abbrev pub Gets : Settings → ℕ → ℕ → List Note → Type 0
Gets k c n older = (found : Pick) × (pick k c older ≡ Some found) × (found.job ≡ n)

-- a job with a worker: it runs, and isn't lost
abbrev pub runs_at_a_slot : JobState → Bool
runs_at_a_slot (states.Running c) = true
runs_at_a_slot other = false

-- a job waits that slot c can do
abbrev pub HasWork : ℕ → List Note → Type 0
HasWork c notes = (n : ℕ) × (what : Job) × (job_state n notes ≡ states.Waiting) × (job n notes ≡ Some what) × (is_able c what.function notes ≡ true)

-- slot c can do the function, and a job of it may take this many seconds; 0 is no limit
abbrev pub is_able_within : ℕ → List ℕ → ℕ → List Note → Bool
is_able_within c f seconds notes = list_any (λ ability. is_of f ability && ability.timeout == seconds) (abilities c notes)

-- the function has no limit, or fewer jobs that wait or run
abbrev pub IsBelowLimit : List ℕ → List Note → Type 0
IsBelowLimit f notes = (limit f notes ≡ 0) ⊎ (total f notes < limit f notes)

-- the modes in the order in which they come
abbrev pub progress : Mode → ℕ
progress modes.Running = 0
progress modes.Graceful = 1
progress modes.Stopped = 2

-- when a note may be added to the older ones
abbrev pub Allowed : Settings → Note → List Note → Type 0
Allowed k (Opened c addr) older = (is_open c older ≡ false) × (c < k.slots)
Allowed k (Shut c) older = is_open c older ≡ true
Allowed k (Closed c) older = is_open c older ≡ true
Allowed k (Named c id) older = is_open c older ≡ true
Allowed k (OptionSet c) older = is_open c older ≡ true
Allowed k (Can c f t) older = (is_open c older ≡ true) × (is_mentioned f older ≡ true)
Allowed k (Cant c f) older = is_open c older ≡ true
Allowed k (Reset c) older = is_open c older ≡ true
Allowed k (Slept c) older = (is_open c older ≡ true) × (is_awake (phase c older) ≡ true)
Allowed k (Woken c) older = (is_open c older ≡ true) × (is_asleep (phase c older) ≡ true) × HasWork c older
Allowed k (Stirred c) older = is_asleep (phase c older) ≡ true
Allowed k (Took c) older = is_owed (phase c older) ≡ true
Allowed k (Withdrew c) older = is_owed (phase c older) ≡ true
-- a job gets the next number, and joins nothing; its function is known and below its limit
Allowed k (Made n f p u body) older =
    (next_number k older ≡ Some n) × (joined f u older ≡ None) × (is_mentioned f older ≡ true) × IsBelowLimit f older
Allowed k (Kept n) older = is_live (job_state n older) ≡ true
Allowed k (Listens n c) older = (is_live (job_state n older) ≡ true) × (is_open c older ≡ true)
-- only a waiting job is given out, and only to whose grab gets it
Allowed k (Assigned n c deadline) older = (is_waiting (job_state n older) ≡ true) × (is_open c older ≡ true) × Gets k c n older
-- only a job with a worker waits again or is lost, and only while it is wanted: it is lost exactly if the worker was
-- its last one
Allowed k (Returned n) older = (runs_at_a_slot (job_state n older) ≡ true) × (is_wanted n older ≡ true) × (is_last_try k n older ≡ false)
Allowed k (Lost n) older = (runs_at_a_slot (job_state n older) ≡ true) × (is_wanted n older ≡ true) × (is_last_try k n older ≡ true)
Allowed k (Ended n) older = is_running (job_state n older) ≡ true
-- a job is discarded only if nobody wants it, and never once it is lost
Allowed k (Discarded n) older = ((is_waiting (job_state n older) || runs_at_a_slot (job_state n older)) ≡ true) × (is_wanted n older ≡ false)
Allowed k (Report n a b) older = runs_at_a_slot (job_state n older) ≡ true
Allowed k (Mention f) older = (is_mentioned f older ≡ false) × (length (functions older) < k.max_functions)
Allowed k (Limit f size) older = is_mentioned f older ≡ true
Allowed k (Now t) older = moment older ≤ t
Allowed k (Went m) older = progress (mode older) ≤ progress m

-- every note was allowed when it was added; the newest comes first
abbrev pub History : Settings → List Note → Type 0
History k [] = Unit {0}
History k (note ∷ older) = Allowed k note older × History k older
