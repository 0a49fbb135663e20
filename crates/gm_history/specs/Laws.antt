-- Laws of every history.
use Rattle.std.specs.Prelude.{◌≡◌, ℕ, ◌==◌, Bool, true, false, if◌then◌else◌, List, [], ◌∷◌, ◌++◌}
use Rattle.gm_notes.specs.declared.note.Note.{Note}
use Rattle.gm_notes.specs.declared.states.Phase.TheVariants.{Awake}
use Rattle.gm_notes.specs.Settings.{Settings}
use Rattle.gm_notes.specs.Notes.{is_open, phase}
use Rattle.gm_notes.specs.Flow.{Flow, Began, Queued, Drained, Emptied, sent, waiting}
use Rattle.gm_notes.specs.Past.{Past}
use Rattle.gm_notes.specs.Steps.{Step, run}
use Rattle.gm_history.specs.Causes.{AllCaused}

-- P holds of the notes after any steps
abbrev pub AfterAnySteps : (Settings → List Note → Type 0) → Type 0
AfterAnySteps P = (k : Settings) (steps : List Step) → P k (run k steps).notes

-- a slot that sleeps, or is owed a NOOP, is open: a slot that isn't open is awake
abbrev pub SleepersAreOpen : Type 0
SleepersAreOpen = (k : Settings) (steps : List Step) (c : ℕ) → is_open c (run k steps).notes ≡ false → phase c (run k steps).notes ≡ Awake

-- the bytes taken from slot c since it was opened
abbrev pub drained : ℕ → List Flow → List ℕ
drained c [] = []
drained c (Began d ∷ older) = if c == d then [] else drained c older
drained c (Queued d bytes ∷ older) = drained c older
drained c (Drained d ∷ older) = if c == d then drained c older ++ waiting c older else drained c older
drained c (Emptied d ∷ older) = drained c older

-- nothing was emptied since it was opened
abbrev pub is_kept_up : ℕ → List Flow → Bool
is_kept_up c [] = true
is_kept_up c (Began d ∷ older) = if c == d then true else is_kept_up c older
is_kept_up c (Emptied d ∷ older) = if c == d then false else is_kept_up c older
is_kept_up c (Queued d bytes ∷ older) = is_kept_up c older
is_kept_up c (Drained d ∷ older) = is_kept_up c older

-- the one list begins with the other
abbrev pub IsPrefix : List ℕ → List ℕ → Type 0
IsPrefix part whole = (rest : List ℕ) × (whole ≡ part ++ rest)

-- between steps: of a slot that is open, what was drained since it was opened, followed by what waits, is what was
-- sent; for one that isn't nothing waits, and what was drained is a prefix of what was sent
abbrev pub SentSo : Bool → ℕ → List Flow → Type 0
SentSo true c flow = sent c flow ≡ drained c flow ++ waiting c flow
SentSo false c flow = (waiting c flow ≡ []) × IsPrefix (drained c flow) (sent c flow)

abbrev pub BytesArrive : Type 0
BytesArrive = (k : Settings) (steps : List Step) (c : ℕ) → SentSo (is_open c (run k steps).notes) c (run k steps).flow

-- ---- what a step does

-- P holds of each step after any steps, under any settings: of the past before it, the step, and the past after it
abbrev pub InEachStep : (Settings → Past → Step → Past → Type 0) → Type 0
InEachStep P = (k : Settings) (steps : List Step) (s : Step) → P k (run k steps) s (run k (s ∷ steps))

-- each note that a step adds has its cause
abbrev pub NotesAreCaused : Settings → Past → Step → Past → Type 0
NotesAreCaused k before s after = (newer : List Note) × (after.notes ≡ newer ++ before.notes) × AllCaused k before.notes s newer
