-- The notes as a plain server keeps them: what fits among them, and the room for those that must come without memory.
use Rattle.std.specs.Prelude.{◌≡◌, ℕ, zero, suc, ◌+◌, ◌<◌, ◌≤◌, ◌^◌, Bool, true, false, List, [], ◌∷◌, length, reverse, take}
use Rattle.gm_notes.specs.declared.states.Phase.{Phase}
use Rattle.gm_notes.specs.declared.states.Phase.TheVariants.{Awake, Asleep, Owed}
use Rattle.gm_notes.specs.declared.note.Note.{Note}
use Rattle.gm_notes.specs.declared.note.Note.TheVariants.{Opened, Closed, Slept, Woken, Stirred, Took, Withdrew, Made, Listens, Assigned}
use Rattle.gm_notes.specs.declared.note.Note.TheVariants.{Returned, Lost, Ended, Discarded, Report}
use Rattle.gm_notes.specs.Notes.{is_open, phase, is_asleep, is_owed}
use Rattle.gm_notes.specs.Jobs.{job_state, made}
use Rattle.gm_notes.specs.JobStates.{JobState, is_waiting, is_running, is_running_at, is_live}
use Rattle.gm_notes.specs.JobStates as states
use Rattle.gm_actions.specs.Carried.{IsCarried, AreNumbers}

-- the notes, the newest first; the number of slots; the first job's number; and for how many notes that events
-- find memory for there is some
pub record Logged : Type 0 where
  pub notes : List Note
  pub slots : ℕ
  pub first : ℕ
  pub free : ℕ

-- the slots that a note names are there, and a packet can carry its texts
abbrev pub NoteFits : ℕ → Note → Type 0
NoteFits slots (Opened c addr) = c < slots
NoteFits slots (Listens n c) = c < slots
NoteFits slots (Made n f p u body) = IsCarried f u body × (n < 2 ^ 64)
NoteFits slots (Report n a b) = AreNumbers a b
NoteFits slots note = Unit {0}

abbrev pub AllFit : ℕ → List Note → Type 0
AllFit slots [] = Unit {0}
AllFit slots (note ∷ older) = NoteFits slots note × AllFit slots older

-- f of the n numbers from s on, together
abbrev pub total_of : (ℕ → ℕ) → ℕ → ℕ → ℕ
total_of f s zero = 0
total_of f s (suc n) = total_of f s n + f (s + n)

-- ---- the notes that closings, takings and withdrawals may yet add, which must not need memory

-- an open connection will be closed
abbrev pub due_of_open : Bool → ℕ
due_of_open true = 1
due_of_open false = 0

-- a sleeper is woken, and then its NOOP is taken; a NOOP that is owed is taken or withdrawn
abbrev pub due_of_phase : Phase → ℕ
due_of_phase Awake = 0
due_of_phase Owed = 1
due_of_phase Asleep = 2

-- a job that runs at a slot returns or is lost, and a waiting one is discarded
abbrev pub due_of_job_state : JobState → ℕ
due_of_job_state states.Unmade = 0
due_of_job_state states.Waiting = 1
due_of_job_state (states.Running c) = 2
due_of_job_state states.Lost = 1
due_of_job_state states.Ended = 0
due_of_job_state states.Discarded = 0

abbrev pub slot_due : ℕ → List Note → ℕ
slot_due c notes = due_of_open (is_open c notes) + due_of_phase (phase c notes)

abbrev pub slots_due : ℕ → List Note → ℕ
slots_due slots notes = total_of (λ c. slot_due c notes) 0 slots

-- the numbers of the jobs made are the first and its successors
abbrev pub jobs_due : ℕ → List Note → ℕ
jobs_due first notes = total_of (λ n. due_of_job_state (job_state n notes)) first (length (made notes))

abbrev pub due : ℕ → ℕ → List Note → ℕ
due slots first notes = slots_due slots notes + jobs_due first notes

-- For how many notes an event that adds this one finds memory: for itself, and for those that it makes possible and
-- that come without memory. Notes that another note makes possible are paid for by that note.
abbrev pub weight : Note → ℕ
weight (Opened c addr) = 2
weight (Slept c) = 3
weight (Made n f p u body) = 2
weight (Assigned n c deadline) = 2
weight (Closed c) = 0
weight (Woken c) = 0
weight (Stirred c) = 0
weight (Took c) = 0
weight (Withdrew c) = 0
weight (Returned n) = 0
weight (Lost n) = 0
weight (Ended n) = 0
weight (Discarded n) = 0
weight note = 1

abbrev pub paid : List Note → ℕ
paid [] = 0
paid (note ∷ older) = weight note + paid older

-- a count of the notes, the oldest
abbrev pub oldest : ℕ → List Note → List Note
oldest count notes = reverse (take count (reverse notes))

-- when a note may come that was paid for by another, and what the others mean for those to come
abbrev pub MayCome : ℕ → ℕ → Note → List Note → Type 0
MayCome slots first (Closed c) older = is_open c older ≡ true
MayCome slots first (Woken c) older = (c < slots) × (is_asleep (phase c older) ≡ true)
MayCome slots first (Stirred c) older = (c < slots) × (is_asleep (phase c older) ≡ true)
MayCome slots first (Took c) older = (c < slots) × (is_owed (phase c older) ≡ true)
MayCome slots first (Withdrew c) older = (c < slots) × (is_owed (phase c older) ≡ true)
MayCome slots first (Made n f p u body) older = n ≡ first + length (made older)
MayCome slots first (Assigned n c deadline) older = is_waiting (job_state n older) ≡ true
MayCome slots first (Returned n) older = (c : ℕ) × (is_running_at c (job_state n older) ≡ true)
MayCome slots first (Lost n) older = (c : ℕ) × (is_running_at c (job_state n older) ≡ true)
MayCome slots first (Ended n) older = is_running (job_state n older) ≡ true
MayCome slots first (Discarded n) older = is_live (job_state n older) ≡ true
MayCome slots first note older = Unit {0}

-- a live job is one of those made
abbrev pub AreNumbered : ℕ → List Note → Type 0
AreNumbered first notes = (n : ℕ) → is_live (job_state n notes) ≡ true → (first ≤ n) × (n < first + length (made notes))

-- this many numbers in a row, the first of which is n
abbrev pub numbers_from : ℕ → ℕ → List ℕ
numbers_from n zero = []
numbers_from n (suc count) = n ∷ numbers_from (suc n) count

-- the jobs made are numbered one after another
pub record AreInOrder (first : ℕ) (notes : List Note) : Type 0 where
  pub rising : reverse (made notes) ≡ numbers_from first (length (made notes))
  pub small : first + length (made notes) ≤ 2 ^ 64

-- the invariant of the notes, and that the memory is there for all of them, and for all that may come without memory
pub record IsPaid (slots first : ℕ) (notes : List Note) : Type 0 where
  pub fit : AllFit slots notes
  pub numbered : AreNumbered first notes
  pub in_order : AreInOrder first notes
  pub covered : length notes + due slots first notes ≤ paid notes

-- the most notes of the paying kinds that were added
pub record Spends (count : ℕ) (old new : Logged) : Type 0 where
  pub slots : new.slots ≡ old.slots
  pub first : new.first ≡ old.first
  pub free : old.free ≤ new.free + count
