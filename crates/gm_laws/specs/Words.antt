-- The meaning of the words that other laws take from the definitions.
use Rattle.std.specs.Prelude.{◌≡◌, ℕ, Bool, true, false, List, [], ◌∷◌, codes, Option, Some}
use Rattle.std.specs.List.{concat}
use Rattle.gm_notes.specs.declared.note.Note.{Note}
use Rattle.gm_notes.specs.declared.states.Phase.{Phase}
use Rattle.gm_notes.specs.declared.states.Phase.TheVariants.{Awake, Asleep, Owed}
use Rattle.gm_notes.specs.Notes.{is_open, is_shut, has_option, phase, is_asleep, is_awake}
use Rattle.gm_notes.specs.Flow.{Flow, sent}
use Rattle.gm_notes.specs.Jobs.{Job, job_state, job, is_job_of, is_wanted, functions, is_mentioned, joins, is_live_named, waiting_for, is_empty}
use Rattle.gm_notes.specs.JobStates.{JobState, is_waiting, is_running, is_running_at, is_live}
use Rattle.gm_notes.specs.JobStates as states
use Rattle.gm_notes.specs.Past.{Past}
use Rattle.gm_notes.specs.Servers.{is_closing, owes}
use Rattle.gm_notes.specs.Requests.{first, second, third}
use Rattle.gm_notes.specs.Workers.{wants_exceptions}
use Rattle.gm_laws.specs.Between.{IsAwaited}
use Rattle.gm_laws.specs.Laws.{IsAmong}
use Rattle.gm_laws.specs.Listeners.{outputs}

-- a job that waits, runs or is lost lives
abbrev pub lives : JobState → Bool
lives states.Waiting = true
lives (states.Running c) = true
lives states.Lost = true
lives states.Unmade = false
lives states.Ended = false
lives states.Discarded = false

-- a job that is lost counts as one that runs, until the next tick
abbrev pub works : JobState → Bool
works (states.Running c) = true
works states.Lost = true
works states.Waiting = false
works states.Unmade = false
works states.Ended = false
works states.Discarded = false

-- the slot is open, and takes no more units
abbrev pub IsOpenAndShut : ℕ → Past → Type 0
IsOpenAndShut c past = (is_open c past.notes ≡ true) × (is_shut c past.notes ≡ true)

-- the slot is open, and a NOOP is owed to it
abbrev pub IsOpenAndOwed : ℕ → Past → Type 0
IsOpenAndOwed c past = (is_open c past.notes ≡ true) × (phase c past.notes ≡ Owed)

-- it is a job of the function
abbrev pub IsJobOf : List ℕ → Option Job → Type 0
IsJobOf f found = (what : Job) × (found ≡ Some what) × (what.function ≡ f)

-- a submission with this unique id joins
abbrev pub IsJoining : List ℕ → Type 0
IsJoining u = (u ≡ [] → ⊥) × (u ≡ codes "-" → ⊥)

-- the job lives, and has this function and this unique id
abbrev pub IsLiveNamed : List ℕ → List ℕ → List Note → ℕ → Type 0
IsLiveNamed f u notes n = (is_live (job_state n notes) ≡ true) × ((what : Job) × (job n notes ≡ Some what) × (what.function ≡ f) × (what.unique ≡ u))

-- a job of the function waits
abbrev pub SomethingWaits : List ℕ → List Note → Type 0
SomethingWaits f notes = (n : ℕ) × (what : Job) × (job_state n notes ≡ states.Waiting) × (job n notes ≡ Some what) × (what.function ≡ f)

pub record WordsMean : Type 0 where
  pub live : (state : JobState) → is_live state ≡ lives state
  pub running : (state : JobState) → is_running state ≡ works state
  pub waiting : (state : JobState) → (is_waiting state ≡ true → state ≡ states.Waiting) × (state ≡ states.Waiting → is_waiting state ≡ true)
  pub running_at : (c : ℕ) (state : JobState) → (is_running_at c state ≡ true → state ≡ states.Running c) × (state ≡ states.Running c → is_running_at c state ≡ true)
  pub wanted : (n : ℕ) (notes : List Note) → (is_wanted n notes ≡ true → IsAwaited n notes) × (IsAwaited n notes → is_wanted n notes ≡ true)
  pub of_function : (f : List ℕ) (found : Option Job) → (is_job_of f found ≡ true → IsJobOf f found) × (IsJobOf f found → is_job_of f found ≡ true)
  pub joining : (u : List ℕ) → (joins u ≡ true → IsJoining u) × (IsJoining u → joins u ≡ true)
  pub live_named : (f u : List ℕ) (notes : List Note) (n : ℕ) →
      (is_live_named f u notes n ≡ true → IsLiveNamed f u notes n) × (IsLiveNamed f u notes n → is_live_named f u notes n ≡ true)
  pub queued : (f : List ℕ) (notes : List Note) →
      (is_empty (waiting_for f notes) ≡ false → SomethingWaits f notes) × (SomethingWaits f notes → is_empty (waiting_for f notes) ≡ false)
  pub mentioned : (f : List ℕ) (notes : List Note) →
      (is_mentioned f notes ≡ true → IsAmong f (functions notes)) × (IsAmong f (functions notes) → is_mentioned f notes ≡ true)
  pub closing : (c : ℕ) (past : Past) → (is_closing c past ≡ true → IsOpenAndShut c past) × (IsOpenAndShut c past → is_closing c past ≡ true)
  pub owing : (c : ℕ) (past : Past) → (owes c past ≡ true → IsOpenAndOwed c past) × (IsOpenAndOwed c past → owes c past ≡ true)
  pub asleep : (phase : Phase) → (is_asleep phase ≡ true → phase ≡ Asleep) × (phase ≡ Asleep → is_asleep phase ≡ true)
  pub awake : (phase : Phase) → (is_awake phase ≡ true → phase ≡ Awake) × (phase ≡ Awake → is_awake phase ≡ true)
  pub excepting : (c : ℕ) (notes : List Note) →
      (wants_exceptions c notes ≡ true → (is_open c notes ≡ true) × (has_option c notes ≡ true))
      × ((is_open c notes ≡ true) × (has_option c notes ≡ true) → wants_exceptions c notes ≡ true)
  pub one : (a : List ℕ) (more : List (List ℕ)) → first (a ∷ more) ≡ a
  pub two : (a b : List ℕ) (more : List (List ℕ)) → second (a ∷ b ∷ more) ≡ b
  pub three : (a b c : List ℕ) (more : List (List ℕ)) → third (a ∷ b ∷ c ∷ more) ≡ c
  -- the bytes sent to a slot are those queued to it since it was opened, joined
  pub all_sent : (flow : List Flow) (c : ℕ) → sent c flow ≡ concat (outputs c flow)
