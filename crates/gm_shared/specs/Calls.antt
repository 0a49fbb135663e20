-- The contract of a call, by the one history of all calls, which exists only in proofs. Its newest entry is the first.
use Rattle.std.specs.Prelude.{◌≡◌, ℕ, ◌+◌, ◌*◌, Bool, true, if◌then◌else◌, List, [], ◌∷◌, ◌++◌, length, Option, Some, None, Result, Ok, Err}
use Rattle.gm_notes.specs.declared.event.ApplyError.{ApplyError}
use Rattle.gm_notes.specs.declared.event.ApplyError.TheVariants.{Memory}
use Rattle.gm_notes.specs.declared.event.Done.{Done}
use Rattle.gm_notes.specs.Settings.{Settings}
use Rattle.gm_notes.specs.Past.{Past}
use Rattle.gm_notes.specs.Notes.{is_open, mode}
use Rattle.gm_notes.specs.Flow.{waiting}
use Rattle.gm_notes.specs.Steps.{Step, refusal, done, run}
use Rattle.gm_notes.specs.Servers.{IsRefusal, is_closing}
use Rattle.gm_shared.specs.declared.events.Noop.{Noop}
use Rattle.gm_shared.specs.declared.events.Noop.TheVariants.{Left}
use Rattle.gm_shared.specs.declared.tape.Entry.{Entry}
use Rattle.gm_shared.specs.declared.receipt.Receipt.{Receipt}
use Rattle.gm_shared.specs.declared.receipt.Drained.{Drained}
use Rattle.gm_shared.specs.Events.{MayFind}
use Rattle.gm_shared.specs.Tapes.{steps_of, Legal, if_event, noop_entries, drain_entry}
use Rattle.gm_shared.specs.Books.{AreTouched, IsDrainRefusal}
use Rattle.gm_shared.specs.Histories.{Knows, calls_by}
use Rattle.gm_shared.specs.Openings.{openings, counted}
use Rattle.gm_shared.specs.Tokens.{if_done}

-- the past of a history
abbrev pub past_of : Settings → List Entry → Past
past_of k log = run k (steps_of log)

-- ---- a desk's call

-- The event was taken after the entries `before`, with the definitions' answer and mode, and with a tape the place
-- after them. Each slot that it changed is among the touched slots, also one that is as it was at `older`, when the call
-- began, since its NOOP was entered as taken and it is owed one again; and each that was changed since `older`.
pub record IsAnswered (k : Settings) (taped : Bool) (s : Step) (receipt : Receipt) (touched : List ℕ) (older before after : List Entry) : Type 0 where
  pub taken : refusal k s (past_of k before) ≡ None
  pub done_is : receipt.done ≡ done k s (past_of k before)
  pub mode_is : receipt.mode ≡ mode (past_of k after).notes
  pub touches : AreTouched k (steps_of older) (steps_of after) touched
  pub renews : AreTouched k (steps_of before) (steps_of after) touched
  pub at_is : receipt.at ≡ (if taped then Some (length before) else None)

abbrev pub Answers : Settings → Bool → Step → Result Receipt ApplyError → List ℕ → List Entry → List Entry → List Entry → Type 0
Answers k taped s (Ok receipt) touched older before after = IsAnswered k taped s receipt touched older before after
Answers k taped s (Err refused) touched older before after = IsRefusal refused (refusal k s (past_of k before))

abbrev pub done_in : Result Receipt ApplyError → Option Done
done_in (Ok receipt) = Some receipt.done
done_in (Err refused) = None

-- the entries that a call adds to the history, the newest first: the NOOP as it was found, and then the event, if taken
abbrev pub added : ℕ → Step → Result Receipt ApplyError → Noop → List Entry
added desk s result noop = if_done desk s (done_in result) (noop_entries desk noop)

-- The call found this of the NOOP of its event's slot, and the event was answered after that.
pub record Asks (k : Settings) (taped : Bool) (s : Step) (desk : ℕ) (noop : Noop) (result : Result Receipt ApplyError) (touched : List ℕ) (before after : List Entry) : Type 0 where
  pub found : MayFind noop s (past_of k before)
  pub after_is : after ≡ added desk s result noop ++ before
  pub answers : Answers k taped s result touched before (noop_entries desk noop ++ before) after

-- A tape is kept, and there was no room for what is entered: then nothing happened.
pub record Lacks (taped : Bool) (noop : Noop) (result : Result Receipt ApplyError) (before after : List Entry) : Type 0 where
  pub on : taped ≡ true
  pub none : noop ≡ Left
  pub result_is : result ≡ Err Memory
  pub after_is : after ≡ before

pub data Calls (k : Settings) (taped : Bool) (s : Step) (desk : ℕ) (noop : Noop) (result : Result Receipt ApplyError) (touched : List ℕ) (before after : List Entry) : Type 0 where
  asks : Asks k taped s desk noop result touched before after → Calls k taped s desk noop result touched before after
  lacks : Lacks taped noop result before after → Calls k taped s desk noop result touched before after

-- A desk's call. When it had the lock, the history was `before`: it goes on from what the desk had seen, with no entry
-- of the desk between. The call added this, nothing was added meanwhile, and the history after it is legal.
pub record DeskCalled (k : Settings) (taped : Bool) (s : Step) (desk : ℕ) (result : Result Receipt ApplyError) (touched : List ℕ) (seen after : List Entry) : Type 0 where
  pub before : List Entry
  pub knows : Knows before (2 * desk) seen
  pub legal : Legal k after
  pub noop : Noop
  pub calls : Calls k taped s desk noop result touched before after

-- the same, whichever slots it touched
abbrev pub Called : Settings → Bool → Step → ℕ → Result Receipt ApplyError → List Entry → List Entry → Type 0
Called k taped s desk result seen after = (touched : List ℕ) × DeskCalled k taped s desk result touched seen after

-- the events among entries; takings and withdrawals of NOOPs are none
abbrev pub events_in : List Entry → List Step
events_in [] = []
events_in (e ∷ older) = if_event e.step (events_in older)

-- the events that a desk handed in, the newest first
abbrev pub events_of : ℕ → List Entry → List Step
events_of desk log = events_in (calls_by (2 * desk) log)

-- The history goes on from what a desk had seen, and meanwhile the desk handed in these events, the newest first.
pub record HandedIn (desk : ℕ) (events : List Step) (seen after : List Entry) : Type 0 where
  pub newer : List Entry
  pub goes_on : after ≡ newer ++ seen
  pub events_are : events_of desk newer ≡ events

-- the event, if it was taken
abbrev pub if_taken : Step → Result Receipt ApplyError → List Step
if_taken s (Ok receipt) = s ∷ []
if_taken s (Err refused) = []

-- ---- a pen's call

abbrev pub drained_entries : ℕ → ℕ → Result Drained ApplyError → List Entry
drained_entries pen slot (Ok drained) = drain_entry pen slot drained.bytes.bytes ∷ []
drained_entries pen slot (Err refused) = []

-- the slot was open, and these were the bytes that waited for it, whether it was shut, and how often it had been opened
pub record IsGiven (k : Settings) (slot : ℕ) (drained : Drained) (before : List Entry) : Type 0 where
  pub opened : is_open slot (past_of k before).notes ≡ true
  pub bytes_are : drained.bytes.bytes ≡ waiting slot (past_of k before).flow
  pub shut_is : drained.shut ≡ is_closing slot (past_of k before)
  pub opening_is : drained.opening ≡ counted (openings slot before)

abbrev pub Gives : Settings → Bool → ℕ → Result Drained ApplyError → List Entry → Type 0
Gives k taped slot (Ok drained) before = IsGiven k slot drained before
Gives k taped slot (Err refused) before = IsDrainRefusal refused slot (past_of k before) taped

-- A drain of a slot by a pen, as a desk's call. A refused drain enters nothing.
pub record PenCalled (k : Settings) (taped : Bool) (pen slot : ℕ) (result : Result Drained ApplyError) (seen after : List Entry) : Type 0 where
  pub before : List Entry
  pub knows : Knows before (2 * pen + 1) seen
  pub legal : Legal k after
  pub gives : Gives k taped slot result before
  pub after_is : after ≡ drained_entries pen slot result ++ before
