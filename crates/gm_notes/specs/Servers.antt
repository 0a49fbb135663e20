-- The contract of `JobServer`, call by call.
use Rattle.std.specs.Prelude.{◌≡◌, ℕ, ◌≤◌, Bool, ◌&&◌, List, ◌∷◌, length, Option, Some, None, Result, Ok, Err}
use Rattle.gm_notes.specs.declared.event.Event.{Event}
use Rattle.gm_notes.specs.declared.event.Event.TheVariants as events
use Rattle.gm_notes.specs.declared.event.Done.{Done}
use Rattle.gm_notes.specs.declared.event.ApplyError.{ApplyError}
use Rattle.gm_notes.specs.declared.event.ApplyError.TheVariants.{Memory, NotOpen, NoSlot, NotOwed, Refusing}
use Rattle.gm_notes.specs.Settings.{Settings}
use Rattle.gm_notes.specs.Notes.{is_open, is_shut, phase, is_owed}
use Rattle.gm_notes.specs.Past.{Past}
use Rattle.gm_notes.specs.Steps.{Step, Open, Packet, Line, Fault, Close, Tick, refusal}
use Rattle.gm_notes.specs.Steps.{done, run}

-- the step that an event is, wherever its bytes lie
abbrev pub step_of : Event → Step
step_of (events.Open addr) = Open addr.now
step_of (events.Packet slot kind bytes) = Packet slot kind bytes.bytes.now
step_of (events.Line slot bytes) = Line slot bytes.now
step_of (events.Fault slot fault) = Fault slot fault
step_of (events.Close slot) = Close slot
step_of (events.Tick now) = Tick now

-- the precondition of handing in an event: a packet has at most 1,073,741,824 bytes of data
abbrev pub IsSized : Event → Type 0
IsSized (events.Open addr) = Unit {0}
IsSized (events.Packet slot kind bytes) = length bytes.bytes.now ≤ 1073741824
IsSized (events.Line slot bytes) = Unit {0}
IsSized (events.Fault slot fault) = Unit {0}
IsSized (events.Close slot) = Unit {0}
IsSized (events.Tick now) = Unit {0}

-- A refusal is the definitions', but that Memory comes only for a step that would otherwise be taken.
abbrev pub IsRefusal : ApplyError → Option ApplyError → Type 0
IsRefusal Memory stands = stands ≡ None
IsRefusal NotOpen stands = stands ≡ Some NotOpen
IsRefusal NoSlot stands = stands ≡ Some NoSlot
IsRefusal NotOwed stands = stands ≡ Some NotOwed
IsRefusal Refusing stands = stands ≡ Some Refusing

-- the answer to a step after these steps
abbrev pub Answers : Settings → List Step → Step → Result Done ApplyError → Type 0
Answers k steps s (Ok answer) = (refusal k s (run k steps) ≡ None) × (answer ≡ done k s (run k steps))
Answers k steps s (Err refused) = IsRefusal refused (refusal k s (run k steps))

-- a closing needs no memory
abbrev pub NeedsNoMemory : Event → Type 0
NeedsNoMemory (events.Open addr) = ⊥
NeedsNoMemory (events.Packet slot kind bytes) = ⊥
NeedsNoMemory (events.Line slot bytes) = ⊥
NeedsNoMemory (events.Fault slot fault) = ⊥
NeedsNoMemory (events.Close slot) = Unit {0}
NeedsNoMemory (events.Tick now) = ⊥

-- the steps taken, once a step is answered so
abbrev pub steps_after : Result Done ApplyError → Step → List Step → List Step
steps_after (Ok answer) s steps = s ∷ steps
steps_after (Err refused) s steps = steps

-- whether a slot is open and takes no more units
abbrev pub is_closing : ℕ → Past → Bool
is_closing c past = is_open c past.notes && is_shut c past.notes

-- whether a NOOP is owed to a slot that is open
abbrev pub owes : ℕ → Past → Bool
owes c past = is_open c past.notes && is_owed (phase c past.notes)

-- the answer to the taking or the withdrawal of a NOOP after these steps; never Memory
abbrev pub AnswersAt : Settings → List Step → Step → Result (Unit {0}) ApplyError → Type 0
AnswersAt k steps s (Ok answer) = refusal k s (run k steps) ≡ None
AnswersAt k steps s (Err refused) = refusal k s (run k steps) ≡ Some refused

abbrev pub steps_after_that : Result (Unit {0}) ApplyError → Step → List Step → List Step
steps_after_that (Ok answer) s steps = s ∷ steps
steps_after_that (Err refused) s steps = steps
