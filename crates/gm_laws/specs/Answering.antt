-- That job servers with one contract answer alike.
use Rattle.std.specs.Prelude.{◌≡◌, ◌⊎◌, false, List, ◌∷◌, Result, Ok, Err}
use Rattle.std.specs.Result.{IsErrOf}
use Rattle.gm_notes.specs.declared.event.Event.{Event}
use Rattle.gm_notes.specs.declared.event.Event.TheVariants as events
use Rattle.gm_notes.specs.declared.event.Done.{Done}
use Rattle.gm_notes.specs.declared.event.ApplyError.{ApplyError}
use Rattle.gm_notes.specs.declared.event.ApplyError.TheVariants.{Memory}
use Rattle.gm_notes.specs.Settings.{Settings}
use Rattle.gm_notes.specs.Steps.{Step, Open, Packet, Line, Fault, Close, Tick}
use Rattle.gm_notes.specs.Servers.{step_of, Answers, AnswersAt, NeedsNoMemory, steps_after, steps_after_that}
use Rattle.gm_history.specs.Causes.{is_close}

-- the answers that a job server may give to an event after these steps
abbrev pub MayAnswer : Settings → List Step → Event → Result Done ApplyError → Type 0
MayAnswer k steps event answer = Answers k steps (step_of event) answer × (NeedsNoMemory event → IsErrOf answer Memory → ⊥)

-- the one server has no memory for a step that the other takes, and the step is no closing
abbrev pub LacksMemory : Step → Result Done ApplyError → Result Done ApplyError → Type 0
LacksMemory s (Err Memory) (Ok answer) = is_close s ≡ false
LacksMemory s one other = ⊥

-- the step of an event
abbrev pub step_said : Event → Step
step_said (events.Open addr) = Open addr.now
step_said (events.Packet slot kind bytes) = Packet slot kind bytes.bytes.now
step_said (events.Line slot bytes) = Line slot bytes.now
step_said (events.Fault slot fault) = Fault slot fault
step_said (events.Close slot) = Close slot
step_said (events.Tick now) = Tick now

pub record ServersAnswerAlike : Type 0 where
  pub events : (k : Settings) (steps : List Step) (event : Event) (one other : Result Done ApplyError) →
      MayAnswer k steps event one → MayAnswer k steps event other →
      (one ≡ other) ⊎ (LacksMemory (step_of event) one other ⊎ LacksMemory (step_of event) other one)
  pub said : (event : Event) → step_of event ≡ step_said event
  -- the taking and the withdrawal of a NOOP need no memory
  pub noops : (k : Settings) (steps : List Step) (s : Step) (one other : Result (Unit {0}) ApplyError) →
      AnswersAt k steps s one → AnswersAt k steps s other → one ≡ other
  -- an event that is taken adds its step, and a refused one adds none
  pub taken : (steps : List Step) (s : Step) (answer : Done) → steps_after (Ok answer) s steps ≡ s ∷ steps
  pub refused : (steps : List Step) (s : Step) (error : ApplyError) → steps_after (Err error) s steps ≡ steps
  pub noop_taken : (steps : List Step) (s : Step) (answer : Unit {0}) → steps_after_that (Ok answer) s steps ≡ s ∷ steps
  pub noop_refused : (steps : List Step) (s : Step) (error : ApplyError) → steps_after_that (Err error) s steps ≡ steps
