-- The promise, out to the threads: what the one history of a server's calls says of its connections. Its newest entry
-- is the first. A history that is legal was so at each earlier moment, so what is said of legal histories holds at each
-- moment.
use Rattle.std.specs.Prelude.{◌≡◌, ℕ, true, not, ◌⊎◌, List, [], ◌∷◌, ◌++◌, All, reverse, Option, Some}
use Rattle.std.specs.List.{list_all}
use Rattle.gm_packet.specs.Answers.{answer_packet, job_created}
use Rattle.gm_feeder.specs.declared.units.Limits.{Limits}
use Rattle.gm_feeder.specs.Units.{Item}
use Rattle.gm_front.specs.Units.{steps_of as steps_of_units, BeginsWith}
use Rattle.gm_notes.specs.declared.event.UnitFault.{UnitFault}
use Rattle.gm_notes.specs.Settings.{Settings}
use Rattle.gm_notes.specs.Notes.{is_open}
use Rattle.gm_notes.specs.Jobs.{Job, job_state, job, handle}
use Rattle.gm_notes.specs.JobStates.{is_live}
use Rattle.gm_notes.specs.Past.{Past}
use Rattle.gm_notes.specs.Steps.{Step}
use Rattle.gm_laws.specs.Laws.{is_gone}
use Rattle.gm_history.specs.Causes.{asks, is_foreground, closes}
use Rattle.gm_laws.specs.Turns.{One}
use Rattle.gm_laws.specs.Listeners.{Queues, Tells}
use Rattle.gm_laws.specs.Submitted.{MakesJob, GivesTheJob}
use Rattle.gm_laws.specs.Between.{NoWaitingJobIsOrphaned, NoOneSleepsBesideWork}
use Rattle.gm_shared.specs.declared.tape.Actor.TheVariants as actors
use Rattle.gm_shared.specs.declared.tape.TapeStep.TheVariants as tape
use Rattle.gm_shared.specs.declared.tape.Entry.{Entry}
use Rattle.gm_shared.specs.Tapes.{step_in, steps_of, Legal}
use Rattle.gm_shared.specs.Calls.{events_of, past_of}
use Rattle.gm_session.specs.Sessions.{HandsIn}
use Rattle.gm_slots.specs.Owners.{AreOwn, said_at}
use Rattle.gm_slots.specs.Given.{given, GivenSo}

-- ---- what was handed in

-- A session handed in the units of what it read, while what its desk had seen grew from this to that: they are the
-- desk's events in the history, in their order, and nothing of the desk's between them.
abbrev pub SessionsAreInTheHistory : Type 0
SessionsAreInTheHistory = (k : Settings) (desk c : ℕ) (limits : Limits) (bytes rest : List ℕ) (fault : Option UnitFault) (seen after newer : List Entry)
    → HandsIn k desk c limits bytes rest fault seen after
    → (items : List Item) × BeginsWith limits bytes items rest
    × (events_of desk (newer ++ after) ≡ events_of desk newer ++ (reverse (steps_of_units k c items fault) ++ events_of desk seen))

-- ---- whose it is

-- The units, faults and closings of each slot, in their order, are those that its desk handed in; and what waited for
-- it, its pen drained. No other desk or pen has a part in it.
abbrev pub NoSlotSpeaksForAnother : Type 0
NoSlotSpeaksForAnother = (log : List Entry) → AreOwn log → (c : ℕ)
    → (said_at c (steps_of log) ≡ said_at c (events_of c log)) × All (λ (e : Entry). e.step ≡ tape.Drain c → e.actor ≡ actors.Pen c) log

-- ---- what was sent

abbrev pub BytesAreInTheHistory : Type 0
BytesAreInTheHistory = (k : Settings) (log : List Entry) → Legal k log → (c : ℕ) → GivenSo (is_open c (past_of k log).notes) (given c log) c (past_of k log).flow

-- ---- what follows

-- Once a job has ended it is in no other state at any later moment.
abbrev pub JobsEndOnce : Type 0
JobsEndOnce = (k : Settings) (later older : List Entry) → Legal k (later ++ older) → (n : ℕ) → is_gone (job_state n (past_of k older).notes) ≡ true
    → job_state n (past_of k (later ++ older)).notes ≡ job_state n (past_of k older).notes

-- No worker sleeps that can do a job that waits.
abbrev pub NoWorkerSleepsBesideItsWork : Type 0
NoWorkerSleepsBesideItsWork = (k : Settings) (log : List Entry) → Legal k log → NoOneSleepsBesideWork k (past_of k log).notes

-- Each job that waits is wanted.
abbrev pub WaitingJobsAreWanted : Type 0
WaitingJobsAreWanted = (k : Settings) (log : List Entry) → Legal k log → NoWaitingJobIsOrphaned k (past_of k log).notes

-- It is so of each entry: of its step, the past before it, and the past with it.
abbrev pub InEachEntry : (Settings → Past → Step → Past → Type 0) → Type 0
InEachEntry P = (k : Settings) (older : List Entry) (e : Entry) → Legal k (e ∷ older) → P k (past_of k older) (step_in e.step) (past_of k (e ∷ older))

-- Each job is what one of the entries submitted, and the slot that is given it gets just this.
abbrev pub WhatIsSubmittedIsWorkedOn : Type 0
WhatIsSubmittedIsWorkedOn =
    ((k : Settings) (log : List Entry) → Legal k log → (n : ℕ) (what : Job) → job n (past_of k log).notes ≡ Some what → One (MakesJob k n what) (steps_of log) [])
    × InEachEntry GivesTheJob

-- A slot that submits a job in the foreground is told its handle. As long as the slot isn't closed, the job waits or
-- runs, or one of the steps since told the slot of its end.
abbrev pub ClientsAreTold : Type 0
ClientsAreTold = (k : Settings) (later older : List Entry) (e : Entry) → Legal k (later ++ e ∷ older)
    → (c : ℕ) (text : List ℕ) → asks is_foreground c (step_in e.step) ≡ true
    → Queues c (answer_packet (job_created text) ∷ []) (past_of k older) (past_of k (e ∷ older))
    → list_all (λ t. not (closes c t)) (steps_of later) ≡ true
    → (n : ℕ) × (text ≡ handle k n)
    × ((is_live (job_state n (past_of k (later ++ e ∷ older)).notes) ≡ true) ⊎ One (Tells k c n) (steps_of later) (steps_of (e ∷ older)))
