-- The contents of a core's tables, by the definitions.
use Rattle.std.specs.Prelude.{◌≡◌, ℕ, zero, suc, ◌+◌, ◌<◌, ◌≤◌, ◌^◌, true, false, not, ◌&&◌, ◌==◌, if◌then◌else◌, codes, List, [], ◌∷◌, length, map}
use Rattle.std.specs.Prelude.{filter, slice_get, slice_index_or, Option, Some, None, Bool, Result, Ok, Err, IfOk}
use Rattle.std.specs.Option.{unwrap_or, option_map}
use Rattle.gm_notes.specs.declared.states.Priority.{Priority}
use Rattle.gm_notes.specs.declared.states.Phase.{Phase}
use Rattle.gm_notes.specs.declared.states.Mode.{Mode}
use Rattle.gm_notes.specs.Settings.{Settings}
use Rattle.gm_notes.specs.Notes.{phase, is_asleep, moment, mode}
use Rattle.gm_notes.specs.Flow.{waiting}
use Rattle.gm_notes.specs.Jobs.{Ability, Job, made, is_empty, waiting_for}
use Rattle.gm_notes.specs.JobStates.{JobState, is_running, place_of}
use Rattle.gm_notes.specs.JobStates as states
use Rattle.gm_notes.specs.declared.note.Note.TheVariants.{Made}
use Rattle.gm_notes.specs.Past.{Past, with_note}
use Rattle.gm_notes.specs.Workers.{wake_if}
use Rattle.gm_notes.specs.Steps.{Step, made_since}
use Rattle.gm_conns.specs.Connections.{Connection}
use Rattle.gm_conns.specs.ConnTables.{conn, is_touched}
use Rattle.gm_conns.specs.ConnTables as conns
use Rattle.gm_queues.specs.FunctionTables.{number_of, limit, queue}
use Rattle.gm_queues.specs.FunctionTables as queues
use Rattle.gm_jobs.specs.declared.job.LivePlace.{LivePlace}
use Rattle.gm_jobs.specs.declared.job.LivePlace.TheVariants.{Waiting, Running, Lost}
use Rattle.gm_jobs.specs.Live.{Live}
use Rattle.gm_jobs.specs.Tables.{job, place, is_made}
use Rattle.gm_jobs.specs.Tables as jobs
use Rattle.gm_core.specs.declared.server.Tables.{Tables}
use Rattle.gm_actions.specs.Effects.{Changes, Agrees}
use Rattle.gm_notes.specs.Submissions.{Submission, keep_or_listen}
use Rattle.gm_core.specs.Facts.{Seen, ConnFacts, FunctionFacts, JobFacts, conn_facts, function_facts, job_facts, queued, running_with}

-- ---- connections

-- the function of this number
abbrev pub name_at : List (List ℕ) → ℕ → List ℕ
name_at names f = slice_index_or names f []

abbrev pub ability_named : List (List ℕ) → ℕ × ℕ → Ability
ability_named names ability = record { function = name_at names ability.0; timeout = ability.1 }

-- a connection by the table, with the functions by name
abbrev pub shown : List (List ℕ) → Connection → Seen
shown names conn =
    record {
      is_shut = conn.is_shut;
      has_option = conn.has_option;
      phase = conn.phase;
      addr = conn.addr;
      id = conn.id;
      abilities = map (ability_named names) conn.abilities;
      last = option_map (name_at names) conn.last;
    }

-- each is for a function that there is
abbrev pub AreFunctions : List (List ℕ) → List (ℕ × ℕ) → Type 0
AreFunctions names [] = Unit {0}
AreFunctions names (ability ∷ abilities) = (ability.0 < length names) × AreFunctions names abilities

-- if there is one, it is a function that there is
abbrev pub IsFunction : List (List ℕ) → Option ℕ → Type 0
IsFunction names None = Unit {0}
IsFunction names (Some f) = f < length names

-- all functions that the connection names are there
abbrev pub NamesFunctions : List (List ℕ) → Connection → Type 0
NamesFunctions names conn = AreFunctions names conn.abilities × IsFunction names conn.last

pub record HoldsConns (k : Settings) (table : conns.Table) (names : List (List ℕ)) (facts : ConnFacts) (bytes : ℕ → List ℕ) : Type 0 where
  pub slots : length table.conns ≡ k.slots
  pub opens : (c : ℕ) → (conn table c).is_open ≡ facts.is_open c
  pub seen : (c : ℕ) → facts.is_open c ≡ true → shown names (conn table c) ≡ facts.seen c
  pub waiting : (c : ℕ) → (conn table c).waiting ≡ bytes c
  pub able : (c : ℕ) → NamesFunctions names (conn table c)

-- ---- functions

abbrev pub limit_named : Option ℕ → queues.Table → ℕ
limit_named None table = 0
limit_named (Some f) table = limit table f

abbrev pub jobs_named : Option ℕ → Priority → queues.Table → List ℕ
jobs_named None p table = []
jobs_named (Some f) p table = (queue table f p).jobs

pub record HoldsFunctions (k : Settings) (table : queues.Table) (facts : FunctionFacts) : Type 0 where
  pub most : table.most ≡ k.max_functions
  pub few : length table.names ≤ table.most
  pub names : table.names ≡ facts.names
  pub distinct : (f : ℕ) (name : List ℕ) → slice_get table.names f ≡ Some name → number_of name table ≡ Some f
  pub limits : (name : List ℕ) → limit_named (number_of name table) table ≡ facts.limit name

-- ---- jobs

-- a count of numbers from the first on, the greatest first
abbrev pub numbers_down : ℕ → ℕ → List ℕ
numbers_down first zero = []
numbers_down first (suc n) = (first + n) ∷ numbers_down first n

abbrev pub job_state_at : LivePlace → JobState
job_state_at Waiting = states.Waiting
job_state_at (Running c) = states.Running c
job_state_at Lost = states.Lost

-- how often a job came back, if that is counted: without a limit it isn't
abbrev pub counted : ℕ → ℕ → ℕ
counted limit returns = if limit == 0 then 0 else returns

abbrev pub described : List (List ℕ) → Live → Job
described names live = record { function = name_at names live.function; priority = live.priority; unique = live.unique; body = live.body }

-- each of these slots is open
abbrev pub AreOpen : (ℕ → Bool) → List ℕ → Type 0
AreOpen is_open [] = Unit {0}
AreOpen is_open (c ∷ slots) = (is_open c ≡ true) × AreOpen is_open slots

-- the facts of a live job
pub record IsJob (names : List (List ℕ)) (live : Live) (facts : JobFacts) (is_open : ℕ → Bool) (n : ℕ) : Type 0 where
  pub function : live.function < length names
  pub job : facts.job n ≡ Some (described names live)
  pub job_state : facts.job_state n ≡ job_state_at live.live_place
  pub kept : facts.kept n ≡ live.kept
  pub listeners : facts.listeners n ≡ live.listeners
  pub report : facts.report n ≡ unwrap_or live.report (codes "0", codes "0")
  pub deadline : facts.deadline n ≡ live.deadline
  pub heard : AreOpen is_open live.listeners

pub record HoldsJobs (k : Settings) (functions : queues.Table) (table : jobs.Table) (is_open : ℕ → Bool) (facts : JobFacts) : Type 0 where
  pub begins : 0 < k.first_job
  pub first : table.first ≡ k.first_job
  pub next : table.next ≡ k.first_job + length facts.made
  pub most : table.next ≤ 2 ^ 64
  pub made : facts.made ≡ numbers_down k.first_job (length facts.made)
  pub came : (P : ℕ → Bool) → length (filter P facts.came) ≡ length (filter P facts.made)
  pub numbered : (n : ℕ) (found : Live) → job table n ≡ Some found → is_made table n ≡ true
  pub places : (n : ℕ) → place table n ≡ place_of (facts.job_state n)
  pub live : (n : ℕ) (found : Live) → job table n ≡ Some found → IsJob functions.names found facts is_open n
  pub counts : (n : ℕ) (found : Live) → job table n ≡ Some found → found.returns ≡ counted k.retries (facts.returns n)
  pub queues : (name : List ℕ) (p : Priority) → jobs_named (number_of name functions) p functions ≡ queued name p facts
  pub room : (f : ℕ) (p : Priority) → f < length functions.names
      → (queue functions f p).reserved ≡ length (queue functions f p).jobs + running_with (name_at functions.names f) p facts

-- ---- the core

-- the tables hold what has happened
pub record Holds (k : Settings) (connections : conns.Table) (mentioned : queues.Table) (live : jobs.Table) (now : ℕ) (goes : Mode) (past : Past) : Type 0 where
  pub conns : HoldsConns k connections mentioned.names (conn_facts past.notes) (λ c. waiting c past.flow)
  pub functions : HoldsFunctions k mentioned (function_facts past.notes)
  pub jobs : HoldsJobs k mentioned live (conn_facts past.notes).is_open (job_facts past.notes)
  pub moment : now ≡ moment past.notes
  pub mode : goes ≡ mode past.notes

abbrev pub Keeps : Tables → Past → Type 0
Keeps core past = Holds core.config core.conns core.functions core.jobs core.moment core.mode past

-- they hold the past, whatever it was
abbrev pub IsKept : Tables → Type 0
IsKept tables = (past : Past) × Keeps tables past

-- ---- what a call does

-- the part of a connection that a caller looks after: the bytes that wait, the phase, and whether it is shut
abbrev pub outbox : Connection → List ℕ × Phase × Bool
outbox conn = (conn.waiting, conn.phase, conn.is_shut)

-- a slot where that changed is touched, and touched slots stay touched
pub record AllTouched (old new : conns.Table) : Type 0 where
  pub others : (c : ℕ) → is_touched new c ≡ false → (is_touched old c ≡ false) × (outbox (conn new c) ≡ outbox (conn old c))

-- a further promise of every call
abbrev pub TouchesAll : Tables → Tables → Type 0
TouchesAll old new = AllTouched old.conns new.conns

abbrev pub config_of : Tables → Settings
config_of core = core.config

-- the past changes so, whatever it is, and the settings stay; if a slot's outbox changes, the slot is touched
abbrev pub Goes : Tables → Tables → (Past → Past) → Type 0
Goes old new change = Changes config_of Keeps TouchesAll old new change

-- no job was made: the functions stay, and with these or any others the past stays
pub record MakesNone (old new : Tables) : Type 0 where
  pub functions : new.functions ≡ old.functions
  pub goes : (functions : queues.Table) → Goes (record old { functions = functions }) (record new { functions = functions }) (λ past. past)

-- a call that ran out of memory changes nothing
abbrev pub if_ok : {A E : Type 0} → Result A E → (Past → Past) → Past → Past
if_ok (Ok answer) change past = change past
if_ok (Err failed) change past = past

-- so it does, unless the call is out of memory: then the past stays
abbrev pub Does : {A E : Type 0} → Tables → Result A E → Tables → (Past → Past) → Type 0
Does old result new change = Goes old new (if_ok result change)

-- the answer is the job that the change makes of what they held, if it makes one
abbrev pub Makes : {E : Type 0} → Tables → Result (Option ℕ) E → (Past → Past) → Type 0
Makes old result change = IfOk result (λ answer. (past : Past) → Keeps old past → answer ≡ made_since (made past.notes) (made (change past).notes))

-- the core holds what these steps give under these settings
abbrev pub CoreAgrees : Tables → Settings → List Step → Type 0
CoreAgrees core k steps = Agrees config_of Keeps core k steps

-- ---- what is handed on

-- a sleeping worker is owed a NOOP at once if a job of the function waits
abbrev pub wake_if_waiting : ℕ → List ℕ → Past → Past
wake_if_waiting c f past = wake_if (is_asleep (phase c past.notes) && not (is_empty (waiting_for f past.notes))) c past

-- a job is made, which is wanted
abbrev pub add_job : ℕ → Submission → ℕ → Past → Past
add_job c s n past = keep_or_listen c s n (with_note (Made n s.function s.priority s.unique s.body) past)

-- the listeners of a job from the start: none, if it was submitted in the background
abbrev pub first_listener : Bool → ℕ → Option ℕ
first_listener true c = None
first_listener false c = Some c
