-- The facts of the past that tables answer: those of connections, of functions and of jobs. A note that doesn't concern
-- them leaves them as they are.
use Rattle.std.specs.Prelude.{ℕ, Bool, ◌&&◌, List, filter, length, Option}
use Rattle.gm_notes.specs.declared.states.Phase.{Phase}
use Rattle.gm_notes.specs.declared.states.Priority.{Priority}
use Rattle.gm_notes.specs.declared.note.Note.{Note}
use Rattle.gm_notes.specs.Notes.{is_open, is_shut, has_option, phase, addr, id}
use Rattle.gm_notes.specs.Jobs.{Ability, Job, abilities, functions, limit, made, as_they_came, job_state, is_job_with, job}
use Rattle.gm_notes.specs.Jobs.{is_kept, listeners, report, deadline, returns, last_function}
use Rattle.gm_notes.specs.JobStates.{JobState, is_waiting, is_running}

-- the facts of the connection in a slot while it is open
pub record Seen : Type 0 where
  pub is_shut : Bool
  pub has_option : Bool
  pub phase : Phase
  pub addr : List ℕ
  pub id : List ℕ
  pub abilities : List Ability
  pub last : Option (List ℕ)

abbrev pub seen : ℕ → List Note → Seen
seen c notes =
    record {
      is_shut = is_shut c notes;
      has_option = has_option c notes;
      phase = phase c notes;
      addr = addr c notes;
      id = id c notes;
      abilities = abilities c notes;
      last = last_function c notes;
    }

-- the connections: which slots are open, and what is known of each
pub record ConnFacts : Type 0 where
  pub is_open : ℕ → Bool
  pub seen : ℕ → Seen

abbrev pub conn_facts : List Note → ConnFacts
conn_facts notes = record { is_open = λ c. is_open c notes; seen = λ c. seen c notes }

-- the functions mentioned, the first first, and their limits
pub record FunctionFacts : Type 0 where
  pub names : List (List ℕ)
  pub limit : List ℕ → ℕ

abbrev pub function_facts : List Note → FunctionFacts
function_facts notes = record { names = functions notes; limit = λ f. limit f notes }

-- the jobs: those made, the newest first; as they last came to wait, the first first; and what is known of each
pub record JobFacts : Type 0 where
  pub made : List ℕ
  pub came : List ℕ
  pub job_state : ℕ → JobState
  pub job : ℕ → Option Job
  pub kept : ℕ → Bool
  pub listeners : ℕ → List ℕ
  pub report : ℕ → List ℕ × List ℕ
  pub deadline : ℕ → Option ℕ
  pub returns : ℕ → ℕ

abbrev pub job_facts : List Note → JobFacts
job_facts notes =
    record {
      made = made notes;
      came = as_they_came notes;
      job_state = λ n. job_state n notes;
      job = λ n. job n notes;
      kept = λ n. is_kept n notes;
      listeners = λ n. listeners n notes;
      report = λ n. report n notes;
      deadline = λ n. deadline n notes;
      returns = λ n. returns n notes;
    }

-- the job waits, or runs, and is of this function and priority
abbrev pub waits_with : List ℕ → Priority → JobFacts → ℕ → Bool
waits_with f p facts n = is_waiting (facts.job_state n) && is_job_with f p (facts.job n)

abbrev pub runs_with : List ℕ → Priority → JobFacts → ℕ → Bool
runs_with f p facts n = is_running (facts.job_state n) && is_job_with f p (facts.job n)

-- the waiting jobs of a function and a priority, in order, and how many of them run
abbrev pub queued : List ℕ → Priority → JobFacts → List ℕ
queued f p facts = filter (waits_with f p facts) facts.came

abbrev pub running_with : List ℕ → Priority → JobFacts → ℕ
running_with f p facts = length (filter (runs_with f p facts) facts.made)
