-- Single notes, for the searches over them.
use Rattle.std.specs.Prelude.{◌≡◌, ℕ, Bool, true, false, not, ◌&&◌, ◌==◌, if◌then◌else◌, List, [], ◌∷◌, ◌++◌, filter, Option, Some, None}
use Rattle.std.specs.Option.{option_map}
use Rattle.std.specs.Str.{bytes_eq}
use Rattle.gm_notes.specs.declared.note.Note.{Note}
use Rattle.gm_notes.specs.declared.note.Note.TheVariants.{Opened, Closed, Can, Cant, Reset, Made, Listens, Returned, Mention}
use Rattle.gm_plain.specs.declared.abilities.Ability.{Ability as FoundAbility}
use Rattle.gm_plain.specs.declared.connections.SlotFacts.{SlotFacts}
use Rattle.gm_plain.specs.declared.jobs.JobFacts.{JobFacts}
use Rattle.gm_notes.specs.Notes.{last_said, said_of, is_open, is_shut, addr, id, has_option, phase, is_asleep}
use Rattle.gm_notes.specs.Jobs.{Job, Ability, put, is_of, is_able, is_job_of, is_live_of, job_state, job, is_kept, report, returns, deadline}
use Rattle.gm_notes.specs.JobStates.{is_running, place_of}
use Rattle.gm_actions.specs.Actions.{job_of, report_of}

-- this is what the notes say of slot c
pub record Sees (c : ℕ) (notes : List Note) (facts : SlotFacts) : Type 0 where
  pub is_open : facts.is_open ≡ is_open c notes
  pub is_shut : facts.is_shut ≡ is_shut c notes
  pub addr : facts.addr.now ≡ addr c notes
  pub id : facts.id.now ≡ id c notes
  pub has_option : facts.has_option ≡ has_option c notes
  pub phase : facts.phase ≡ phase c notes

-- this is what the notes say of job n
pub record Knows (n : ℕ) (notes : List Note) (facts : JobFacts) : Type 0 where
  pub job : option_map job_of facts.job ≡ job n notes
  pub place : facts.place ≡ place_of (job_state n notes)
  pub is_kept : facts.is_kept ≡ is_kept n notes
  pub report : report_of facts.report ≡ report n notes
  pub returns : facts.returns ≡ returns n notes
  pub deadline : facts.deadline ≡ deadline n notes

-- whether the function was mentioned, if the note says so
abbrev pub says_mentioned : List ℕ → Note → Option Bool
says_mentioned f (Mention g) = if bytes_eq g f then Some true else None
says_mentioned f note = None

-- whether slot c can do the function, if the note says so
abbrev pub says_able : ℕ → List ℕ → Note → Option Bool
says_able c f (Opened d addr) = said_of c d false
says_able c f (Closed d) = said_of c d false
says_able c f (Reset d) = said_of c d false
says_able c f (Can d g t) = if c == d && bytes_eq g f then Some true else None
says_able c f (Cant d g) = if c == d && bytes_eq g f then Some false else None
says_able c f note = None

-- an ability that was found
abbrev pub ability_of : FoundAbility → Ability
ability_of found = record { function = found.function.now; timeout = found.timeout }

-- the abilities of slot c after the note
abbrev pub abilities_after : ℕ → Note → List Ability → List Ability
abilities_after c (Opened d addr) abilities = if c == d then [] else abilities
abilities_after c (Closed d) abilities = if c == d then [] else abilities
abilities_after c (Reset d) abilities = if c == d then [] else abilities
abilities_after c (Can d f t) abilities = if c == d then put f t abilities else abilities
abilities_after c (Cant d f) abilities = if c == d then filter (λ ability. not (is_of f ability)) abilities else abilities
abilities_after c note abilities = abilities

-- the listeners of job n after the note
abbrev pub listeners_after : ℕ → Note → List ℕ → List ℕ
listeners_after n (Made m f p u body) slots = if n == m then [] else slots
listeners_after n (Listens m c) slots = if n == m then slots ++ c ∷ [] else slots
listeners_after n (Closed c) slots = filter (λ d. not (d == c)) slots
listeners_after n note slots = slots

-- whether the connection in slot c listens to job n, if the note says so
abbrev pub says_listening : ℕ → ℕ → Note → Option Bool
says_listening n c (Made m f p u body) = said_of n m false
says_listening n c (Listens m d) = if n == m && c == d then Some true else None
says_listening n c (Closed d) = said_of c d false
says_listening n c note = None

abbrev pub is_listening : ℕ → ℕ → List Note → Bool
is_listening n c notes = last_said (says_listening n c) false notes

-- whether the worker in slot c is woken by such a job
abbrev pub wakes_for : ℕ → Option Job → List Note → Bool
wakes_for c None notes = false
wakes_for c (Some job) notes = is_open c notes && is_asleep (phase c notes) && is_able c job.function notes

-- the order in which jobs came to wait after the note
abbrev pub order_after : Note → List ℕ → List ℕ
order_after (Made n f p u body) jobs = jobs ++ n ∷ []
order_after (Returned n) jobs = filter (λ m. not (m == n)) jobs ++ n ∷ []
order_after note jobs = jobs

-- a job of the function counts: it waits or runs, or has to run if only running jobs count
abbrev pub is_counted : Bool → List ℕ → List Note → ℕ → Bool
is_counted true f notes = λ n. is_running (job_state n notes) && is_job_of f (job n notes)
is_counted false f notes = is_live_of f notes

-- the first of a list
abbrev pub head : List ℕ → Option ℕ
head [] = None
head (n ∷ ns) = Some n
