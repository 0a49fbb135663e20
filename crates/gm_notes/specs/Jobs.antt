-- Jobs and functions, by the notes.
use Rattle.std.specs.Prelude.{ℕ, suc, ◌+◌, ◌^◌, Bool, true, false, not, ◌&&◌, ◌||◌, ◌==◌, nat_lt, nat_le, if◌then◌else◌, List, [], ◌∷◌}
use Rattle.std.specs.Prelude.{◌++◌, length, filter, find, codes, decimal, Option, Some, None}
use Rattle.std.specs.List.{list_any}
use Rattle.std.specs.Option.{option_map, option_or}
use Rattle.std.specs.Str.{bytes_eq}
use Rattle.gm_notes.specs.declared.states.Priority.{Priority}
use Rattle.gm_notes.specs.declared.states.Priority.TheVariants.{High, Normal, Low}
use Rattle.gm_notes.specs.declared.states.Pick.{Pick}
use Rattle.gm_notes.specs.declared.note.Note.{Note}
use Rattle.gm_notes.specs.declared.note.Note.TheVariants.{Opened, Closed, Can, Cant, Reset, Made, Kept, Listens, Assigned}
use Rattle.gm_notes.specs.declared.note.Note.TheVariants.{Returned, Lost, Ended, Discarded, Report, Mention, Limit}
use Rattle.gm_notes.specs.Settings.{Settings}
use Rattle.gm_notes.specs.JobStates.{JobState, is_waiting, is_running, is_live}
use Rattle.gm_notes.specs.JobStates as states
use Rattle.gm_notes.specs.Notes.{last_said, said_of, is_open, slots_from}

-- ---- places

-- where a job is
abbrev pub says_job_state : ℕ → Note → Option JobState
says_job_state n (Made m f p u body) = said_of n m states.Waiting
says_job_state n (Returned m) = said_of n m states.Waiting
says_job_state n (Assigned m c deadline) = said_of n m (states.Running c)
says_job_state n (Lost m) = said_of n m states.Lost
says_job_state n (Ended m) = said_of n m states.Ended
says_job_state n (Discarded m) = said_of n m states.Discarded
says_job_state n note = None

abbrev pub job_state : ℕ → List Note → JobState
job_state n notes = last_said (says_job_state n) states.Unmade notes

-- ---- what a job is

pub record Job : Type 0 where
  pub function : List ℕ
  pub priority : Priority
  pub unique : List ℕ
  pub body : List ℕ

abbrev pub says_job : ℕ → Note → Option (Option Job)
says_job n (Made m f p u body) = said_of n m (Some (record { function = f; priority = p; unique = u; body = body }))
says_job n note = None

abbrev pub job : ℕ → List Note → Option Job
job n notes = last_said (says_job n) None notes

-- the jobs made, the newest first
abbrev pub made : List Note → List ℕ
made [] = []
made (Made n f p u body ∷ older) = n ∷ made older
made (note ∷ older) = made older

-- a background submission made or joined it
abbrev pub says_kept : ℕ → Note → Option Bool
says_kept n (Made m f p u body) = said_of n m false
says_kept n (Kept m) = said_of n m true
says_kept n note = None

abbrev pub is_kept : ℕ → List Note → Bool
is_kept n notes = last_said (says_kept n) false notes

-- its listeners, in the order in which they came to listen, once for each time
abbrev pub listeners : ℕ → List Note → List ℕ
listeners n [] = []
listeners n (Made m f p u body ∷ older) = if n == m then [] else listeners n older
listeners n (Listens m c ∷ older) = if n == m then listeners n older ++ c ∷ [] else listeners n older
listeners n (Closed c ∷ older) = filter (λ d. not (d == c)) (listeners n older)
listeners n (note ∷ older) = listeners n older

-- it is wanted
abbrev pub is_wanted : ℕ → List Note → Bool
is_wanted n notes = is_kept n notes || not (length (listeners n notes) == 0)

-- how far it is: a numerator and a denominator, `0` and `0` at first
abbrev pub says_report : ℕ → Note → Option (List ℕ × List ℕ)
says_report n (Made m f p u body) = said_of n m (codes "0", codes "0")
says_report n (Report m a b) = said_of n m (a, b)
says_report n note = None

abbrev pub report : ℕ → List Note → List ℕ × List ℕ
report n notes = last_said (says_report n) (codes "0", codes "0") notes

-- the moment at which it fails, if there is one; a lost job fails with the next tick, whenever that is
abbrev pub says_deadline : ℕ → Note → Option (Option ℕ)
says_deadline n (Made m f p u body) = said_of n m None
says_deadline n (Returned m) = said_of n m None
says_deadline n (Lost m) = said_of n m (Some 0)
says_deadline n (Assigned m c deadline) = said_of n m deadline
says_deadline n note = None

abbrev pub deadline : ℕ → List Note → Option ℕ
deadline n notes = last_said (says_deadline n) None notes

-- how often it came back from a worker that went
abbrev pub returns : ℕ → List Note → ℕ
returns n [] = 0
returns n (Made m f p u body ∷ older) = if n == m then 0 else returns n older
returns n (Returned m ∷ older) = if n == m then suc (returns n older) else returns n older
returns n (note ∷ older) = returns n older

-- its worker is the last that it is given to, if there is a limit
abbrev pub is_last_try : Settings → ℕ → List Note → Bool
is_last_try k n notes = not (k.retries == 0) && nat_le k.retries (returns n notes + 1)

-- ---- functions and abilities

-- the functions mentioned, the first first
abbrev pub functions : List Note → List (List ℕ)
functions [] = []
functions (Mention f ∷ older) = functions older ++ f ∷ []
functions (note ∷ older) = functions older

abbrev pub is_mentioned : List ℕ → List Note → Bool
is_mentioned f notes = list_any (λ g. bytes_eq g f) (functions notes)

-- the most of its jobs that may wait or run; 0 is no limit
abbrev pub says_limit : List ℕ → Note → Option ℕ
says_limit f (Limit g size) = if bytes_eq g f then Some size else None
says_limit f note = None

abbrev pub limit : List ℕ → List Note → ℕ
limit f notes = last_said (says_limit f) 0 notes

-- a function that a worker can do, and how many seconds a job of it may take; 0 is no limit
pub record Ability : Type 0 where
  pub function : List ℕ
  pub timeout : ℕ

abbrev pub is_of : List ℕ → Ability → Bool
is_of f ability = bytes_eq ability.function f

-- an ability that is there already keeps its position and takes the new timeout; another goes to the end
abbrev pub put : List ℕ → ℕ → List Ability → List Ability
put f t [] = record { function = f; timeout = t } ∷ []
put f t (ability ∷ abilities) = if is_of f ability then record { function = f; timeout = t } ∷ abilities else ability ∷ put f t abilities

-- the abilities of the connection in slot c, in the order added
abbrev pub abilities : ℕ → List Note → List Ability
abilities c [] = []
abilities c (Opened d addr ∷ older) = if c == d then [] else abilities c older
abilities c (Closed d ∷ older) = if c == d then [] else abilities c older
abilities c (Reset d ∷ older) = if c == d then [] else abilities c older
abilities c (Can d f t ∷ older) = if c == d then put f t (abilities c older) else abilities c older
abilities c (Cant d f ∷ older) = if c == d then filter (λ ability. not (is_of f ability)) (abilities c older) else abilities c older
abilities c (note ∷ older) = abilities c older

abbrev pub is_able : ℕ → List ℕ → List Note → Bool
is_able c f notes = list_any (is_of f) (abilities c notes)

-- ---- queues

-- the jobs in the order in which they last came to wait, the first first
abbrev pub as_they_came : List Note → List ℕ
as_they_came [] = []
as_they_came (Made n f p u body ∷ older) = as_they_came older ++ n ∷ []
as_they_came (Returned n ∷ older) = filter (λ m. not (m == n)) (as_they_came older) ++ n ∷ []
as_they_came (note ∷ older) = as_they_came older

abbrev pub same_priority : Priority → Priority → Bool
same_priority High High = true
same_priority Normal Normal = true
same_priority Low Low = true
same_priority High Normal = false
same_priority High Low = false
same_priority Normal High = false
same_priority Normal Low = false
same_priority Low High = false
same_priority Low Normal = false

-- high goes before normal, and normal before low
abbrev pub rank : Priority → ℕ
rank High = 0
rank Normal = 1
rank Low = 2

abbrev pub is_job_of : List ℕ → Option Job → Bool
is_job_of f None = false
is_job_of f (Some job) = bytes_eq job.function f

abbrev pub is_job_with : List ℕ → Priority → Option Job → Bool
is_job_with f p None = false
is_job_with f p (Some job) = bytes_eq job.function f && same_priority job.priority p

-- the job waits, and is of this function and priority
abbrev pub is_queued : List ℕ → Priority → List Note → ℕ → Bool
is_queued f p notes n = is_waiting (job_state n notes) && is_job_with f p (job n notes)

-- the waiting jobs of a function and a priority, in the order in which they last came to wait
abbrev pub queue : List ℕ → Priority → List Note → List ℕ
queue f p notes = filter (is_queued f p notes) (as_they_came notes)

-- all that waits for a function, in the order in which it is given out
abbrev pub waiting_for : List ℕ → List Note → List ℕ
waiting_for f notes = queue f High notes ++ queue f Normal notes ++ queue f Low notes

abbrev pub is_empty : List ℕ → Bool
is_empty [] = true
is_empty (n ∷ ns) = false

abbrev pub first_of : List ℕ → ℕ → Option Pick → Option Pick
first_of [] timeout otherwise = otherwise
first_of (n ∷ ns) timeout otherwise = Some (record { job = n; timeout = timeout })

abbrev pub pick_from : List Ability → List Note → Option Pick
pick_from [] notes = None
pick_from (ability ∷ abilities) notes = first_of (waiting_for ability.function notes) ability.timeout (pick_from abilities notes)

-- the first job of this priority
abbrev pub pick_with : Priority → List Ability → List Note → Option Pick
pick_with p [] notes = None
pick_with p (ability ∷ abilities) notes = first_of (queue ability.function p notes) ability.timeout (pick_with p abilities notes)

-- the first job of the highest priority that waits
abbrev pub pick_highest : List Ability → List Note → Option Pick
pick_highest abilities notes =
    option_or (pick_with High abilities notes) (option_or (pick_with Normal abilities notes) (pick_with Low abilities notes))

-- the function of the job that slot c was given last, since it was opened
abbrev pub last_function : ℕ → List Note → Option (List ℕ)
last_function c [] = None
last_function c (Opened d addr ∷ older) = if c == d then None else last_function c older
last_function c (Assigned n d deadline ∷ older) = if c == d then option_map (λ job. job.function) (job n older) else last_function c older
last_function c (note ∷ older) = last_function c older

-- the abilities after the one for f
abbrev pub behind : List ℕ → List Ability → List Ability
behind f [] = []
behind f (ability ∷ abilities) = if is_of f ability then abilities else behind f abilities

-- the abilities up to the one for f, and that
abbrev pub up_to : List ℕ → List Ability → List Ability
up_to f [] = []
up_to f (ability ∷ abilities) = if is_of f ability then ability ∷ [] else ability ∷ up_to f abilities

-- in rotation: those after the one for f, and then the others up to it; as they are, if none is for f
abbrev pub rotated : Option (List ℕ) → List Ability → List Ability
rotated None abilities = abilities
rotated (Some f) abilities = behind f abilities ++ up_to f abilities

-- the abilities of slot c in the order in which they are tried: as they were added, or in rotation
abbrev pub scan : Settings → ℕ → List Note → List Ability
scan k c notes = if k.round_robin then rotated (last_function c notes) (abilities c notes) else abilities c notes

-- the job that a grab of slot c gets: that of its first function for which one waits, or, with as_gearmand, that of the
-- highest priority that waits for any of its functions
abbrev pub pick : Settings → ℕ → List Note → Option Pick
pick k c notes = if k.as_gearmand then pick_highest (scan k c notes) notes else pick_from (scan k c notes) notes

-- ---- joining, numbers and counts

abbrev pub joins : List ℕ → Bool
joins u = not (is_empty u) && not (bytes_eq u (codes "-"))

abbrev pub is_job_named : List ℕ → List ℕ → Option Job → Bool
is_job_named f u None = false
is_job_named f u (Some job) = bytes_eq job.function f && bytes_eq job.unique u

abbrev pub is_live_named : List ℕ → List ℕ → List Note → ℕ → Bool
is_live_named f u notes n = is_live (job_state n notes) && is_job_named f u (job n notes)

-- the live job of the function with this unique id; none if the id is empty or a dash
abbrev pub joined : List ℕ → List ℕ → List Note → Option ℕ
joined f u notes = if joins u then find (is_live_named f u notes) (made notes) else None

-- the number of the next job; none once the last was given out
abbrev pub next_number : Settings → List Note → Option ℕ
next_number k notes = if nat_lt (k.first_job + length (made notes)) (2 ^ 64) then Some (k.first_job + length (made notes)) else None

abbrev pub is_live_of : List ℕ → List Note → ℕ → Bool
is_live_of f notes n = is_live (job_state n notes) && is_job_of f (job n notes)

-- how many jobs of the function wait or run, how many of these run, and how many connections can do it
abbrev pub total : List ℕ → List Note → ℕ
total f notes = length (filter (is_live_of f notes) (made notes))

abbrev pub running : List ℕ → List Note → ℕ
running f notes = length (filter (λ n. is_running (job_state n notes) && is_job_of f (job n notes)) (made notes))

abbrev pub able : Settings → List ℕ → List Note → ℕ
able k f notes = length (filter (λ c. is_open c notes && is_able c f notes) (slots_from 0 k.slots))

-- ---- handles

-- H:NAME:NUMBER
abbrev pub handle : Settings → ℕ → List ℕ
handle k n = codes "H:" ++ k.name ++ codes ":" ++ decimal n

abbrev pub is_handle : Settings → List ℕ → ℕ → Bool
is_handle k text n = bytes_eq (handle k n) text

-- the job that a handle names: just what was printed for it
abbrev pub job_of_handle : Settings → List ℕ → List Note → Option ℕ
job_of_handle k text notes = find (is_handle k text) (made notes)
