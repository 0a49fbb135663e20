-- How many jobs of a function there are.
use Rattle.std.proofs.Common.{◌≡◌, ℕ, ◌+◌, ◌<◌, Bool, true, false, ◌&&◌, if◌then◌else◌, List, [], ◌∷◌, ◌++◌, length, filter}
use Rattle.std.proofs.Common.{Option, Some, None, refl, sym, ap, ◌∙◌, arith, length-append}
use Rattle.std.specs.Str.{bytes_eq}
use Rattle.gm_notes.specs.declared.note.Note.{Note}
use Rattle.gm_notes.specs.declared.states.Priority.{Priority}
use Rattle.gm_notes.specs.declared.states.Priority.TheVariants.{High, Normal, Low}
use Rattle.gm_notes.specs.Settings.{Settings}
use Rattle.gm_notes.specs.Jobs.{Job, job_state, job, made, is_job_of, is_job_with, same_priority, is_live_of, total}
use Rattle.gm_notes.specs.JobStates.{JobState, is_live, is_waiting, is_running}
use Rattle.gm_notes.specs.JobStates as states
use Rattle.gm_queues.specs.Queues.{idle}
use Rattle.gm_queues.specs.FunctionTables.{Table, queue, waiting_for, running_of}
use Rattle.gm_jobs.specs.Tables as jobs
use Rattle.gm_core.specs.Facts.{FunctionFacts, job_facts, waits_with, runs_with}
use Rattle.gm_core.specs.Holds.{name_at, jobs_named, HoldsFunctions, HoldsJobs}
use Rattle.gm_core.proofs.FunctionLemmas.{named}

abbrev pub one : Bool → ℕ
one true = 1
one false = 0

pub counted : (P : ℕ → Bool) (x : ℕ) (xs : List ℕ) → length (filter P (x ∷ xs)) ≡ one (P x) + length (filter P xs)
counted P x xs = by (P x)
  where
    by : (t : Bool) → length (if t then x ∷ filter P xs else filter P xs) ≡ one t + length (filter P xs)
    by true = omega arith
    by false = omega arith

with_priority : (b : Bool) (p : Priority) → one b ≡ one (b && same_priority p High) + one (b && same_priority p Normal) + one (b && same_priority p Low)
with_priority true High = refl
with_priority true Normal = refl
with_priority true Low = refl
with_priority false p = refl

pub of_job : (f : List ℕ) (o : Option Job) → one (is_job_of f o) ≡ one (is_job_with f High o) + one (is_job_with f Normal o) + one (is_job_with f Low o)
of_job f None = refl
of_job f (Some found) = with_priority (bytes_eq found.function f) found.priority

-- a live job waits or runs, with one priority
live_one : (f : List ℕ) (at : JobState) (o : Option Job) → one (is_live at && is_job_of f o)
    ≡ (one (is_waiting at && is_job_with f High o) + one (is_waiting at && is_job_with f Normal o) + one (is_waiting at && is_job_with f Low o))
    + (one (is_running at && is_job_with f High o) + one (is_running at && is_job_with f Normal o) + one (is_running at && is_job_with f Low o))
live_one f states.Unmade o = refl
live_one f states.Waiting o = let e = of_job f o in omega (arith, e)
live_one f (states.Running c) o = let e = of_job f o in omega (arith, e)
live_one f states.Lost o = let e = of_job f o in omega (arith, e)
live_one f states.Ended o = refl
live_one f states.Discarded o = refl

live_of : (f : List ℕ) (notes : List Note) (xs : List ℕ) → length (filter (is_live_of f notes) xs)
    ≡ (length (filter (waits_with f High (job_facts notes)) xs) + length (filter (waits_with f Normal (job_facts notes)) xs) + length (filter (waits_with f Low (job_facts notes)) xs))
    + (length (filter (runs_with f High (job_facts notes)) xs) + length (filter (runs_with f Normal (job_facts notes)) xs) + length (filter (runs_with f Low (job_facts notes)) xs))
live_of f notes [] = refl
live_of f notes (x ∷ xs) =
    let rest = live_of f notes xs in
    let here = live_one f (job_state x notes) (job x notes) in
    let all = counted (is_live_of f notes) x xs in
    let a = counted (waits_with f High (job_facts notes)) x xs in
    let b = counted (waits_with f Normal (job_facts notes)) x xs in
    let c = counted (waits_with f Low (job_facts notes)) x xs in
    let d = counted (runs_with f High (job_facts notes)) x xs in
    let e = counted (runs_with f Normal (job_facts notes)) x xs in
    let g = counted (runs_with f Low (job_facts notes)) x xs in
    omega (arith, rest, here, all, a, b, c, d, e, g)

module _ (k : Settings) (functions : Table) (table : jobs.Table) (is_open : ℕ → Bool) (notes : List Note) (names : FunctionFacts) (known : HoldsFunctions k functions names)
    (holds : HoldsJobs k functions table is_open (job_facts notes)) (f : ℕ) (within : f < length functions.names) where
  abbrev name : List ℕ
  name = name_at functions.names f

  waits : (p : Priority) → length (queue functions f p).jobs ≡ length (filter (waits_with name p (job_facts notes)) (made notes))
  waits p =
      ap (λ (l : List ℕ). length l) (sym (ap (λ o. jobs_named o p functions) (named known f within)) ∙ holds.queues name p)
      ∙ holds.came (waits_with name p (job_facts notes))

  pub runs : (p : Priority) → idle (queue functions f p) ≡ length (filter (runs_with name p (job_facts notes)) (made notes))
  runs p = let e = holds.room f p within in omega (arith, e)

  -- what waits and what runs is all there is of the function
  pub total_is : total name notes ≡ length (waiting_for functions f) + running_of functions f
  total_is =
      live_of name notes (made notes)
      ∙ (sym (λ i. (waits High i + waits Normal i + waits Low i) + (runs High i + runs Normal i + runs Low i))
      ∙ ap (λ x. x + running_of functions f) (sym long))
    where
      long : length (waiting_for functions f) ≡ length (queue functions f High).jobs + length (queue functions f Normal).jobs + length (queue functions f Low).jobs
      long =
          length-append ((queue functions f High).jobs ++ (queue functions f Normal).jobs) (queue functions f Low).jobs
          ∙ ap (λ x. x + length (queue functions f Low).jobs) (length-append (queue functions f High).jobs (queue functions f Normal).jobs)
