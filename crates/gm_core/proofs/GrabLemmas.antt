-- The first job of a queue, which is given out.
use Rattle.std.proofs.Common.{◌≡◌, ℕ, ◌<◌, Bool, true, false, ◌&&◌, ◌==◌, if◌then◌else◌, List, [], ◌∷◌, ◌++◌, length, filter}
use Rattle.std.proofs.Common.{Option, Some, None, refl, sym, ap, subst, ◌∙◌, arith}
use Rattle.std.specs.Prelude.{slice_get, IfSome}
use Rattle.std.specs.Str.{bytes_eq}
use Rattle.std.proofs.lemmas.Bool.{false≢true, and_parts}
use Rattle.std.proofs.lemmas.Bool.Decides.{nat_tests}
use Rattle.gm_notes.specs.declared.note.Note.{Note}
use Rattle.gm_notes.specs.declared.note.Note.TheVariants.{Assigned, Stirred}
use Rattle.gm_notes.specs.declared.states.Priority.{Priority}
use Rattle.gm_notes.specs.declared.states.Priority.TheVariants.{High, Normal, Low}
use Rattle.gm_notes.specs.Settings.{Settings}
use Rattle.gm_notes.specs.Notes.{phase, is_asleep, moment}
use Rattle.gm_notes.specs.Jobs.{Job, job_state, job, is_job_with, same_priority}
use Rattle.gm_notes.specs.JobStates.{JobState, is_waiting, place_of}
use Rattle.gm_notes.specs.JobStates as states
use Rattle.gm_notes.specs.Past.{Past, with_note, with_output}
use Rattle.gm_notes.specs.Workers.{wake_itself, deadline_after, assignment, tell_assigned}
use Rattle.gm_packet.specs.Answers.{answer_packet}
use Rattle.gm_queues.specs.FunctionTables.{Table, queue, waiting_for}
use Rattle.gm_jobs.specs.declared.job.LivePlace.{LivePlace}
use Rattle.gm_jobs.specs.declared.job.LivePlace.TheVariants.{Waiting, Running, Lost}
use Rattle.gm_jobs.specs.Live.{Live}
use Rattle.gm_jobs.specs.Tables.{place_or, is_made}
use Rattle.gm_jobs.specs.Tables as jobs
use Rattle.gm_core.specs.Facts.{FunctionFacts, job_facts, waits_with}
use Rattle.gm_core.specs.declared.server.abilities.Choice.{Choice}
use Rattle.gm_core.specs.Firsts.{IsFirst}
use Rattle.gm_core.specs.Holds.{name_at, job_state_at, jobs_named, HoldsFunctions, HoldsJobs}
use Rattle.gm_core.proofs.FunctionLemmas.{apart, named, some_same}
use Rattle.gm_core.proofs.CloseLemmas.{same_one}

-- what heads the three queues heads one of them
heads : (table : Table) (f n : ℕ) → slice_get (waiting_for table f) 0 ≡ Some n → IsFirst table f n
heads table f n e = high (queue table f High).jobs refl e
  where
    low : (c : List ℕ) → (queue table f Low).jobs ≡ c → slice_get c 0 ≡ Some n → IsFirst table f n
    low c is e = record { priority = Low; is = ap (λ (l : List ℕ). slice_get l 0) is ∙ e }

    normal : (b : List ℕ) → (queue table f Normal).jobs ≡ b → slice_get (b ++ (queue table f Low).jobs) 0 ≡ Some n → IsFirst table f n
    normal [] is e = low (queue table f Low).jobs refl e
    normal (x ∷ b) is e = record { priority = Normal; is = ap (λ (l : List ℕ). slice_get l 0) is ∙ e }

    high : (a : List ℕ) → (queue table f High).jobs ≡ a → slice_get ((a ++ (queue table f Normal).jobs) ++ (queue table f Low).jobs) 0 ≡ Some n → IsFirst table f n
    high [] is e = normal (queue table f Normal).jobs refl e
    high (x ∷ a) is e = record { priority = High; is = ap (λ (l : List ℕ). slice_get l 0) is ∙ e }

pub any_heads : (table : Table) (o : Option Choice) → IfSome o (λ found. slice_get (waiting_for table found.function) 0 ≡ Some found.pick.job)
    → IfSome o (λ found. IsFirst table found.function found.pick.job)
any_heads table None e = tt
any_heads table (Some found) e = heads table found.function found.pick.job e

-- the job, and those behind it
pub record Heads (table : Table) (f n : ℕ) : Type 0 where
  pub priority : Priority
  pub rest : List ℕ
  pub is : (queue table f priority).jobs ≡ n ∷ rest

headed : (table : Table) (f n : ℕ) → IsFirst table f n → Heads table f n
headed table f n first = by (queue table f first.priority).jobs refl first.is
  where
    by : (l : List ℕ) → (queue table f first.priority).jobs ≡ l → slice_get l 0 ≡ Some n → Heads table f n
    by [] is e = absurd cc
    by (x ∷ l) is e = record { priority = first.priority; rest = l; is = is ∙ ap (λ (y : ℕ). y ∷ l) (some_same x n e) }

-- what heads what passes, passes
head_passes : (P : ℕ → Bool) (n : ℕ) (rest xs : List ℕ) → filter P xs ≡ n ∷ rest → P n ≡ true
head_passes P n rest [] e = absurd cc
head_passes P n rest (x ∷ xs) e = by (P x) refl e (λ g. head_passes P n rest xs g)
  where
    by : (t : Bool) → P x ≡ t → (if t then x ∷ filter P xs else filter P xs) ≡ n ∷ rest → (filter P xs ≡ n ∷ rest → P n ≡ true) → P n ≡ true
    by true h e more = subst (λ y. P y ≡ true) (let same : x ≡ n = cc in same) h
    by false h e more = more e

-- the job that heads a queue
pub record Given (functions : Table) (table : jobs.Table) (f n : ℕ) : Type 0 where
  pub live : Live
  pub at : jobs.job table n ≡ Some live
  pub function : live.function ≡ f
  pub waits : live.live_place ≡ Waiting
  pub rest : List ℕ
  pub first : (queue functions live.function live.priority).jobs ≡ n ∷ rest

module _ (k : Settings) (functions : Table) (table : jobs.Table) (is_open : ℕ → Bool) (notes : List Note) (names : FunctionFacts) (known : HoldsFunctions k functions names)
    (holds : HoldsJobs k functions table is_open (job_facts notes)) (f n : ℕ) (within : f < length functions.names) where
  not_at : (s : LivePlace) → is_waiting (job_state_at s) ≡ true → s ≡ Waiting
  not_at Waiting e = refl
  not_at (Running c) e = absurd (false≢true e)
  not_at Lost e = absurd (false≢true e)

  dead : (t : Bool) (at : JobState) → place_or None t ≡ place_of at → is_waiting at ≡ true → ⊥
  dead true states.Waiting e w = cc
  dead false states.Waiting e w = cc
  dead t states.Unmade e w = false≢true w
  dead t (states.Running c) e w = false≢true w
  dead t states.Lost e w = false≢true w
  dead t states.Ended e w = false≢true w
  dead t states.Discarded e w = false≢true w

  module _ (h : Heads functions f n) where
    abbrev name : List ℕ
    name = name_at functions.names f

    passes : waits_with name h.priority (job_facts notes) n ≡ true
    passes =
        head_passes (waits_with name h.priority (job_facts notes)) n h.rest (job_facts notes).came
        (sym (holds.queues name h.priority) ∙ (ap (λ o. jobs_named o h.priority functions) (named known f within) ∙ h.is))

    both : (is_waiting (job_state n notes) ≡ true) × (is_job_with name h.priority (job n notes) ≡ true)
    both = and_parts (is_waiting (job_state n notes)) (is_job_with name h.priority (job n notes)) passes

    by_live : (o : Option Live) → jobs.job table n ≡ o → Given functions table f n
    by_live None at = absurd (dead (is_made table n) (job_state n notes) (ap (λ o. place_or o (is_made table n)) (sym at) ∙ holds.places n) both.0)
    by_live (Some live) at =
        let is = holds.live n live at in
        let with_it : (bytes_eq (name_at functions.names live.function) name && same_priority live.priority h.priority) ≡ true = sym (ap (is_job_with name h.priority) is.job) ∙ both.1 in
        let parts = and_parts (bytes_eq (name_at functions.names live.function) name) (same_priority live.priority h.priority) with_it in
        let equal : (live.function == f) ≡ true = sym (apart known live.function f is.function within) ∙ parts.0 in
        let same : live.function ≡ f = grind (arith, nat_tests) in
        record {
          live = live;
          at = at;
          function = same;
          waits = not_at live.live_place (ap is_waiting (sym is.job_state) ∙ both.0);
          rest = h.rest;
          first = subst (λ g. (queue functions g live.priority).jobs ≡ n ∷ h.rest) (sym same)
              (subst (λ q. (queue functions f q).jobs ≡ n ∷ h.rest) (sym (same_one live.priority h.priority parts.1)) h.is);
        }

  -- the first job of a queue lives and waits, and heads its queue
  pub given : IsFirst functions f n → Given functions table f n
  given first = by_live (headed functions f n first) (jobs.job table n) refl

-- ---- what a worker hears

-- it doesn't matter that the worker hears of its job first
pub told_first : (k : Settings) (c : ℕ) (uniq : Bool) (n timeout now : ℕ) (text : List ℕ) (found : Job) (past : Past) → now ≡ moment past.notes → job n past.notes ≡ Some found
    → text ≡ answer_packet (assignment k uniq n found)
    → with_note (Assigned n c (deadline_after now timeout)) (wake_itself c (with_output c text past))
    ≡ tell_assigned k c uniq n (job n (wake_itself c past).notes) (with_note (Assigned n c (deadline_after (moment (wake_itself c past).notes) timeout)) (wake_itself c past))
told_first k c uniq n timeout now text found past time is told = by (is_asleep (phase c past.notes))
  where
    by : (t : Bool) → with_note (Assigned n c (deadline_after now timeout)) (if t then with_note (Stirred c) (with_output c text past) else with_output c text past)
        ≡ tell_assigned k c uniq n (job n (if t then with_note (Stirred c) past else past).notes)
        (with_note (Assigned n c (deadline_after (moment (if t then with_note (Stirred c) past else past).notes) timeout)) (if t then with_note (Stirred c) past else past))
    by true = rw (is, told, time) refl
    by false = rw (is, told, time) refl
