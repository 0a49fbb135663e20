-- A job that comes to wait, in the table of jobs and in its queue.
use Rattle.std.proofs.Common.{◌≡◌, ℕ, ◌<◌, ◌^◌, Bool, true, false, ◌==◌, if◌then◌else◌, List, [], ◌∷◌, ◌++◌}
use Rattle.std.proofs.Common.{Option, Some, None, Result, Ok, Err, unwrap_or, codes, refl, sym, ap, subst, ◌∙◌}
use Rattle.std.specs.Result.{OnErr, IfOk}
use Rattle.std.specs.declared.alloc.AllocError.{AllocError}
use Rattle.gm_notes.specs.declared.note.Note.{Note}
use Rattle.gm_notes.specs.declared.note.Note.TheVariants.{Made, Kept, Listens}
use Rattle.gm_notes.specs.declared.states.Priority.{Priority}
use Rattle.gm_notes.specs.Settings.{Settings}
use Rattle.gm_notes.specs.Notes.{moment, mode}
use Rattle.gm_notes.specs.Jobs.{Job, made, as_they_came, job_state, job, is_kept, listeners, report, deadline, returns}
use Rattle.gm_notes.specs.JobStates as states
use Rattle.gm_notes.specs.Jobs.{made as made_of}
use Rattle.gm_notes.specs.Steps.{made_since}
use Rattle.gm_notes.specs.Past.{Past, with_note, refuse}
use Rattle.gm_notes.specs.Submissions.{Submission, make}
use Rattle.gm_conns.specs.ConnTables.{IsOpen}
use Rattle.gm_conns.specs.ConnTables as conns
use Rattle.gm_queues.specs.Queues.{with_job, with_reserved_one}
use Rattle.gm_queues.specs.FunctionTables.{Table, number_of, queue, is_queue, ChangesQueue}
use Rattle.gm_jobs.specs.Live.{fresh, listed}
use Rattle.gm_jobs.specs.declared.jobs.JobError.{JobError}
use Rattle.gm_jobs.specs.declared.jobs.JobError.TheVariants as errors
use Rattle.gm_jobs.specs.Tables.{Makes}
use Rattle.gm_jobs.specs.Tables as jobs
use Rattle.gm_core.specs.declared.server.Tables.{Tables}
use Rattle.gm_core.specs.Writing.{Text}
use Rattle.gm_core.specs.Facts.{JobFacts, conn_facts, function_facts, job_facts}
use Rattle.gm_core.specs.Holds.{Keeps, AreOpen, HoldsJobs, MakesNone, Goes, Does, Makes as MakesJob, add_job, first_listener}
use Rattle.gm_queues.proofs.PositionLemmas.{position-within}
use Rattle.gm_core.proofs.FunctionLemmas.{number_is}
use Rattle.gm_core.proofs.MadeLemmas.{with_made, jobs_made}
use Rattle.gm_core.proofs.CoreLemmas.{open_is, goes_as, goes_then, goes_jobs}
use Rattle.gm_core.proofs.PacketLemmas.{none_by, one_by}
use Rattle.gm_core.proofs.EndLemmas.{MovesJobs, goes_moved}
use Rattle.std.specs.Str.{bytes_eq}

said_or : {A : Type 0} (t : Bool) (x y : A) → unwrap_or (if t then Some x else None) y ≡ (if t then x else y)
said_or true x y = refl
said_or false x y = refl

said_twice : {A : Type 0} (t : Bool) (x z y : A) → unwrap_or (if t then Some x else None) (unwrap_or (if t then Some z else None) y) ≡ (if t then x else y)
said_twice true x z y = refl
said_twice false x z y = refl

heard_first : (t : Bool) (c : ℕ) (slots : List ℕ) → (if t then (if t then [] else slots) ++ c ∷ [] else (if t then [] else slots)) ≡ (if t then c ∷ [] else slots)
heard_first true c slots = refl
heard_first false c slots = refl

module _ (n : ℕ) (f : List ℕ) (p : Priority) (u body : List ℕ) (notes : List Note) where
  abbrev pub its_job : Job
  its_job = record { function = f; priority = p; unique = u; body = body }

  pub facts_kept : with_made n its_job true [] (job_facts notes) ≡ job_facts (Kept n ∷ Made n f p u body ∷ notes)
  facts_kept = sym (λ i. record {
    made = n ∷ made notes;
    came = as_they_came notes ++ n ∷ [];
    job_state = λ m. said_or (m == n) states.Waiting (job_state m notes) i;
    job = λ m. said_or (m == n) (Some its_job) (job m notes) i;
    kept = λ m. said_twice (m == n) true false (is_kept m notes) i;
    listeners = λ m. if m == n then [] else listeners m notes;
    report = λ m. said_or (m == n) (codes "0", codes "0") (report m notes) i;
    deadline = λ m. said_or (m == n) None (deadline m notes) i;
    returns = λ m. if m == n then 0 else returns m notes;
  })

  pub facts_listened : (c : ℕ) → with_made n its_job false (c ∷ []) (job_facts notes) ≡ job_facts (Listens n c ∷ Made n f p u body ∷ notes)
  facts_listened c = sym (λ i. record {
    made = n ∷ made notes;
    came = as_they_came notes ++ n ∷ [];
    job_state = λ m. said_or (m == n) states.Waiting (job_state m notes) i;
    job = λ m. said_or (m == n) (Some its_job) (job m notes) i;
    kept = λ m. said_or (m == n) false (is_kept m notes) i;
    listeners = λ m. heard_first (m == n) c (listeners m notes) i;
    report = λ m. said_or (m == n) (codes "0", codes "0") (report m notes) i;
    deadline = λ m. said_or (m == n) None (deadline m notes) i;
    returns = λ m. if m == n then 0 else returns m notes;
  })

module _ (c n : ℕ) (s : Submission) where
  either : {A : Type 0} (part : Past → A) (t : Bool) (p q r : Past) → part q ≡ part p → part r ≡ part p → part (if t then q else r) ≡ part p
  either part true p q r first second = first
  either part false p q r first second = second

  moves_added : MovesJobs (add_job c s n)
  moves_added = record {
    conns = λ p. either (λ q. conn_facts q.notes) s.background p _ _ refl refl;
    flow = λ p. either (λ q. q.flow) s.background p _ _ refl refl;
    functions = λ p. either (λ q. function_facts q.notes) s.background p _ _ refl refl;
    moment = λ p. either (λ q. moment q.notes) s.background p _ _ refl refl;
    mode = λ p. either (λ q. mode q.notes) s.background p _ _ refl refl;
  }

  facts_added : (t : Bool) (p : Past) → (let made = with_note (Made n s.function s.priority s.unique s.body) p in
      with_made n (its_job n s.function s.priority s.unique s.body p.notes) t (listed (first_listener t c)) (job_facts p.notes)
      ≡ job_facts (if t then with_note (Kept n) made else with_note (Listens n c) made).notes)
  facts_added true p = facts_kept n s.function s.priority s.unique s.body p.notes
  facts_added false p = facts_listened n s.function s.priority s.unique s.body p.notes c

heard_from : (is_open : ℕ → Bool) (t : Bool) (c : ℕ) → is_open c ≡ true → AreOpen is_open (listed (first_listener t c))
heard_from is_open true c opened = tt
heard_from is_open false c opened = (opened, tt)

grows : (old middle new : Table) (f : ℕ) (p : Priority) (n : ℕ) → ChangesQueue f p with_reserved_one old middle → ChangesQueue f p (with_job n) middle new
    → (g : ℕ) (q : Priority) → queue new g q ≡ (if is_queue f p g q then with_job n (with_reserved_one (queue old g q)) else queue old g q)
grows old middle new f p n place push g q = push.queues g q ∙ by (is_queue f p g q) (place.queues g q)
  where
    by : (t : Bool) → queue middle g q ≡ (if t then with_reserved_one (queue old g q) else queue old g q)
        → (if t then with_job n (queue middle g q) else queue middle g q) ≡ (if t then with_job n (with_reserved_one (queue old g q)) else queue old g q)
    by true e = ap (with_job n) e
    by false e = e

pub goes_added : (old : Tables) (middle new : Table) (table : jobs.Table) (c : ℕ) (s : Submission) (f : ℕ) → IsOpen old.conns c → number_of s.function old.functions ≡ Some f
    → old.jobs.next < 2 ^ 64 → ChangesQueue f s.priority with_reserved_one old.functions middle → ChangesQueue f s.priority (with_job old.jobs.next) middle new
    → Makes (fresh f s.priority s.unique s.body s.background (first_listener s.background c)) old.jobs table
    → Goes old (record old { functions = new; jobs = table }) (add_job c s old.jobs.next)
goes_added old middle new table c s f opened number fits place push makes =
    let n = old.jobs.next in
    let names = push.names ∙ place.names in
    goes_moved {old = old} {new = record old { functions = new; jobs = table }} (add_job c s n)
    (record { config = refl; conns = refl; moment = refl; mode = refl; most = push.most ∙ place.most; names = names; limits = push.limits ∙ place.limits }) (moves_added c n s)
    (λ p keeps.
    let within = position-within (bytes_eq s.function) old.functions.names f number in
    let heard = heard_from (conn_facts p.notes).is_open s.background c (open_is keeps c opened) in
    let made = jobs_made old.config old.functions new old.jobs table (conn_facts p.notes).is_open (job_facts p.notes) (function_facts p.notes) keeps.functions keeps.jobs
    f s.priority s.unique s.body s.background (first_listener s.background c) within fits makes names (grows old.functions middle new f s.priority n place push) heard in
    subst (HoldsJobs old.config new table (conn_facts p.notes).is_open)
    (ap (λ (g : List ℕ). with_made n (record { function = g; priority = s.priority; unique = s.unique; body = s.body }) s.background (listed (first_listener s.background c)) (job_facts p.notes)) (number_is s.function old.functions f number)
    ∙ facts_added c n s s.background p) made)

-- room for a job is nothing that the past tells of
jobs_roomed : {k : Settings} {functions : Table} {is_open : ℕ → Bool} {facts : JobFacts} (table : jobs.Table) (room : Option jobs.Room) → HoldsJobs k functions table is_open facts
    → HoldsJobs k functions (record table { room = room }) is_open facts
jobs_roomed table room holds = record {
  first = holds.first;
  next = holds.next;
  most = holds.most;
  made = holds.made;
  came = holds.came;
  begins = holds.begins;
  numbered = holds.numbered;
  places = holds.places;
  live = holds.live;
  counts = holds.counts;
  queues = holds.queues;
  room = holds.room;
}

pub goes_roomed : (old : Tables) (new : jobs.Table) (room : Option jobs.Room) → new ≡ record old.jobs { room = room } → Goes old (record old { jobs = new }) (λ past. past)
goes_roomed old new room same =
    goes_jobs old new (λ past. past)
    (λ p keeps. record {
      conns = keeps.conns;
      functions = keeps.functions;
      jobs = subst (λ t. HoldsJobs old.config old.functions t (conn_facts p.notes).is_open (job_facts p.notes)) (sym same) (jobs_roomed old.jobs room keeps.jobs);
      moment = keeps.moment;
      mode = keeps.mode;
    })

-- only room was made, for a job and perhaps at a slot
pub makes_none : {A E : Type 0} (result : Result A E) (old : Tables) (functions : Table) (table : jobs.Table) (room : Option jobs.Room) (connections : conns.Table) (text : Text)
    → functions ≡ old.functions → table ≡ record old.jobs { room = room }
    → ((g : Table) → Goes (record old { functions = g; jobs = table }) (record old { functions = g; jobs = table; conns = connections; text = text }) (λ past. past))
    → OnErr result (MakesNone old (record old { functions = functions; jobs = table; conns = connections; text = text }))
makes_none (Ok answer) old functions table room connections text same roomed goes = tt
makes_none (Err failed) old functions table room connections text same roomed goes =
    record { functions = same; goes = λ g. goes_then (goes_roomed (record old { functions = g }) table room roomed) (goes g) }

pub none_made : {old new : Tables} → MakesNone old new → Goes old new (λ past. past)
none_made {old} {new} none = subst (λ (t : Table). Goes old (record new { functions = t }) (λ past. past)) (sym none.functions) (none.goes old.functions)

-- ---- what is answered to a submission that joins no job

-- it did so, and answers the job that it made, if it made one
abbrev pub Submits : Tables → Result (Option ℕ) AllocError → Tables → (Past → Past) → Type 0
Submits old result new change = Does old result new change × MakesJob old result change

-- a job was made
pub made_so : {old new : Tables} (c : ℕ) (s : Submission) (n : ℕ) (change : Past → Past) → Goes old new (make old.config c s (Some n))
    → ((p : Past) → Keeps old p → make old.config c s (Some n) p ≡ change p) → Submits old (Ok (Some n)) new change
made_so {old} c s n change goes same =
    (goes_as change goes same, λ p keeps. one_by old.config c s n p ∙ ap (λ (q : Past). made_since (made_of p.notes) (made_of q.notes)) (same p keeps))

-- none was made, for want of memory or of a number
pub not_made : {old new after : Tables} (c : ℕ) (error : JobError) (result : Result (Option ℕ) AllocError) (change : Past → Past) → Goes old new (λ past. past)
    → Does new result after (refuse c (codes "no_numbers")) → IfOk result (λ answer. (answer ≡ None) × (error ≡ errors.NumbersSpent))
    → (error ≡ errors.NumbersSpent → (p : Past) → Keeps old p → refuse c (codes "no_numbers") p ≡ change p) → Submits old result after change
not_made c error (Ok answer) change none refused spent same = (
  goes_as change (goes_then none refused) (same spent.1),
  λ p keeps. spent.0 ∙ none_by p (refuse c (codes "no_numbers") p) refl ∙ ap (λ (q : Past). made_since (made_of p.notes) (made_of q.notes)) (same spent.1 p keeps),
)
not_made c error (Err wanting) change none refused spent same = (goes_then none refused, tt)
