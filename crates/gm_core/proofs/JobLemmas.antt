-- How the table of jobs holds the facts of jobs, after one of them changes.
use Rattle.std.proofs.Common.{◌≡◌, ◌≢◌, ℕ, zero, suc, ◌+◌, ◌<◌, ◌≤◌, ◌^◌, Bool, true, false, not, ◌==◌, nat_le, nat_lt}
use Rattle.std.proofs.Common.{if◌then◌else◌, List, [], ◌∷◌, ◌++◌, length, find, filter, Option, Some, None, refl, sym, ap}
use Rattle.std.proofs.Common.{subst, ◌∙◌, arith}
use Rattle.std.specs.Option.{option_map}
use Rattle.std.specs.Prelude.{IfSome, IfNone, unwrap_or}
use Rattle.std.proofs.lemmas.Bool.{and_parts}
use Rattle.std.specs.Str.{bytes_eq}
use Rattle.std.proofs.lemmas.Bool.Decides.{nat_tests}
use Rattle.std.proofs.lemmas.Bool.{false≢true}
use Rattle.gm_notes.specs.declared.note.Note.{Note}
use Rattle.gm_notes.specs.declared.note.Note.TheVariants.{Kept, Listens}
use Rattle.gm_notes.specs.declared.states.Priority.{Priority}
use Rattle.gm_notes.specs.Settings.{Settings}
use Rattle.gm_notes.specs.Jobs.{is_live_named, joins, joined, made, next_number, job_state, is_kept, listeners}
use Rattle.gm_notes.specs.JobStates.{JobState, is_waiting, is_running, is_live, place_of}
use Rattle.gm_notes.specs.JobStates as states
use Rattle.gm_queues.specs.FunctionTables.{number_of}
use Rattle.gm_queues.specs.FunctionTables as queues
use Rattle.gm_jobs.specs.declared.job.LivePlace.{LivePlace}
use Rattle.gm_jobs.specs.declared.job.LivePlace.TheVariants.{Waiting, Running, Lost}
use Rattle.gm_jobs.specs.Live.{Live, kept, with_listener, is_named, place_at, waits}
use Rattle.gm_jobs.specs.Tables.{Table, job, place_or, is_made, passes, IsNamed, Changes}
use Rattle.gm_core.specs.Facts.{JobFacts, function_facts, job_facts, queued, running_with}
use Rattle.gm_core.specs.Holds.{name_at, job_state_at, counted, numbers_down, AreOpen, HoldsFunctions, HoldsJobs, IsJob}
use Rattle.gm_core.proofs.FunctionLemmas.{apart, number_is, some_same, unknown}
use Rattle.gm_queues.proofs.PositionLemmas.{position-within}

pub turned : (n m : ℕ) (t : Bool) → (n == m) ≡ t → (m == n) ≡ t
turned n m t e = grind (arith, nat_tests)

-- ---- a job changes in what its place and its queue don't depend on

-- where a job is, as the table tells it
pub state_waits : (s : LivePlace) → is_waiting (job_state_at s) ≡ waits s
state_waits Waiting = refl
state_waits (Running c) = refl
state_waits Lost = refl

pub state_runs : (s : LivePlace) → is_running (job_state_at s) ≡ not (waits s)
state_runs Waiting = refl
state_runs (Running c) = refl
state_runs Lost = refl

-- what a change that is quiet leaves of a job
abbrev pub left_alone : Live → LivePlace × ℕ
left_alone l = (l.live_place, l.returns)

stays_at : (change : Live → Live) → ((l : Live) → left_alone (change l) ≡ left_alone l) → (t made : Bool) (o : Option Live) → place_or (if t then option_map change o else o) made ≡ place_or o made
stays_at change same true made None = refl
stays_at change same true made (Some l) = ap (λ (x : LivePlace × ℕ). place_at x.0) (same l)
stays_at change same false made o = refl

-- a job that was live, and what became of it
pub record Was (change : Live → Live) (t : Bool) (o : Option Live) (found : Live) : Type 0 where
  pub before : Live
  pub is : o ≡ Some before
  pub became : (if t then change before else before) ≡ found

pub was_live : (change : Live → Live) (t : Bool) (o : Option Live) (found : Live) → (if t then option_map change o else o) ≡ Some found → Was change t o found
was_live change true None found e = absurd cc
was_live change true (Some l) found e = record { before = l; is = refl; became = some_same (change l) found e }
was_live change false None found e = absurd cc
was_live change false (Some l) found e = record { before = l; is = refl; became = some_same l found e }

pub made_same : (old new : Table) (n : ℕ) → new.first ≡ old.first → new.next ≡ old.next → is_made new n ≡ is_made old n
made_same old new n first next = rw (first, next) refl

module _ {k : Settings} {functions : queues.Table} {old new : Table} {is_open : ℕ → Bool} {facts now : JobFacts} (n : ℕ) (change : Live → Live) (changes : Changes n change old new)
    (same : (l : Live) → left_alone (change l) ≡ left_alone l) (made : now.made ≡ facts.made) (came : now.came ≡ facts.came) (job_state : now.job_state ≡ facts.job_state) (job_is : now.job ≡ facts.job) (returns : now.returns ≡ facts.returns)
    (each : (m : ℕ) (l : Live) → IsJob functions.names l facts is_open m → IsJob functions.names (if n == m then change l else l) now is_open m) where
  pub quietly : HoldsJobs k functions old is_open facts → HoldsJobs k functions new is_open now
  quietly holds = record {
    first = changes.first ∙ holds.first;
    next = changes.next ∙ (holds.next ∙ ap (λ (l : List ℕ). k.first_job + length l) (sym made));
    most = subst (λ x. x ≤ 2 ^ 64) (sym changes.next) holds.most;
    made = made ∙ (holds.made ∙ ap (λ (l : List ℕ). numbers_down k.first_job (length l)) (sym made));
    came = λ P. ap (λ (l : List ℕ). length (filter P l)) came ∙ (holds.came P ∙ ap (λ (l : List ℕ). length (filter P l)) (sym made));
    begins = holds.begins;
    numbered = λ m found e.
        let was = was_live change (n == m) (job old m) found (sym (changes.jobs m) ∙ e) in
        made_same old new m changes.first changes.next ∙ holds.numbered m was.before was.is;
    places = λ m.
        ap (λ o. place_or o (is_made new m)) (changes.jobs m)
        ∙ (stays_at change same (n == m) (is_made new m) (job old m)
        ∙ (ap (place_or (job old m)) (made_same old new m changes.first changes.next)
        ∙ (holds.places m ∙ ap (λ (f : ℕ → JobState). place_of (f m)) (sym job_state))));
    live = λ m found e.
        let was = was_live change (n == m) (job old m) found (sym (changes.jobs m) ∙ e) in
        subst (λ (l : Live). IsJob functions.names l now is_open m) was.became (each m was.before (holds.live m was.before was.is));
    counts = λ m found e.
        let was = was_live change (n == m) (job old m) found (sym (changes.jobs m) ∙ e) in
        ap (λ (l : Live). l.returns) (sym was.became) ∙ (still (n == m) was.before ∙ (holds.counts m was.before was.is ∙ ap (λ (r : ℕ → ℕ). counted k.retries (r m)) (sym returns)));
    queues = λ name p. holds.queues name p ∙ same_queue name p;
    room = λ f p within. holds.room f p within ∙ ap (λ x. length (queues.queue functions f p).jobs + x) (same_running (name_at functions.names f) p);
  }
    where
      still : (t : Bool) (l : Live) → (if t then change l else l).returns ≡ l.returns
      still true l = ap (λ (x : LivePlace × ℕ). x.1) (same l)
      still false l = refl

      same_queue : (name : List ℕ) (p : Priority) → queued name p facts ≡ queued name p now
      same_queue name p = λ j. queued name p (record facts { came = sym came j; job_state = sym job_state j; job = sym job_is j })

      same_running : (name : List ℕ) (p : Priority) → running_with name p facts ≡ running_with name p now
      same_running name p = λ j. running_with name p (record facts { made = sym made j; job_state = sym job_state j; job = sym job_is j })

-- ---- what is found among numbers

find_none : (P : ℕ → Bool) (xs : List ℕ) → ((n : ℕ) → P n ≡ false) → find P xs ≡ None
find_none P [] none = refl
find_none P (x ∷ xs) none = rw (none x) (find_none P xs none)

-- the only number that passes is found, if it was made
find_down : (P : ℕ → Bool) (first count n : ℕ) → first ≤ n → n < first + count → P n ≡ true → ((m : ℕ) → P m ≡ true → m ≡ n) → find P (numbers_down first count) ≡ Some n
find_down P first zero n low high passes only = absurd (omega (arith, low, high))
find_down P first (suc count) n low high passes only = by (P (first + count)) refl (λ less. find_down P first count n low less passes only)
  where
    by : (t : Bool) → P (first + count) ≡ t → (n < first + count → find P (numbers_down first count) ≡ Some n)
        → (if t then Some (first + count) else find P (numbers_down first count)) ≡ Some n
    by true e rest = ap Some (only (first + count) e)
    by false e rest = rest (other (n == first + count) refl)
      where
        other : (t : Bool) → (n == first + count) ≡ t → n < first + count
        other true same = absurd (false≢true (sym e ∙ (ap P (sym (let is : n ≡ first + count = grind (arith, nat_tests) in is)) ∙ passes)))
        other false differs = let ne : n ≢ first + count = grind (arith, nat_tests) in omega (arith, high, ne)

-- ---- the job that a unique id names

module _ (k : Settings) (functions : queues.Table) (table : Table) (notes : List Note) (is_open : ℕ → Bool) (known : HoldsFunctions k functions (function_facts notes))
    (holds : HoldsJobs k functions table is_open (job_facts notes)) where
  not_live : (t : Bool) (at : JobState) → place_or None t ≡ place_of at → is_live at ≡ false
  not_live t states.Unmade e = refl
  not_live true states.Waiting e = absurd cc
  not_live false states.Waiting e = absurd cc
  not_live true (states.Running c) e = absurd cc
  not_live false (states.Running c) e = absurd cc
  not_live true states.Lost e = absurd cc
  not_live false states.Lost e = absurd cc
  not_live t states.Ended e = refl
  not_live t states.Discarded e = refl

  live_at : (s : LivePlace) → is_live (job_state_at s) ≡ true
  live_at Waiting = refl
  live_at (Running c) = refl
  live_at Lost = refl

  -- the table names a live job where the past does
  named_so : (f : ℕ) (name unique : List ℕ) (m : ℕ) (o : Option Live) → number_of name functions ≡ Some f → job table m ≡ o
      → is_live_named name unique notes m ≡ passes (is_named f unique) o
  named_so f name unique m None number e =
      let dead = not_live (is_made table m) (job_state m notes) (ap (λ o. place_or o (is_made table m)) (sym e) ∙ holds.places m) in
      rw dead refl
  named_so f name unique m (Some found) number e =
      let is = holds.live m found e in
      let lives : is_live (job_state m notes) ≡ true = ap is_live is.job_state ∙ live_at found.live_place in
      let within = position-within (bytes_eq name) functions.names f number in
      let same : bytes_eq (name_at functions.names found.function) name ≡ (found.function == f) =
      ap (bytes_eq (name_at functions.names found.function)) (sym (number_is name functions f number)) ∙ apart known found.function f is.function within in
      rw (lives, is.job, same) refl

  -- where the function isn't known, no live job is of it
  named_none : (name unique : List ℕ) (m : ℕ) (o : Option Live) → number_of name functions ≡ None → job table m ≡ o → is_live_named name unique notes m ≡ false
  named_none name unique m None number e =
      let dead = not_live (is_made table m) (job_state m notes) (ap (λ o. place_or o (is_made table m)) (sym e) ∙ holds.places m) in
      rw dead refl
  named_none name unique m (Some found) number e =
      let is = holds.live m found e in
      let lives : is_live (job_state m notes) ≡ true = ap is_live is.job_state ∙ live_at found.live_place in
      let other = unknown known name found.function number is.function in
      rw (lives, is.job, other) refl

  was_passed : (f : ℕ) (unique : List ℕ) (o : Option Live) → passes (is_named f unique) o ≡ true → (l : Live) × (o ≡ Some l)
  was_passed f unique None e = absurd (false≢true e)
  was_passed f unique (Some found) e = (found, refl)

  within_made : (n : ℕ) → is_made table n ≡ true → (k.first_job ≤ n) × (n < k.first_job + length (made notes))
  within_made n e =
      let first = holds.first in
      let next = holds.next in
      let both = and_parts (nat_le table.first n) (nat_lt n table.next) e in
      let low : table.first ≤ n = (let h = both.0 in grind (arith, nat_tests)) in
      let high : n < table.next = (let h = both.1 in grind (arith, nat_tests)) in
      (omega (arith, first, low), omega (arith, next, high))

  find_joined : (f : ℕ) (name unique : List ℕ) (o : Option ℕ) → number_of name functions ≡ Some f → joins unique ≡ true → IfSome o (IsNamed f unique table)
      → IfSome o (λ n. (m : ℕ) → IsNamed f unique table m → m ≡ n) → IfNone o ((n : ℕ) → IsNamed f unique table n → ⊥)
      → o ≡ find (is_live_named name unique notes) (made notes)
  find_joined f name unique (Some n) number joining found only none =
      let P = is_live_named name unique notes in
      let alive = was_passed f unique (job table n) found.named in
      let bounds = within_made n (holds.numbered n alive.0 alive.1) in
      sym (ap (find P) holds.made
      ∙ find_down P k.first_job (length (made notes)) n bounds.0 bounds.1 (named_so f name unique n (job table n) number refl ∙ found.named)
      (λ m e. only m (record { joins = joining; named = sym (named_so f name unique m (job table m) number refl) ∙ e })))
  find_joined f name unique None number joining found only none =
      sym (find_none (is_live_named name unique notes) (made notes) (λ n. nobody n (is_live_named name unique notes n) refl))
    where
      nobody : (n : ℕ) (t : Bool) → is_live_named name unique notes n ≡ t → is_live_named name unique notes n ≡ false
      nobody n false e = e
      nobody n true e = absurd (none n (record { joins = joining; named = sym (named_so f name unique n (job table n) number refl) ∙ e }))

  pub joined_is : (f : ℕ) (name unique : List ℕ) (o : Option ℕ) → number_of name functions ≡ Some f → IfSome o (IsNamed f unique table)
      → IfSome o (λ n. (m : ℕ) → IsNamed f unique table m → m ≡ n) → IfNone o ((n : ℕ) → IsNamed f unique table n → ⊥) → o ≡ joined name unique notes
  joined_is f name unique o number found only none = by (joins unique) refl
    where
      nothing : (o : Option ℕ) → joins unique ≡ false → IfSome o (IsNamed f unique table) → o ≡ None
      nothing None e found = refl
      nothing (Some n) e found = absurd (false≢true (sym e ∙ found.joins))

      by : (t : Bool) → joins unique ≡ t → o ≡ (if t then find (is_live_named name unique notes) (made notes) else None)
      by true e = find_joined f name unique o number e found only none
      by false e = nothing o e found

  pub joined_unknown : (name unique : List ℕ) → number_of name functions ≡ None → (let o : Option ℕ = None in o) ≡ joined name unique notes
  joined_unknown name unique number = by (joins unique)
    where
      by : (t : Bool) → (let o : Option ℕ = None in o) ≡ (if t then find (is_live_named name unique notes) (made notes) else None)
      by true = sym (find_none (is_live_named name unique notes) (made notes) (λ m. named_none name unique m (job table m) number refl))
      by false = refl

  -- the number that the next job gets, and that none is left
  pub numbered : (n : ℕ) → n ≡ table.next → n < 2 ^ 64 → next_number k notes ≡ Some n
  numbered n is fits =
      let next = holds.next in
      let same : k.first_job + length (made notes) ≡ n = omega (arith, is, next) in
      let low : nat_lt (k.first_job + length (made notes)) (2 ^ 64) ≡ true = grind (arith, nat_tests) in
      rw low (ap (λ i. Some i) same)

  pub spent : table.next ≡ 2 ^ 64 → next_number k notes ≡ None
  spent none =
      let next = holds.next in
      let high : k.first_job + length (made notes) ≡ 2 ^ 64 = omega (arith, next, none) in
      rw high refl

-- ---- jobs that are kept, and listened to

kept_each : (names : List (List ℕ)) (notes : List Note) (is_open : ℕ → Bool) (n m : ℕ) (t : Bool) (l : Live) → (n == m) ≡ t → IsJob names l (job_facts notes) is_open m
    → IsJob names (if t then kept l else l) (job_facts (Kept n ∷ notes)) is_open m
kept_each names notes is_open n m true l e is =
    record { function = is.function; job = is.job; job_state = is.job_state; kept = said (m == n) (turned n m true e); listeners = is.listeners; report = is.report; deadline = is.deadline; heard = is.heard }
  where
    said : (s : Bool) → s ≡ true → unwrap_or (if s then Some true else None) (is_kept m notes) ≡ true
    said true e = refl
    said false e = absurd (false≢true e)
kept_each names notes is_open n m false l e is =
    record { function = is.function; job = is.job; job_state = is.job_state; kept = said (m == n) (turned n m false e); listeners = is.listeners; report = is.report; deadline = is.deadline; heard = is.heard }
  where
    said : (s : Bool) → s ≡ false → unwrap_or (if s then Some true else None) (is_kept m notes) ≡ l.kept
    said false e = is.kept
    said true e = absurd (false≢true (sym e))

pub jobs_kept : {k : Settings} {functions : queues.Table} {old new : Table} {is_open : ℕ → Bool} (notes : List Note) (n : ℕ) → Changes n kept old new
    → HoldsJobs k functions old is_open (job_facts notes) → HoldsJobs k functions new is_open (job_facts (Kept n ∷ notes))
jobs_kept {k} {functions} {old} {new} {is_open} notes n changes holds =
    quietly {facts = job_facts notes} {now = job_facts (Kept n ∷ notes)} n kept changes (λ l. refl) refl refl refl refl refl (λ m l is. kept_each functions.names notes is_open n m (n == m) l refl is) holds

open_more : (is_open : ℕ → Bool) (c : ℕ) (slots : List ℕ) → is_open c ≡ true → AreOpen is_open slots → AreOpen is_open (slots ++ c ∷ [])
open_more is_open c [] opened all = (opened, tt)
open_more is_open c (d ∷ slots) opened all = (all.0, open_more is_open c slots opened all.1)

listens_each : (names : List (List ℕ)) (notes : List Note) (is_open : ℕ → Bool) (c n m : ℕ) (t : Bool) (l : Live) → (n == m) ≡ t → is_open c ≡ true → IsJob names l (job_facts notes) is_open m
    → IsJob names (if t then with_listener c l else l) (job_facts (Listens n c ∷ notes)) is_open m
listens_each names notes is_open c n m true l e opened is =
    record { function = is.function; job = is.job; job_state = is.job_state; kept = is.kept; listeners = said (m == n) (turned n m true e); report = is.report; deadline = is.deadline; heard = open_more is_open c l.listeners opened is.heard }
  where
    said : (s : Bool) → s ≡ true → (if s then listeners m notes ++ c ∷ [] else listeners m notes) ≡ l.listeners ++ c ∷ []
    said true e = ap (λ (x : List ℕ). x ++ c ∷ []) is.listeners
    said false e = absurd (false≢true e)
listens_each names notes is_open c n m false l e opened is =
    record { function = is.function; job = is.job; job_state = is.job_state; kept = is.kept; listeners = said (m == n) (turned n m false e); report = is.report; deadline = is.deadline; heard = is.heard }
  where
    said : (s : Bool) → s ≡ false → (if s then listeners m notes ++ c ∷ [] else listeners m notes) ≡ l.listeners
    said false e = is.listeners
    said true e = absurd (false≢true (sym e))

pub jobs_listen : {k : Settings} {functions : queues.Table} {old new : Table} {is_open : ℕ → Bool} (notes : List Note) (n c : ℕ) → Changes n (with_listener c) old new → is_open c ≡ true
    → HoldsJobs k functions old is_open (job_facts notes) → HoldsJobs k functions new is_open (job_facts (Listens n c ∷ notes))
jobs_listen {k} {functions} {old} {new} {is_open} notes n c changes opened holds =
    quietly {facts = job_facts notes} {now = job_facts (Listens n c ∷ notes)} n (with_listener c) changes (λ l. refl) refl refl refl refl refl
    (λ m l is. listens_each functions.names notes is_open c n m (n == m) l refl opened is) holds
