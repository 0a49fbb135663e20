-- A job that is made.
use Rattle.std.proofs.Common.{◌≡◌, ℕ, zero, suc, ◌+◌, ◌<◌, ◌≤◌, ◌^◌, Bool, true, false, ◌&&◌, ◌==◌, if◌then◌else◌, List, []}
use Rattle.std.proofs.Common.{◌∷◌, ◌++◌, length, filter, Option, Some, None, codes, refl, sym, ap, subst, ◌∙◌, arith}
use Rattle.std.proofs.Common.{length-append}
use Rattle.std.proofs.lemmas.Bool.Decides.{nat_tests}
use Rattle.std.proofs.lemmas.List.Elements.{filter-append}
use Rattle.std.proofs.lemmas.List.{append-nil}
use Rattle.std.specs.Str.{bytes_eq}
use Rattle.gm_notes.specs.declared.states.Priority.{Priority}
use Rattle.gm_notes.specs.Settings.{Settings}
use Rattle.gm_notes.specs.Jobs.{Job, same_priority}
use Rattle.gm_notes.specs.JobStates as states
use Rattle.gm_notes.specs.JobStates.{place_of}
use Rattle.gm_queues.specs.Queues.{Queue, with_job, with_reserved_one}
use Rattle.gm_queues.specs.FunctionTables.{number_of, queue, is_queue}
use Rattle.gm_queues.specs.FunctionTables as queues
use Rattle.gm_jobs.specs.Live.{Live, fresh, listed}
use Rattle.gm_jobs.specs.Tables.{Table, job, place_or, is_made, Makes}
use Rattle.gm_core.specs.Facts.{FunctionFacts, JobFacts, waits_with, runs_with, queued, running_with}
use Rattle.gm_core.specs.Holds.{name_at, counted, numbers_down, jobs_named, AreOpen, HoldsFunctions, HoldsJobs, IsJob}
use Rattle.gm_core.proofs.FunctionLemmas.{apart, unknown, number_is, some_same}
use Rattle.gm_queues.proofs.PositionLemmas.{position-within}

-- ---- numbers that were not given yet

pub none_down : (n first count : ℕ) → first + count ≤ n → filter (λ m. m == n) (numbers_down first count) ≡ []
none_down n first zero above = refl
none_down n first (suc count) above =
    let other : (first + count == n) ≡ false = grind (arith, nat_tests) in
    rw other (none_down n first count (omega (arith, above)))

-- tests that agree but at a number that isn't there give the same
pub filter_off : (P Q : ℕ → Bool) (n : ℕ) (xs : List ℕ) → length (filter (λ m. m == n) xs) ≡ 0 → ((m : ℕ) → (m == n) ≡ false → P m ≡ Q m) → filter P xs ≡ filter Q xs
filter_off P Q n [] none same = refl
filter_off P Q n (x ∷ xs) none same = by (x == n) refl none (λ rest. filter_off P Q n xs rest same)
  where
    by : (t : Bool) → (x == n) ≡ t → length (if t then x ∷ filter (λ m. m == n) xs else filter (λ m. m == n) xs) ≡ 0
        → (length (filter (λ m. m == n) xs) ≡ 0 → filter P xs ≡ filter Q xs)
        → (if P x then x ∷ filter P xs else filter P xs) ≡ (if Q x then x ∷ filter Q xs else filter Q xs)
    by true e none rest = absurd (omega (arith, none))
    by false e none rest = λ j. if same x e j then x ∷ rest none j else rest none j

pub last_counted : (P : ℕ → Bool) (xs ys : List ℕ) (n : ℕ) → length (filter P xs) ≡ length (filter P ys) → length (filter P (xs ++ n ∷ [])) ≡ length (filter P (n ∷ ys))
last_counted P xs ys n same =
    ap (λ (l : List ℕ). length l) (filter-append P xs (n ∷ [])) ∙ (length-append (filter P xs) (filter P (n ∷ [])) ∙ by (P n))
  where
    by : (t : Bool) → length (filter P xs) + length (if t then n ∷ [] else []) ≡ length (if t then n ∷ filter P ys else filter P ys)
    by true = omega (arith, same)
    by false = omega (arith, same)

-- ---- what the past says once the job was made

-- a job made beside these facts, and whether it is kept and who listens
abbrev pub with_made : ℕ → Job → Bool → List ℕ → JobFacts → JobFacts
with_made n made_job is_kept slots facts = record {
  made = n ∷ facts.made;
  came = facts.came ++ n ∷ [];
  job_state = λ m. if m == n then states.Waiting else facts.job_state m;
  job = λ m. if m == n then Some made_job else facts.job m;
  kept = λ m. if m == n then is_kept else facts.kept m;
  listeners = λ m. if m == n then slots else facts.listeners m;
  report = λ m. if m == n then (codes "0", codes "0") else facts.report m;
  deadline = λ m. if m == n then None else facts.deadline m;
  returns = λ m. if m == n then 0 else facts.returns m;
}

module _ (k : Settings) (functions grown : queues.Table) (old new : Table) (is_open : ℕ → Bool) (facts : JobFacts) (names : FunctionFacts) (known : HoldsFunctions k functions names)
    (holds : HoldsJobs k functions old is_open facts) (f : ℕ) (p : Priority) (unique body : List ℕ) (is_kept : Bool) (listener : Option ℕ) (within : f < length functions.names)
    (fits : old.next < 2 ^ 64) (makes : Makes (fresh f p unique body is_kept listener) old new) (names_same : grown.names ≡ functions.names)
    (grows : (g : ℕ) (q : Priority) → queue grown g q ≡ (if is_queue f p g q then with_job old.next (with_reserved_one (queue functions g q)) else queue functions g q))
    (heard : AreOpen is_open (listed listener)) where
  abbrev n : ℕ
  n = old.next

  abbrev its_job : Job
  its_job = record { function = name_at functions.names f; priority = p; unique = unique; body = body }

  abbrev now : JobFacts
  now = with_made n its_job is_kept (listed listener) facts

  off : (m : ℕ) → (m == n) ≡ false → (n == m) ≡ false
  off m e = grind (arith, nat_tests)

  -- the number is new
  not_made : length (filter (λ m. m == n) facts.made) ≡ 0
  not_made =
      let e = holds.next in
      ap (λ (l : List ℕ). length (filter (λ m. m == n) l)) holds.made
      ∙ ap (λ (l : List ℕ). length l) (none_down n k.first_job (length facts.made) (omega (arith, e)))

  not_come : length (filter (λ m. m == n) facts.came) ≡ 0
  not_come = holds.came (λ m. m == n) ∙ not_made

  each : (m : ℕ) (t : Bool) (found : Live) → (m == n) ≡ t → (if t then Some (fresh f p unique body is_kept listener) else job old m) ≡ Some found
      → IsJob functions.names found now is_open m
  each m true found e is =
      let live = fresh f p unique body is_kept listener in
      let same : live ≡ found = some_same live found is in
      subst (λ (l : Live). IsJob functions.names l now is_open m) same
      (record { function = within; job = rw e refl; job_state = rw e refl; kept = rw e refl; listeners = rw e refl; report = rw e refl; deadline = rw e refl; heard = heard })
  each m false found e is =
      let was = holds.live m found is in
      record { function = was.function; job = rw e was.job; job_state = rw e was.job_state; kept = rw e was.kept; listeners = rw e was.listeners; report = rw e was.report; deadline = rw e was.deadline; heard = was.heard }

  none_counted : (t : Bool) → ◌≡◌ {A = ℕ} 0 (if t then 0 else 0)
  none_counted true = refl
  none_counted false = refl

  counts : (m : ℕ) (t : Bool) (found : Live) → (m == n) ≡ t → (if t then Some (fresh f p unique body is_kept listener) else job old m) ≡ Some found
      → found.returns ≡ counted k.retries (now.returns m)
  counts m true found e is =
      subst (λ (l : Live). l.returns ≡ counted k.retries (now.returns m)) (some_same (fresh f p unique body is_kept listener) found is) (rw e (none_counted (k.retries == 0)))
  counts m false found e is = rw e (holds.counts m found is)

  turned : (m : ℕ) → (n == m) ≡ (m == n)
  turned m = grind (arith, nat_tests)

  jobs_at : (m : ℕ) → job new m ≡ (if m == n then Some (fresh f p unique body is_kept listener) else job old m)
  jobs_at m = makes.jobs m ∙ ap (λ t. if t then Some (fresh f p unique body is_kept listener) else job old m) (turned m)

  made_here : (m : ℕ) → (m == n) ≡ true → is_made new m ≡ true
  made_here m e =
      let first = makes.first in let next = makes.next in let was = holds.next in let begins = holds.first in
      grind (arith, nat_tests)

  made_there : (m : ℕ) → (m == n) ≡ false → is_made new m ≡ is_made old m
  made_there m e = let first = makes.first in let next = makes.next in rw (first, next) (grind (arith, nat_tests))

  placed : (m : ℕ) (t : Bool) → (m == n) ≡ t → place_or (if t then Some (fresh f p unique body is_kept listener) else job old m) (is_made new m) ≡ place_of (if t then states.Waiting else facts.job_state m)
  placed m true e = refl
  placed m false e = ap (place_or (job old m)) (made_there m e) ∙ holds.places m

  numbered : (m : ℕ) (t : Bool) (found : Live) → (m == n) ≡ t → (if t then Some (fresh f p unique body is_kept listener) else job old m) ≡ Some found → is_made new m ≡ true
  numbered m true found e is = made_here m e
  numbered m false found e is = made_there m e ∙ holds.numbered m found is

  -- ---- queues

  waits_off : (name : List ℕ) (q : Priority) (m : ℕ) → (m == n) ≡ false → waits_with name q now m ≡ waits_with name q facts m
  waits_off name q m e = rw e refl

  runs_off : (name : List ℕ) (q : Priority) (m : ℕ) → (m == n) ≡ false → runs_with name q now m ≡ runs_with name q facts m
  runs_off name q m e = rw e refl

  itself : (n == n) ≡ true
  itself = grind (arith, nat_tests)

  -- the new job comes last in its queue
  queued_now : (name : List ℕ) (q : Priority) → queued name q now
      ≡ (if bytes_eq (name_at functions.names f) name && same_priority p q then queued name q facts ++ n ∷ [] else queued name q facts)
  queued_now name q =
      filter-append (waits_with name q now) facts.came (n ∷ [])
      ∙ (ap (λ (l : List ℕ). l ++ filter (waits_with name q now) (n ∷ [])) (filter_off (waits_with name q now) (waits_with name q facts) n facts.came not_come (waits_off name q))
      ∙ last (bytes_eq (name_at functions.names f) name && same_priority p q) here)
    where
      here : waits_with name q now n ≡ (bytes_eq (name_at functions.names f) name && same_priority p q)
      here = rw itself refl

      last : (t : Bool) → waits_with name q now n ≡ t → queued name q facts ++ filter (waits_with name q now) (n ∷ []) ≡ (if t then queued name q facts ++ n ∷ [] else queued name q facts)
      last true e = rw e refl
      last false e = rw e (append-nil (queued name q facts))

  queue_now : (g : ℕ) (q : Priority) → (queue grown g q).jobs ≡ (if is_queue f p g q then (queue functions g q).jobs ++ n ∷ [] else (queue functions g q).jobs)
  queue_now g q = ap (λ (x : Queue). x.jobs) (grows g q) ∙ by (is_queue f p g q)
    where
      by : (t : Bool) → (if t then with_job n (with_reserved_one (queue functions g q)) else queue functions g q).jobs ≡ (if t then (queue functions g q).jobs ++ n ∷ [] else (queue functions g q).jobs)
      by true = refl
      by false = refl

  number_now : (name : List ℕ) → number_of name grown ≡ number_of name functions
  number_now name = ap (λ (l : List (List ℕ)). number_of name (record functions { names = l })) names_same

  named_queue : (name : List ℕ) (q : Priority) (o : Option ℕ) → number_of name functions ≡ o → jobs_named o q grown ≡ queued name q now
  named_queue name q None e =
      let other = unknown known name f e within in
      let was = holds.queues name q in
      sym (queued_now name q ∙ rw other (sym was ∙ ap (λ o. jobs_named o q functions) e))
  named_queue name q (Some g) e =
      let is = number_is name functions g e in
      let inside = position-within (bytes_eq name) functions.names g e in
      let same : bytes_eq (name_at functions.names f) name ≡ (f == g) = ap (bytes_eq (name_at functions.names f)) (sym is) ∙ apart known f g within inside in
      let was : (queue functions g q).jobs ≡ queued name q facts = sym (ap (λ o. jobs_named o q functions) e) ∙ holds.queues name q in
      queue_now g q ∙ sym (queued_now name q ∙ rw (same, sym was) refl)

  running_now : (name : List ℕ) (q : Priority) → running_with name q now ≡ running_with name q facts
  running_now name q =
      let waits : runs_with name q now n ≡ false = rw itself refl in
      rw waits (ap (λ (l : List ℕ). length l) (filter_off (runs_with name q now) (runs_with name q facts) n facts.made not_made (runs_off name q)))

  room_now : (g : ℕ) (q : Priority) → g < length functions.names → (queue grown g q).reserved ≡ length (queue grown g q).jobs + running_with (name_at functions.names g) q now
  room_now g q inside = by (is_queue f p g q) (grows g q) (holds.room g q inside) (running_now (name_at functions.names g) q)
    where
      by : (t : Bool) → queue grown g q ≡ (if t then with_job n (with_reserved_one (queue functions g q)) else queue functions g q)
          → (queue functions g q).reserved ≡ length (queue functions g q).jobs + running_with (name_at functions.names g) q facts
          → running_with (name_at functions.names g) q now ≡ running_with (name_at functions.names g) q facts
          → (queue grown g q).reserved ≡ length (queue grown g q).jobs + running_with (name_at functions.names g) q now
      by true e was still = let long = length-append (queue functions g q).jobs (n ∷ []) in rw e (omega (arith, was, still, long))
      by false e was still = rw e (omega (arith, was, still))

  pub jobs_made : HoldsJobs k grown new is_open now
  jobs_made = record {
    first = makes.first ∙ holds.first;
    next = let next = makes.next in let was = holds.next in omega (arith, next, was);
    most = let next = makes.next in omega (arith, next, fits);
    made = let was = holds.next in ap (λ (l : List ℕ). n ∷ l) holds.made ∙ ap (λ x. x ∷ numbers_down k.first_job (length facts.made)) was;
    came = λ P. last_counted P facts.came facts.made n (holds.came P);
    begins = holds.begins;
    numbered = λ m found e. numbered m (m == n) found refl (sym (jobs_at m) ∙ e);
    places = λ m. ap (λ o. place_or o (is_made new m)) (jobs_at m) ∙ (placed m (m == n) refl);
    live = λ m found e. subst (λ (l : List (List ℕ)). IsJob l found now is_open m) (sym names_same) (each m (m == n) found refl (sym (jobs_at m) ∙ e));
    counts = λ m found e. counts m (m == n) found refl (sym (jobs_at m) ∙ e);
    queues = λ name q. ap (λ o. jobs_named o q grown) (number_now name) ∙ named_queue name q (number_of name functions) refl;
    room = λ g q inside.
        let here = subst (λ (l : List (List ℕ)). g < length l) names_same inside in
        room_now g q here ∙ ap (λ (l : List (List ℕ)). length (queue grown g q).jobs + running_with (name_at l g) q now) (sym names_same);
  }
