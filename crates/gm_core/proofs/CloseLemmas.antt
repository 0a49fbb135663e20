-- A live job that changes its place and its queue, or goes.
use Rattle.std.proofs.Common.{◌≡◌, ℕ, suc, ◌+◌, ◌<◌, ◌≤◌, ◌^◌, Bool, true, false, not, ◌&&◌, ◌==◌, nat_le, nat_lt, if◌then◌else◌, List, [], ◌∷◌, ◌++◌, length, filter, drop}
use Rattle.std.proofs.Common.{count_by, Contains, length-append, Option, Some, None, refl, sym, ap, subst, ◌∙◌, arith}
use Rattle.std.specs.Option.{option_map}
use Rattle.std.specs.Str.{bytes_eq}
use Rattle.std.proofs.lemmas.Bool.{and_parts, false≢true}
use Rattle.std.proofs.lemmas.Bool.Decides.{nat_tests}
use Rattle.std.proofs.lemmas.List.Sums.{length-filter}
use Rattle.gm_notes.specs.declared.note.Note.{Note}
use Rattle.gm_notes.specs.declared.note.Note.TheVariants.{Assigned, Ended, Discarded, Returned, Lost}
use Rattle.gm_notes.specs.declared.states.Priority.{Priority}
use Rattle.gm_notes.specs.declared.states.Priority.TheVariants.{High, Normal, Low}
use Rattle.gm_notes.specs.Settings.{Settings}
use Rattle.gm_notes.specs.Jobs.{job_state, is_job_with, same_priority, is_last_try as is_last_try_of}
use Rattle.gm_notes.specs.JobStates.{JobState, is_waiting, is_running, place_of}
use Rattle.gm_notes.specs.JobStates as states
use Rattle.gm_queues.specs.Queues.{Queue, without_first, without_reserved_one, with_job}
use Rattle.gm_queues.specs.FunctionTables.{number_of, queue, is_queue, HasIdleRoom, ChangesQueue, ForgetsJob}
use Rattle.gm_queues.specs.FunctionTables as queues
use Rattle.gm_jobs.specs.declared.job.LivePlace.TheVariants.{Waiting}
use Rattle.gm_jobs.specs.Live.{Live, waits, assigned, lost, returned, given_back as handed_back, is_last_try}
use Rattle.gm_jobs.specs.Tables.{Table, job, place_or, is_made, Ends, Changes}
use Rattle.gm_core.specs.Facts.{FunctionFacts, JobFacts, job_facts, waits_with, runs_with, queued, running_with}
use Rattle.gm_core.specs.Holds.{name_at, job_state_at, counted, jobs_named, HoldsFunctions, HoldsJobs, IsJob}
use Rattle.gm_core.proofs.FunctionLemmas.{apart, unknown, number_is, named, some_same}
use Rattle.gm_queues.proofs.PositionLemmas.{position-within}
use Rattle.gm_core.proofs.JobLemmas.{made_same, turned, state_waits, state_runs}
use Rattle.gm_core.proofs.OnceLemmas.{times, filter_alike, once_down, one_more, first_leaves, counted_in, contains_of, without_passed, came_back, last_in, not_in}
use Rattle.std.proofs.lemmas.Bool.{and_right}

-- ---- one job moves

-- these facts, but for where jobs are
abbrev moved_facts : JobFacts → List ℕ → (ℕ → JobState) → (ℕ → Option ℕ) → (ℕ → ℕ) → JobFacts
moved_facts facts came job_state deadline returns = record {
  made = facts.made;
  came = came;
  job_state = job_state;
  job = facts.job;
  kept = facts.kept;
  listeners = facts.listeners;
  report = facts.report;
  deadline = deadline;
  returns = returns;
}

by_case : (n : ℕ) (P Q : ℕ → Bool) → ((m : ℕ) → (m == n) ≡ false → P m ≡ Q m) → P n ≡ Q n → (m : ℕ) → P m ≡ Q m
by_case n P Q off here m = by (m == n) refl
  where
    by : (t : Bool) → (m == n) ≡ t → P m ≡ Q m
    by true e = subst (λ x. P x ≡ Q x) (let same : n ≡ m = grind (arith, nat_tests) in same) here
    by false e = off m e

pub same_one : (p q : Priority) → same_priority p q ≡ true → p ≡ q
same_one High High e = refl
same_one Normal Normal e = refl
same_one Low Low e = refl
same_one High Normal e = absurd (false≢true e)
same_one High Low e = absurd (false≢true e)
same_one Normal High e = absurd (false≢true e)
same_one Normal Low e = absurd (false≢true e)
same_one Low High e = absurd (false≢true e)
same_one Low Normal e = absurd (false≢true e)

same_itself : (q : Priority) → same_priority q q ≡ true
same_itself High = refl
same_itself Normal = refl
same_itself Low = refl

module _ (k : Settings) (functions : queues.Table) (old : Table) (is_open : ℕ → Bool) (notes : List Note) (names : FunctionFacts) (known : HoldsFunctions k functions names)
    (holds : HoldsJobs k functions old is_open (job_facts notes)) (n : ℕ) (found : Live) (at : job old n ≡ Some found) where
  abbrev facts : JobFacts
  facts = job_facts notes

  is : IsJob functions.names found facts is_open n
  is = holds.live n found at

  abbrev f : ℕ
  f = found.function

  abbrev p : Priority
  p = found.priority

  abbrev name : List ℕ
  name = name_at functions.names f

  abbrev matches : List ℕ → Priority → Bool
  matches other q = bytes_eq name other && same_priority p q

  job_with : (other : List ℕ) (q : Priority) → is_job_with other q (facts.job n) ≡ matches other q
  job_with other q = ap (is_job_with other q) is.job

  matches_own : matches name p ≡ true
  matches_own =
      let one : bytes_eq name name ≡ true = apart known f f is.function is.function ∙ grind (arith, nat_tests) in
      (λ i. one i && same_itself p i)

  its_own : is_job_with name p (facts.job n) ≡ true
  its_own = job_with name p ∙ matches_own

  -- the job stands once among those made, and among those that came
  once_made : times n facts.made ≡ 1
  once_made =
      let begins = holds.first in
      let next = holds.next in
      let both = and_parts (nat_le old.first n) (nat_lt n old.next) (holds.numbered n found at) in
      let low : old.first ≤ n = (let h = both.0 in grind (arith, nat_tests)) in
      let high : n < old.next = (let h = both.1 in grind (arith, nat_tests)) in
      ap (times n) holds.made ∙ once_down n k.first_job (length facts.made) (omega (arith, begins, low)) (omega (arith, next, high))

  once_come : times n facts.came ≡ 1
  once_come = holds.came (λ m. m == n) ∙ once_made

  -- what waits in its queue
  own_queue : (queue functions f p).jobs ≡ queued name p facts
  own_queue = sym (ap (λ o. jobs_named o p functions) (named known f is.function)) ∙ holds.queues name p

  -- ---- where jobs are but for this one stays

  module _ (job_state : ℕ → JobState) (state_off : (m : ℕ) → (m == n) ≡ false → job_state m ≡ facts.job_state m) where
    abbrev waits_now : List ℕ → Priority → ℕ → Bool
    waits_now other q m = is_waiting (job_state m) && is_job_with other q (facts.job m)

    abbrev runs_now : List ℕ → Priority → ℕ → Bool
    runs_now other q m = is_running (job_state m) && is_job_with other q (facts.job m)

    waits_off : (other : List ℕ) (q : Priority) (m : ℕ) → (m == n) ≡ false → waits_with other q facts m ≡ waits_now other q m
    waits_off other q m e = ap (λ s. is_waiting s && is_job_with other q (facts.job m)) (sym (state_off m e))

    runs_off : (other : List ℕ) (q : Priority) (m : ℕ) → (m == n) ≡ false → runs_with other q facts m ≡ runs_now other q m
    runs_off other q m e = ap (λ s. is_running s && is_job_with other q (facts.job m)) (sym (state_off m e))

    queue_stays : (other : List ℕ) (q : Priority) → waits_with other q facts n ≡ waits_now other q n → filter (waits_now other q) facts.came ≡ queued other q facts
    queue_stays other q e = sym (filter_alike (waits_with other q facts) (waits_now other q) facts.came (by_case n (waits_with other q facts) (waits_now other q) (waits_off other q) e))

    running_stays : (other : List ℕ) (q : Priority) → runs_with other q facts n ≡ runs_now other q n → length (filter (runs_now other q) facts.made) ≡ running_with other q facts
    running_stays other q e = ap (λ (l : List ℕ). length l) (sym (filter_alike (runs_with other q facts) (runs_now other q) facts.made (by_case n (runs_with other q facts) (runs_now other q) (runs_off other q) e)))

    -- in a queue that isn't its own nothing changes
    others_queued : (other : List ℕ) (q : Priority) → is_job_with other q (facts.job n) ≡ false → filter (waits_now other q) facts.came ≡ queued other q facts
    others_queued other q e = queue_stays other q (and_right (is_waiting (facts.job_state n)) _ e ∙ sym (and_right (is_waiting (job_state n)) _ e))

    others_running : (other : List ℕ) (q : Priority) → is_job_with other q (facts.job n) ≡ false → length (filter (runs_now other q) facts.made) ≡ running_with other q facts
    others_running other q e = running_stays other q (and_right (is_running (facts.job_state n)) _ e ∙ sym (and_right (is_running (job_state n)) _ e))

    module _ (came : List ℕ) (deadline : ℕ → Option ℕ) (returns : ℕ → ℕ) (after : queues.Table) (new : Table) (first : new.first ≡ old.first) (next : new.next ≡ old.next)
        (came_same : (P : ℕ → Bool) → length (filter P came) ≡ length (filter P facts.came))
        (deadline_off : (m : ℕ) → (m == n) ≡ false → deadline m ≡ facts.deadline m)
        (returns_off : (m : ℕ) → (m == n) ≡ false → returns m ≡ facts.returns m)
        (became : Option Live) (there : job new n ≡ became) (jobs_off : (m : ℕ) → (m == n) ≡ false → job new m ≡ job old m)
        (placed : place_or became true ≡ place_of (job_state n))
        (lives : (l : Live) → became ≡ Some l → IsJob functions.names l (moved_facts facts came job_state deadline returns) is_open n)
        (counts_here : (l : Live) → became ≡ Some l → l.returns ≡ counted k.retries (returns n))
        (names_same : after.names ≡ functions.names)
        (others : (g : ℕ) (q : Priority) → is_queue f p g q ≡ false → queue after g q ≡ queue functions g q)
        (others_came : (other : List ℕ) (q : Priority) → is_job_with other q (facts.job n) ≡ false → queued other q (moved_facts facts came job_state deadline returns) ≡ queued other q facts)
        (own : (queue after f p).jobs ≡ queued name p (moved_facts facts came job_state deadline returns))
        (own_room : (queue after f p).reserved ≡ length (queue after f p).jobs + running_with name p (moved_facts facts came job_state deadline returns)) where
      abbrev now : JobFacts
      now = moved_facts facts came job_state deadline returns

      number_same : (other : List ℕ) → number_of other after ≡ number_of other functions
      number_same other = ap (λ (l : List (List ℕ)). number_of other (record functions { names = l })) names_same

      its : (g : ℕ) (q : Priority) → is_queue f p g q ≡ true → (P : ℕ → Priority → Type 0) → P f p → P g q
      its g q e P h =
          let both = and_parts (f == g) (same_priority p q) e in
          let same : f ≡ g = (let h = both.0 in grind (arith, nat_tests)) in
          subst (λ x. P x q) same (subst (λ x. P f x) (same_one p q both.1) h)

      match : (g : ℕ) (q : Priority) → g < length functions.names → is_job_with (name_at functions.names g) q (facts.job n) ≡ is_queue f p g q
      match g q inside = job_with (name_at functions.names g) q ∙ ap (λ t. t && same_priority p q) (apart known f g is.function inside)

      queue_now : (g : ℕ) (q : Priority) → g < length functions.names → (t : Bool) → is_queue f p g q ≡ t → (queue after g q).jobs ≡ queued (name_at functions.names g) q now
      queue_now g q inside true e = its g q e (λ x y. (queue after x y).jobs ≡ queued (name_at functions.names x) y now) own
      queue_now g q inside false e =
          ap (λ (x : Queue). x.jobs) (others g q e)
          ∙ (sym (ap (λ o. jobs_named o q functions) (named known g inside)) ∙ holds.queues (name_at functions.names g) q
          ∙ sym (others_came (name_at functions.names g) q (match g q inside ∙ e)))

      named_queue : (other : List ℕ) (q : Priority) (o : Option ℕ) → number_of other functions ≡ o → jobs_named o q after ≡ queued other q now
      named_queue other q None e =
          let apart_from = unknown known other f e is.function in
          let no_match : is_job_with other q (facts.job n) ≡ false = job_with other q ∙ ap (λ t. t && same_priority p q) apart_from in
          sym (others_came other q no_match ∙ (sym (holds.queues other q) ∙ ap (λ o. jobs_named o q functions) e))
      named_queue other q (Some g) e =
          let inside = position-within (bytes_eq other) functions.names g e in
          queue_now g q inside (is_queue f p g q) refl ∙ ap (λ (x : List ℕ). queued x q now) (number_is other functions g e)

      room_now : (g : ℕ) (q : Priority) → g < length functions.names → (t : Bool) → is_queue f p g q ≡ t
          → (queue after g q).reserved ≡ length (queue after g q).jobs + running_with (name_at functions.names g) q now
      room_now g q inside true e =
          its g q e (λ x y. (queue after x y).reserved ≡ length (queue after x y).jobs + running_with (name_at functions.names x) y now) own_room
      room_now g q inside false e =
          let still = others_running (name_at functions.names g) q (match g q inside ∙ e) in
          let was = holds.room g q inside in
          rw (others g q e) (omega (arith, was, still))

      same_is : (m : ℕ) → (m == n) ≡ true → n ≡ m
      same_is m e = grind (arith, nat_tests)

      made_here : is_made new n ≡ true
      made_here = made_same old new n first next ∙ holds.numbered n found at

      numbered_now : (m : ℕ) (t : Bool) → (m == n) ≡ t → (l : Live) → job new m ≡ Some l → is_made new m ≡ true
      numbered_now m true e l g = subst (λ x. is_made new x ≡ true) (same_is m e) made_here
      numbered_now m false e l g = made_same old new m first next ∙ holds.numbered m l (sym (jobs_off m e) ∙ g)

      places_now : (m : ℕ) (t : Bool) → (m == n) ≡ t → place_or (job new m) (is_made new m) ≡ place_of (job_state m)
      places_now m true e = subst (λ x. place_or (job new x) (is_made new x) ≡ place_of (job_state x)) (same_is m e) ((λ i. place_or (there i) (made_here i)) ∙ placed)
      places_now m false e = (λ i. place_or (jobs_off m e i) (made_same old new m first next i)) ∙ (holds.places m ∙ ap place_of (sym (state_off m e)))

      live_now : (m : ℕ) (t : Bool) → (m == n) ≡ t → (l : Live) → job new m ≡ Some l → IsJob functions.names l now is_open m
      live_now m true e l g = subst (λ x. IsJob functions.names l now is_open x) (same_is m e) (lives l (sym there ∙ subst (λ x. job new x ≡ Some l) (sym (same_is m e)) g))
      live_now m false e l g =
          let was = holds.live m l (sym (jobs_off m e) ∙ g) in
          record { function = was.function; job = was.job; job_state = state_off m e ∙ was.job_state; kept = was.kept; listeners = was.listeners; report = was.report; deadline = deadline_off m e ∙ was.deadline; heard = was.heard }

      counts_now : (m : ℕ) (t : Bool) → (m == n) ≡ t → (l : Live) → job new m ≡ Some l → l.returns ≡ counted k.retries (returns m)
      counts_now m true e l g = subst (λ x. l.returns ≡ counted k.retries (returns x)) (same_is m e) (counts_here l (sym there ∙ subst (λ x. job new x ≡ Some l) (sym (same_is m e)) g))
      counts_now m false e l g = holds.counts m l (sym (jobs_off m e) ∙ g) ∙ ap (counted k.retries) (sym (returns_off m e))

      jobs_moved : HoldsJobs k after new is_open now
      jobs_moved = record {
        first = first ∙ holds.first;
        next = next ∙ holds.next;
        most = subst (λ x. x ≤ 2 ^ 64) (sym next) holds.most;
        made = holds.made;
        came = λ P. came_same P ∙ holds.came P;
        begins = holds.begins;
        numbered = λ m l e. numbered_now m (m == n) refl l e;
        places = λ m. places_now m (m == n) refl;
        live = λ m l e. subst (λ (names : List (List ℕ)). IsJob names l now is_open m) (sym names_same) (live_now m (m == n) refl l e);
        counts = λ m l e. counts_now m (m == n) refl l e;
        queues = λ other q. ap (λ o. jobs_named o q after) (number_same other) ∙ named_queue other q (number_of other functions) refl;
        room = λ g q inside.
            let here = subst (λ (l : List (List ℕ)). g < length l) names_same inside in
            room_now g q here (is_queue f p g q) refl ∙ ap (λ (l : List (List ℕ)). length (queue after g q).jobs + running_with (name_at l g) q now) (sym names_same);
      }

  -- ---- what its queue was, and what becomes of it

  itself : (n == n) ≡ true
  itself = grind (arith, nat_tests)

  own_changed : (change : Queue → Queue) (after : queues.Table) → ChangesQueue f p change functions after → queue after f p ≡ change (queue functions f p)
  own_changed change after changes =
      let one : (f == f) ≡ true = grind (arith, nat_tests) in
      changes.queues f p ∙ (λ i. if one i && same_itself p i then change (queue functions f p) else queue functions f p)

  others_changed : (change : Queue → Queue) (after : queues.Table) → ChangesQueue f p change functions after
      → (g : ℕ) (q : Priority) → is_queue f p g q ≡ false → queue after g q ≡ queue functions g q
  others_changed change after changes g q e = changes.queues g q ∙ ap (λ t. if t then change (queue functions g q) else queue functions g q) e

  -- ---- it stays live

  module _ (change : Live → Live) (new : Table) (changes : Changes n change old new) where
    changed_there : job new n ≡ Some (change found)
    changed_there = changes.jobs n ∙ (λ i. if itself i then option_map change (at i) else at i)

    changed_off : (m : ℕ) → (m == n) ≡ false → job new m ≡ job old m
    changed_off m e = changes.jobs m ∙ ap (λ t. if t then option_map change (job old m) else job old m) (turned m n false e)

  it_is : (x : Live) (P : Live → Type 0) → P x → (l : Live) → Some x ≡ Some l → P l
  it_is x P h l e = subst P (some_same x l e) h

  -- ---- it is over: it neither waits nor runs

  module _ (state : ℕ → JobState) (off : (m : ℕ) → (m == n) ≡ false → state m ≡ facts.job_state m) (waits_not : is_waiting (state n) ≡ false) (runs_not : is_running (state n) ≡ false)
      (over : place_or None true ≡ place_of (state n)) where
    abbrev over_now : JobFacts
    over_now = moved_facts facts facts.came state facts.deadline facts.returns

    waits_no_more : (other : List ℕ) (q : Priority) → waits_now state off other q n ≡ false
    waits_no_more other q = ap (λ b. b && is_job_with other q (facts.job n)) waits_not

    runs_no_more : (other : List ℕ) (q : Priority) → runs_now state off other q n ≡ false
    runs_no_more other q = ap (λ b. b && is_job_with other q (facts.job n)) runs_not

    jobs_over : (after : queues.Table) (new : Table) → Ends n old new → after.names ≡ functions.names → ((g : ℕ) (q : Priority) → is_queue f p g q ≡ false → queue after g q ≡ queue functions g q)
        → (queue after f p).jobs ≡ queued name p over_now → (queue after f p).reserved ≡ length (queue after f p).jobs + running_with name p over_now → HoldsJobs k after new is_open over_now
    jobs_over after new ends same others own room =
        jobs_moved state off facts.came facts.deadline facts.returns after new ends.first ends.next (λ P. refl) (λ m e. refl) (λ m e. refl)
        None (ends.jobs n ∙ ap (λ t. if t then None else job old n) itself) (λ m e. ends.jobs m ∙ ap (λ t. if t then None else job old m) (turned m n false e)) over (λ l e. absurd cc) (λ l e. absurd cc)
        same others (others_queued state off) own room

  abbrev thrown : ℕ → JobState
  thrown m = job_state m (Discarded n ∷ notes)

  thrown_off : (m : ℕ) → (m == n) ≡ false → thrown m ≡ facts.job_state m
  thrown_off m e = rw e refl

  thrown_now : thrown n ≡ states.Discarded
  thrown_now = rw itself refl

  -- ---- a waiting job

  module _ (waiting : found.live_place ≡ Waiting) where
    waited : job_state n notes ≡ states.Waiting
    waited = is.job_state ∙ ap job_state_at waiting

    waits_passes : waits_with name p facts n ≡ true
    waits_passes = (λ i. is_waiting (waited i) && its_own i)

    runs_was : (other : List ℕ) (q : Priority) → runs_with other q facts n ≡ false
    runs_was other q = ap (λ s. is_running s && is_job_with other q (facts.job n)) waited

    times_in : times n (queue functions f p).jobs ≡ 1
    times_in = ap (times n) own_queue ∙ (counted_in n (waits_with name p facts) facts.came waits_passes ∙ once_come)

    -- it stands in its queue
    pub stands_in : Contains (queue functions f p).jobs n
    stands_in = let e = times_in in contains_of n (queue functions f p).jobs (omega (arith, e))

    -- it is discarded
    pub jobs_discarded : (after : queues.Table) (new : Table) → ForgetsJob f p n functions after
        → (count_by (λ m. m == n) (queue functions f p).jobs ≡ 1 → (queue after f p).jobs ≡ filter (λ m. not (m == n)) (queue functions f p).jobs)
        → Ends n old new → HoldsJobs k after new is_open (job_facts (Discarded n ∷ notes))
    jobs_discarded after new forgets left ends =
        let fails = ap is_waiting thrown_now in
        let runs_not = ap is_running thrown_now in
        let was = holds.room f p is.function in
        let long = ap (λ (l : List ℕ). length l) forgets.left.was ∙ length-append forgets.left.before (n ∷ forgets.left.after) in
        let rest = ap (λ (l : List ℕ). length l) forgets.left.left ∙ length-append forgets.left.before forgets.left.after in
        let still = running_stays thrown thrown_off name p (runs_was name p ∙ sym (ap (λ b. b && is_job_with name p (facts.job n)) runs_not)) in
        let fewer = forgets.left.reserved in
        jobs_over thrown thrown_off fails runs_not (rw thrown_now refl) after new ends forgets.names forgets.others
        (left (sym (length-filter (λ m. m == n) (queue functions f p).jobs) ∙ times_in)
        ∙ (ap (λ (l : List ℕ). filter (λ m. not (m == n)) l) own_queue
        ∙ without_passed n (waits_with name p facts) (waits_now thrown thrown_off name p) facts.came (waits_off thrown thrown_off name p) (ap (λ b. b && is_job_with name p (facts.job n)) fails)))
        (omega (arith, was, long, rest, still, fewer))

    -- it is given out
    module _ (c : ℕ) (late : Option ℕ) where
      abbrev given : JobFacts
      given = job_facts (Assigned n c late ∷ notes)

      given_off : (m : ℕ) → (m == n) ≡ false → given.job_state m ≡ facts.job_state m
      given_off m e = rw e refl

      given_now : given.job_state n ≡ states.Running c
      given_now = rw itself refl

      given_is : IsJob functions.names (assigned c late found) given is_open n
      given_is = record { function = is.function; job = is.job; job_state = given_now; kept = is.kept; listeners = is.listeners; report = is.report; deadline = rw itself refl; heard = is.heard }

      given_queue : (rest : List ℕ) → (queue functions f p).jobs ≡ n ∷ rest → rest ≡ queued name p given
      given_queue rest first =
          sym (first_leaves (waits_with name p facts) (waits_with name p given) n rest facts.came once_come (waits_off given.job_state given_off name p) waits_passes
          (ap (λ s. is_waiting s && is_job_with name p (facts.job n)) given_now) (sym own_queue ∙ first))

      given_room : (rest : List ℕ) → (queue functions f p).jobs ≡ n ∷ rest → (after : queues.Table) → queue after f p ≡ without_first (queue functions f p)
          → (queue after f p).reserved ≡ length (queue after f p).jobs + running_with name p given
      given_room rest first after changed =
          let was = holds.room f p is.function in
          let long = ap (λ (l : List ℕ). length l) first in
          let left = ap (λ (l : List ℕ). length (drop 1 l)) first in
          let more = one_more (runs_with name p facts) (runs_with name p given) n facts.made once_made (runs_off given.job_state given_off name p) (runs_was name p) (λ i. is_running (given_now i) && its_own i) in
          rw changed (omega (arith, was, long, left, more))

      pub jobs_assigned : (rest : List ℕ) (after : queues.Table) (new : Table) → (queue functions f p).jobs ≡ n ∷ rest → ChangesQueue f p without_first functions after → Changes n (assigned c late) old new
          → HoldsJobs k after new is_open given
      jobs_assigned rest after new first changes became =
          let changed = own_changed without_first after changes in
          jobs_moved given.job_state given_off facts.came given.deadline facts.returns after new became.first became.next (λ P. refl) (λ m e. rw e refl) (λ m e. refl)
          (Some (assigned c late found)) (changed_there (assigned c late) new became) (changed_off (assigned c late) new became) (rw given_now refl)
          (it_is (assigned c late found) (λ x. IsJob functions.names x given is_open n) given_is)
          (it_is (assigned c late found) (λ x. x.returns ≡ counted k.retries (facts.returns n)) (holds.counts n found at))
          changes.names (others_changed without_first after changes) (others_queued given.job_state given_off)
          (ap (λ (x : Queue). x.jobs) changed ∙ (ap (drop 1) first ∙ given_queue rest first)) (given_room rest first after changed)

  -- ---- a running job, or one that is lost

  module _ (runs : waits found.live_place ≡ false) where
    ran : is_running (job_state n notes) ≡ true
    ran = ap is_running is.job_state ∙ (state_runs found.live_place ∙ ap not runs)

    waits_was : (other : List ℕ) (q : Priority) → waits_with other q facts n ≡ false
    waits_was other q = ap (λ b. b && is_job_with other q (facts.job n)) (ap is_waiting is.job_state ∙ (state_waits found.live_place ∙ runs))

    one_fewer : (state : ℕ → JobState) (off : (m : ℕ) → (m == n) ≡ false → state m ≡ facts.job_state m) → is_running (state n) ≡ false
        → running_with name p facts ≡ length (filter (runs_now state off name p) facts.made) + 1
    one_fewer state off runs_not =
        one_more (runs_now state off name p) (runs_with name p facts) n facts.made once_made (λ m e. sym (runs_off state off name p m e)) (ap (λ b. b && is_job_with name p (facts.job n)) runs_not) (λ i. ran i && its_own i)

    -- a place is there for it
    pub place_for : HasIdleRoom functions f p
    place_for =
        let was = holds.room f p is.function in
        let more = one_fewer thrown thrown_off (ap is_running thrown_now) in
        omega (arith, was, more)

    -- ---- it is over

    module _ (after : queues.Table) (new : Table) (changes : ChangesQueue f p without_reserved_one functions after) (ends : Ends n old new) where
      jobs_gone : (state : ℕ → JobState) (off : (m : ℕ) → (m == n) ≡ false → state m ≡ facts.job_state m) → is_waiting (state n) ≡ false → is_running (state n) ≡ false → place_or None true ≡ place_of (state n)
          → HoldsJobs k after new is_open (moved_facts facts facts.came state facts.deadline facts.returns)
      jobs_gone state off waits_not runs_not over =
          let changed = own_changed without_reserved_one after changes in
          let was = holds.room f p is.function in
          let more = one_fewer state off runs_not in
          jobs_over state off waits_not runs_not over after new ends changes.names (others_changed without_reserved_one after changes)
          (ap (λ (x : Queue). x.jobs) changed ∙ (own_queue ∙ sym (queue_stays state off name p (waits_was name p ∙ sym (ap (λ b. b && is_job_with name p (facts.job n)) waits_not)))))
          (rw changed (omega (arith, was, more)))

      pub jobs_released : HoldsJobs k after new is_open (job_facts (Discarded n ∷ notes))
      jobs_released = jobs_gone thrown thrown_off (ap is_waiting thrown_now) (ap is_running thrown_now) (rw thrown_now refl)

      pub jobs_ended : HoldsJobs k after new is_open (job_facts (Ended n ∷ notes))
      jobs_ended =
          let now : job_state n (Ended n ∷ notes) ≡ states.Ended = rw itself refl in
          jobs_gone (λ m. job_state m (Ended n ∷ notes)) (λ m e. rw e refl) (ap is_waiting now) (ap is_running now) (rw now refl)

    -- ---- it waits again

    abbrev back : JobFacts
    back = job_facts (Returned n ∷ notes)

    back_off : (m : ℕ) → (m == n) ≡ false → back.job_state m ≡ facts.job_state m
    back_off m e = rw e refl

    back_now : back.job_state n ≡ states.Waiting
    back_now = rw itself refl

    back_waits : (other : List ℕ) (q : Priority) → waits_with other q back n ≡ is_job_with other q (facts.job n)
    back_waits other q = ap (λ s. is_waiting s && is_job_with other q (facts.job n)) back_now

    others_back : (other : List ℕ) (q : Priority) → is_job_with other q (facts.job n) ≡ false → queued other q back ≡ queued other q facts
    others_back other q e = not_in n (waits_with other q facts) (waits_with other q back) facts.came (waits_off back.job_state back_off other q) (waits_was other q) (back_waits other q ∙ e)

    back_queue : queued name p back ≡ queued name p facts ++ n ∷ []
    back_queue = last_in n (waits_with name p facts) (waits_with name p back) facts.came (waits_off back.job_state back_off name p) (waits_was name p) (back_waits name p ∙ its_own)

    back_room : (after : queues.Table) → queue after f p ≡ with_job n (queue functions f p) → (queue after f p).reserved ≡ length (queue after f p).jobs + running_with name p back
    back_room after changed =
        let was = holds.room f p is.function in
        let more = one_fewer back.job_state back_off (ap is_running back_now) in
        let long = length-append (queue functions f p).jobs (n ∷ []) in
        rw changed (omega (arith, was, more, long))

    returned_is : IsJob functions.names (returned k.retries found) back is_open n
    returned_is = record { function = is.function; job = is.job; job_state = back_now; kept = is.kept; listeners = is.listeners; report = is.report; deadline = rw itself refl; heard = is.heard }

    counted_more : (limit was r : ℕ) → was ≡ counted limit r → (if limit == 0 then was else was + 1) ≡ counted limit (suc r)
    counted_more limit was r e = by (limit == 0) e
      where
        by : (t : Bool) → was ≡ (if t then 0 else r) → (if t then was else was + 1) ≡ (if t then 0 else suc r)
        by true e = e
        by false e = omega (arith, e)

    returned_counts : (returned k.retries found).returns ≡ counted k.retries (back.returns n)
    returned_counts = rw itself (counted_more k.retries found.returns (facts.returns n) (holds.counts n found at))

    pub jobs_returned : (after : queues.Table) (new : Table) → ChangesQueue f p (with_job n) functions after → is_last_try k.retries found ≡ false → Changes n (handed_back k.retries) old new
        → HoldsJobs k after new is_open back
    jobs_returned after new changes more became =
        let changed = own_changed (with_job n) after changes in
        let there : job new n ≡ Some (returned k.retries found) = changed_there (handed_back k.retries) new became ∙ (λ i. Some (if more i then lost found else returned k.retries found)) in
        jobs_moved back.job_state back_off back.came back.deadline back.returns after new became.first became.next (λ P. came_back n P facts.came once_come)
        (λ m e. rw e refl) (λ m e. rw e refl) (Some (returned k.retries found)) there (changed_off (handed_back k.retries) new became) (rw back_now refl)
        (it_is (returned k.retries found) (λ x. IsJob functions.names x back is_open n) returned_is)
        (it_is (returned k.retries found) (λ x. x.returns ≡ counted k.retries (back.returns n)) returned_counts)
        changes.names (others_changed (with_job n) after changes) others_back
        (ap (λ (x : Queue). x.jobs) changed ∙ (ap (λ (l : List ℕ). l ++ n ∷ []) own_queue ∙ sym back_queue)) (back_room after changed)

    -- ---- it is lost

    abbrev gone : JobFacts
    gone = job_facts (Lost n ∷ notes)

    gone_off : (m : ℕ) → (m == n) ≡ false → gone.job_state m ≡ facts.job_state m
    gone_off m e = rw e refl

    gone_now : gone.job_state n ≡ states.Lost
    gone_now = rw itself refl

    lost_is : IsJob functions.names (lost found) gone is_open n
    lost_is = record { function = is.function; job = is.job; job_state = gone_now; kept = is.kept; listeners = is.listeners; report = is.report; deadline = rw itself refl; heard = is.heard }

    -- it keeps its place at its queue
    pub jobs_lost : (new : Table) → is_last_try k.retries found ≡ true → Changes n (handed_back k.retries) old new → HoldsJobs k functions new is_open gone
    jobs_lost new last became =
        let there : job new n ≡ Some (lost found) = changed_there (handed_back k.retries) new became ∙ (λ i. Some (if last i then lost found else returned k.retries found)) in
        jobs_moved gone.job_state gone_off facts.came gone.deadline facts.returns functions new became.first became.next (λ P. refl)
        (λ m e. rw e refl) (λ m e. refl) (Some (lost found)) there (changed_off (handed_back k.retries) new became) (rw gone_now refl)
        (it_is (lost found) (λ x. IsJob functions.names x gone is_open n) lost_is)
        (it_is (lost found) (λ x. x.returns ≡ counted k.retries (facts.returns n)) (holds.counts n found at))
        refl (λ g q e. refl) (others_queued gone.job_state gone_off)
        (own_queue ∙ sym (queue_stays gone.job_state gone_off name p (waits_was name p ∙ sym (ap (λ s. is_waiting s && is_job_with name p (facts.job n)) gone_now))))
        (holds.room f p is.function ∙ ap (λ x. length (queue functions f p).jobs + x)
        (sym (running_stays gone.job_state gone_off name p (ap (λ b. b && is_job_with name p (facts.job n)) ran ∙ sym (ap (λ s. is_running s && is_job_with name p (facts.job n)) gone_now)))))

  -- ---- its last try

  pub last_try_is : is_last_try_of k n notes ≡ is_last_try k.retries found
  last_try_is = by (k.retries == 0) (holds.counts n found at)
    where
      by : (t : Bool) → found.returns ≡ (if t then 0 else facts.returns n) → (not t && nat_le k.retries (facts.returns n + 1)) ≡ (not t && nat_le k.retries (found.returns + 1))
      by true e = refl
      by false e = ap (λ (x : ℕ). nat_le k.retries (x + 1)) (sym e)
