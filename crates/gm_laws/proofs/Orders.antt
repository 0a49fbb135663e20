-- Jobs are given out by priority, and then in the order in which they came to wait.
use Rattle.std.proofs.Common.{◌≡◌, ◌⊎◌, inl, inr, ℕ, ◌<◌, ◌≤◌, Bool, true, false, cond, not, List, [], ◌∷◌, ◌++◌, length, filter, Some, None}
use Rattle.std.proofs.Common.{refl, sym, ap, ap₂, subst, ◌∙◌, arith}
use Rattle.std.specs.Prelude.{◌==◌, unwrap_or}
use Rattle.std.specs.List.{All}
use Rattle.std.specs.Str.{bytes_eq}
use Rattle.std.proofs.lemmas.Bool.{and_parts, and_from}
use Rattle.std.proofs.lemmas.List.Elements.{All-head}
use Rattle.std.proofs.lemmas.Option.{same_Some}
use Rattle.std.proofs.lemmas.Slice.Eq.{bytes_eq-Decides}
use Rattle.gm_notes.specs.declared.note.Note.{Note}
use Rattle.gm_notes.specs.declared.note.Note.TheVariants as notes
use Rattle.gm_notes.specs.declared.states.Priority.{Priority}
use Rattle.gm_notes.specs.declared.states.Priority.TheVariants.{High, Normal, Low}
use Rattle.gm_notes.specs.Settings.{Settings}
use Rattle.gm_notes.specs.Jobs.{Job, job_state, job, as_they_came, same_priority, is_job_with, is_queued, queue, waiting_for, is_empty, is_of, scan}
use Rattle.gm_notes.specs.JobStates.{JobState, is_waiting}
use Rattle.gm_notes.specs.JobStates as states
use Rattle.gm_notes.specs.Past.{Past}
use Rattle.gm_notes.specs.Steps.{Step, Close, step, run}
use Rattle.gm_history.specs.History.{runs_at_a_slot, Allowed, History}
use Rattle.gm_history.specs.Causes.{Caused, asks, is_grab}
use Rattle.gm_laws.specs.Waiting.{came, GoesBefore, GivesTheFirst, IsAhead, NothingGetsInBefore, FirstComeFirstServed, IsHigher, HighGoesFirst}
use Rattle.gm_history.proofs.Finding.{WaitsFor, waiting_for_waits, job_of, waiting_is}
use Rattle.gm_laws.proofs.JobLaws.{has_place, unmade, place_still}
use Rattle.gm_laws.proofs.Keeping.{job_stays}
use Rattle.gm_laws.proofs.Moving.{from, moved, In, both_not}
use Rattle.gm_history.proofs.StepsKeep.{run_history}
use Rattle.gm_history.proofs.Caused.{note_law}
use Rattle.gm_laws.proofs.StepLaws.{gives, GivenSo, given_more}
use Rattle.gm_laws.proofs.Waiting.{waits_came, is_queued_here, queue_waits}
use Rattle.gm_laws.proofs.Highest.{pick_first, highest, head_by, none_by, with_by, picks_highest}
use Rattle.gm_notes.proofs.Numbers.{same_number}
use Rattle.gm_notes.proofs.Scans.{scan_members}
use Rattle.std.proofs.lemmas.Bool.{not-true}
use Rattle.std.proofs.lemmas.Bool.{eqb-true}

-- ---- lists in the order in which jobs came

-- each came before all that follow
abbrev Rising : List Note → List ℕ → Type 0
Rising l [] = Unit {0}
Rising l (n ∷ ns) = ((m : ℕ) → In m ns → came n l < came m l) × Rising l ns

in_last : (x m : ℕ) (ns : List ℕ) → In x (ns ++ m ∷ []) → In x ns ⊎ (x ≡ m)
in_last x m [] (inl e) = inr e
in_last x m [] (inr i) = absurd i
in_last x m (n ∷ ns) (inl e) = inl (inl e)
in_last x m (n ∷ ns) (inr i) = from (in_last x m ns i) (λ h. inl (inr h)) inr

in_filter : (test : ℕ → Bool) (x : ℕ) (ns : List ℕ) → In x (filter test ns) → In x ns × (test x ≡ true)
in_filter test x [] i = absurd i
in_filter test x (n ∷ ns) i = by (test n) refl (in_filter test x ns) i
  where
    by : (t : Bool) → test n ≡ t → (In x (filter test ns) → In x ns × (test x ≡ true)) → In x (cond t (n ∷ filter test ns) (filter test ns)) → In x (n ∷ ns) × (test x ≡ true)
    by true is rest (inl e) = (inl e, ap test e ∙ is)
    by true is rest (inr i) = let r = rest i in (inr r.0, r.1)
    by false is rest i = let r = rest i in (inr r.0, r.1)

in_kept : (test : ℕ → Bool) (x : ℕ) (ns : List ℕ) → In x ns → test x ≡ true → In x (filter test ns)
in_kept test x [] i e = i
in_kept test x (n ∷ ns) i e = by (test n) refl (λ j. in_kept test x ns j e) i
  where
    by : (t : Bool) → test n ≡ t → (In x ns → In x (filter test ns)) → In x (n ∷ ns) → In x (cond t (n ∷ filter test ns) (filter test ns))
    by true is rest (inl same) = inl same
    by true is rest (inr j) = inr (rest j)
    by false is rest (inl same) = absurd (both_not (test n) (ap test (sym same) ∙ e) is)
    by false is rest (inr j) = rest j

rising_same : (a b : List Note) (ns : List ℕ) → ((x : ℕ) → In x ns → came x b ≡ came x a) → Rising a ns → Rising b ns
rising_same a b [] same r = tt
rising_same a b (n ∷ ns) same r = ((λ m i. subst (λ x. x < came m b) (sym (same n (inl refl))) (subst (λ x. came n a < x) (sym (same m (inr i))) (r.0 m i))), rising_same a b ns (λ x i. same x (inr i)) r.1)

rising_last : (l : List Note) (m : ℕ) (ns : List ℕ) → Rising l ns → ((x : ℕ) → In x ns → came x l < came m l) → Rising l (ns ++ m ∷ [])
rising_last l m [] r less = ((λ x i. absurd i), tt)
rising_last l m (n ∷ ns) r less =
    ((λ x i. from (in_last x m ns i) (r.0 x) (λ same. subst (λ y. came n l < came y l) (sym same) (less n (inl refl)))), rising_last l m ns r.1 (λ x i. less x (inr i)))

rising_filter : (l : List Note) (test : ℕ → Bool) (ns : List ℕ) → Rising l ns → Rising l (filter test ns)
rising_filter l test [] r = tt
rising_filter l test (n ∷ ns) r = by (test n) (rising_filter l test ns r.1)
  where
    by : (t : Bool) → Rising l (filter test ns) → Rising l (cond t (n ∷ filter test ns) (filter test ns))
    by true rest = ((λ m i. r.0 m (in_filter test m ns i).0), rest)
    by false rest = rest

-- ---- in the order in which they came

record Ordered (l : List Note) : Type 0 where
  rising : Rising l (as_they_came l)
  known : (x : ℕ) → In x (as_they_came l) → (came x l < length l) × (has_place (job_state x l) ≡ true)

-- a note that brings job m to the end
comes_last : (note : Note) (older : List Note) (m : ℕ) (ns : List ℕ) → as_they_came (note ∷ older) ≡ ns ++ m ∷ [] → Rising older ns → ((x : ℕ) → In x ns → (came x older < length older) × (has_place (job_state x older) ≡ true) × ((x == m) ≡ false))
    → ((x : ℕ) → (x == m) ≡ false → came x (note ∷ older) ≡ came x older) → ((x : ℕ) → (x == m) ≡ false → job_state x (note ∷ older) ≡ job_state x older)
    → came m (note ∷ older) ≡ length older → job_state m (note ∷ older) ≡ states.Waiting → Ordered (note ∷ older)
comes_last note older m ns are rising all came_is states_are last waits =
    record {
      rising = subst (Rising (note ∷ older)) (sym are)
          (rising_last (note ∷ older) m ns (rising_same older (note ∷ older) ns (λ x i. came_is x (all x i).2) rising)
          (λ x i. let a = all x i in let same = came_is x a.2 in let lt = a.0 in omega (arith, same, last, lt)));
      known = λ x i.
          from (in_last x m ns (subst (In x) are i))
          (λ there. let a = all x there in let same = came_is x a.2 in let lt = a.0 in (omega (arith, same, lt), ap has_place (states_are x a.2) ∙ a.1))
          (λ same. (let is : came x (note ∷ older) ≡ length older = ap (λ y. came y (note ∷ older)) same ∙ last in omega (arith, is), ap (λ y. has_place (job_state y (note ∷ older))) same ∙ ap has_place waits));
    }

-- a note that changes no order
leaves_order : (note : Note) (older : List Note) → as_they_came (note ∷ older) ≡ as_they_came older → ((x : ℕ) → came x (note ∷ older) ≡ came x older) → ((x : ℕ) → has_place (job_state x older) ≡ true → has_place (job_state x (note ∷ older)) ≡ true)
    → Ordered older → Ordered (note ∷ older)
leaves_order note older are came_is places o =
    record {
      rising = subst (Rising (note ∷ older)) (sym are) (rising_same older (note ∷ older) (as_they_came older) (λ x i. came_is x) o.rising);
      known = λ x i. let a = o.known x (subst (In x) are i) in let same = came_is x in let lt = a.0 in (omega (arith, same, lt), places x a.1);
    }

other_than : (x m : ℕ) (l : List Note) → has_place (job_state x l) ≡ true → job_state m l ≡ states.Unmade → (x == m) ≡ false
other_than x m l placed none = by (x == m) refl
  where
    by : (t : Bool) → (x == m) ≡ t → t ≡ false
    by true is = absurd (let bad : has_place states.Unmade ≡ true = subst (λ s. has_place s ≡ true) (ap (λ y. job_state y l) (eqb-true x m is) ∙ none) placed in cc)
    by false is = refl

ordered : (k : Settings) (l : List Note) → History k l → Ordered l
ordered k [] h = record { rising = tt; known = λ x i. absurd i }
ordered k (notes.Made m f p u body ∷ older) h =
    let o = ordered k older h.1 in
    let first : came m (notes.Made m f p u body ∷ older) ≡ length older = rw (same_number m) refl in
    let waits : job_state m (notes.Made m f p u body ∷ older) ≡ states.Waiting = rw (same_number m) refl in
    comes_last (notes.Made m f p u body) older m (as_they_came older) refl o.rising
    (λ x i. let a = o.known x i in (a.0, a.1, other_than x m older a.1 (unmade k m older h.1 h.0.0)))
    (λ x is. rw is refl) (λ x is. rw is refl) first waits
ordered k (notes.Returned m ∷ older) h =
    let o = ordered k older h.1 in
    let test : ℕ → Bool = λ x. not (x == m) in
    let first : came m (notes.Returned m ∷ older) ≡ length older = rw (same_number m) refl in
    let waits : job_state m (notes.Returned m ∷ older) ≡ states.Waiting = rw (same_number m) refl in
    comes_last (notes.Returned m) older m (filter test (as_they_came older)) refl (rising_filter older test (as_they_came older) o.rising)
    (λ x i. let there = in_filter test x (as_they_came older) i in let a = o.known x there.0 in (a.0, a.1, not-true (x == m) there.1))
    (λ x is. rw is refl) (λ x is. rw is refl) first waits
ordered k (notes.Assigned m c late ∷ older) h = leaves_order (notes.Assigned m c late) older refl (λ x. refl) (λ x e. place_still (x == m) (states.Running c) (job_state x older) refl e) (ordered k older h.1)
ordered k (notes.Lost m ∷ older) h = leaves_order (notes.Lost m) older refl (λ x. refl) (λ x e. place_still (x == m) states.Lost (job_state x older) refl e) (ordered k older h.1)
ordered k (notes.Ended m ∷ older) h = leaves_order (notes.Ended m) older refl (λ x. refl) (λ x e. place_still (x == m) states.Ended (job_state x older) refl e) (ordered k older h.1)
ordered k (notes.Discarded m ∷ older) h = leaves_order (notes.Discarded m) older refl (λ x. refl) (λ x e. place_still (x == m) states.Discarded (job_state x older) refl e) (ordered k older h.1)
ordered k (note ∷ older) h = leaves_order note older refl (λ x. refl) (λ x e. e) (ordered k older h.1)

-- ---- the pick goes before the others

priority_is : (p q : Priority) → same_priority p q ≡ true → p ≡ q
priority_is High High e = refl
priority_is Normal Normal e = refl
priority_is Low Low e = refl
priority_is High Normal e = absurd cc
priority_is High Low e = absurd cc
priority_is Normal High e = absurd cc
priority_is Normal Low e = absurd cc
priority_is Low High e = absurd cc
priority_is Low Normal e = absurd cc

-- the first of a queue has its function and priority
pub queue_head : (f : List ℕ) (p : Priority) (l : List Note) (n : ℕ) (ns : List ℕ) (what : Job) → queue f p l ≡ n ∷ ns → job n l ≡ Some what → (what.function ≡ f) × (what.priority ≡ p)
queue_head f p l n ns what is known =
    let there = (in_filter (is_queued f p l) n (as_they_came l) (subst (In n) (sym is) (inl refl))).1 in
    let with_it = (and_parts (is_waiting (job_state n l)) (is_job_with f p (job n l)) there).1 in
    let parts = and_parts (bytes_eq what.function f) (same_priority what.priority p) (ap (is_job_with f p) (sym known) ∙ with_it) in
    ((bytes_eq-Decides what.function f).0 parts.0, priority_is what.priority p parts.1)

module _ (k : Settings) (l : List Note) (history : History k l) (n : ℕ) (what : Job) (known : job n l ≡ Some what) (m : ℕ) (other : Job) (waits : job_state m l ≡ states.Waiting) (knows : job m l ≡ Some other) (apart : n ≡ m → ⊥) where
  -- the other stands in its queue
  stands : In m (queue other.function other.priority l)
  stands = in_kept (is_queued other.function other.priority l) m (as_they_came l) (waits_came m l waits) (is_queued_here m l other waits knows)

  -- of one priority, it came first
  head_came : (ns : List ℕ) → queue other.function other.priority l ≡ n ∷ ns → came n l < came m l
  head_came ns is =
      let rises = subst (Rising l) is (rising_filter l (is_queued other.function other.priority l) (as_they_came l) (ordered k l history).rising) in
      from (subst (In m) is stands) (λ same. absurd (apart (sym same))) (λ there. rises.0 m there)

  goes_before : (p : Priority) (ns : List ℕ) → queue other.function p l ≡ n ∷ ns → (p ≡ other.priority) ⊎ IsHigher p other.priority → GoesBefore l n what m other
  goes_before p ns is (inl same) = let head = queue_head other.function p l n ns what is known in inr (head.1 ∙ same, head_came ns (ap (λ q. queue other.function q l) (sym same) ∙ is))
  goes_before p ns is (inr less) = let head = queue_head other.function p l n ns what is known in inl (subst (λ q. IsHigher q other.priority) (sym head.1) less)

  -- the other isn't in an empty queue
  not_empty : (p : Priority) → queue other.function p l ≡ [] → p ≡ other.priority → ⊥
  not_empty p none same = subst (In m) (ap (λ q. queue other.function q l) (sym same) ∙ none) stands

  first_before : (ns : List ℕ) → waiting_for other.function l ≡ n ∷ ns → GoesBefore l n what m other
  first_before ns is = by (queue other.function High l) (queue other.function Normal l) (queue other.function Low l) refl refl refl is
    where
      same_head : (x : ℕ) (xs ys : List ℕ) → x ∷ xs ≡ n ∷ ys → x ≡ n
      same_head x xs ys e = cc

      at_head : (p : Priority) (x : ℕ) (xs ys : List ℕ) → queue other.function p l ≡ x ∷ xs → x ∷ ys ≡ n ∷ ns → (p ≡ other.priority) ⊎ IsHigher p other.priority → GoesBefore l n what m other
      at_head p x xs ys is e less = goes_before p xs (is ∙ ap (λ y. y ∷ xs) (same_head x ys ns e)) less

      high : (q : Priority) → (High ≡ q) ⊎ IsHigher High q
      high High = inl refl
      high Normal = inr tt
      high Low = inr tt

      normal : (q : Priority) → (High ≡ q → ⊥) → (Normal ≡ q) ⊎ IsHigher Normal q
      normal High other = absurd (other refl)
      normal Normal other = inl refl
      normal Low other = inr tt

      low : (q : Priority) → (High ≡ q → ⊥) → (Normal ≡ q → ⊥) → (Low ≡ q) ⊎ IsHigher Low q
      low High other others = absurd (other refl)
      low Normal other others = absurd (others refl)
      low Low other others = inl refl

      by : (h o w : List ℕ) → queue other.function High l ≡ h → queue other.function Normal l ≡ o → queue other.function Low l ≡ w → h ++ o ++ w ≡ n ∷ ns → GoesBefore l n what m other
      by (x ∷ xs) o w is_h is_o is_w e = at_head High x xs _ is_h e (high other.priority)
      by [] (x ∷ xs) w is_h is_o is_w e = at_head Normal x xs _ is_o e (normal other.priority (not_empty High is_h))
      by [] [] (x ∷ xs) is_h is_o is_w e = at_head Low x xs _ is_w e (low other.priority (not_empty High is_h) (not_empty Normal is_o))
      by [] [] [] is_h is_o is_w e = absurd cc

-- ---- steps

-- the first that waits for a function is of it
pub first_of_function : (f : List ℕ) (l : List Note) (n : ℕ) (ns : List ℕ) (what : Job) → waiting_for f l ≡ n ∷ ns → job n l ≡ Some what → what.function ≡ f
first_of_function f l n ns what is known =
    let waits = All-head (WaitsFor f l) n ns (subst (All (WaitsFor f l)) is (waiting_for_waits f l)) in
    let found = job_of f (job n l) waits.1 in
    ap (λ (x : Job). x.function) (same_Some what found.0 (sym known ∙ found.1)) ∙ found.2

gives_first : (k : Settings) (steps : List Step) (s : Step) → GivesTheFirst (run k steps) (run k (s ∷ steps))
gives_first k steps s c n m what other waits runs also known knows same apart =
    let start = run k steps in
    let l = start.notes in
    from (gives k s start (run_history k steps) n c runs) (λ e. let bad : states.Waiting ≡ states.Running c = sym waits ∙ e in absurd cc)
    (λ h.
    let found = h.1.0 in
    let first = pick_first k c l found h.1.1 in
    let is : waiting_for first.0 l ≡ n ∷ first.1 = first.2 ∙ ap (λ x. x ∷ first.1) h.1.2 in
    first_before k l (run_history k steps) n what known m other also knows apart first.1 (ap (λ f. waiting_for f l) (same ∙ first_of_function first.0 l n first.1 what is known) ∙ is))

-- with as_gearmand the pick is of the highest priority
pub high_first : (k : Settings) (steps : List Step) (s : Step) → HighGoesFirst k (run k steps) s (run k (s ∷ steps))
high_first k steps s c n m what other set waits runs known also knows able higher =
    let start = run k steps in
    let l = start.notes in
    from (gives k s start (run_history k steps) n c runs) (λ e. let bad : states.Waiting ≡ states.Running c = sym waits ∙ e in absurd cc)
    (λ h.
    let found = h.1.0 in
    let top = highest (scan k c l) l found (sym (picks_highest k c l set) ∙ h.1.1) in
    let there = head_by (λ f. queue f top.p l) (scan k c l) found (sym (with_by top.p (scan k c l) l) ∙ top.is) in
    let of = (queue_head there.0 top.p l n there.1 what (there.2 ∙ ap (λ x. x ∷ there.1) h.1.2) known).1 in
    let none = top.above other.priority (subst (IsHigher other.priority) of higher) in
    both_not (is_empty (queue other.function other.priority l))
    (none_by (λ f. queue f other.priority l) (scan k c l) other.function (sym (with_by other.priority (scan k c l) l) ∙ none) (scan_members k c l (is_of other.function) ∙ able))
    (queue_waits m l other also knows))

-- ---- nothing gets in before

not_running : (c : ℕ) (state : JobState) → state ≡ states.Running c → state ≡ states.Waiting → ⊥
not_running c state runs waits = let bad : states.Waiting ≡ states.Running c = sym waits ∙ runs in let worse : ⊥ = cc in worse

-- what runs at a slot runs at one
runs_at : (state : JobState) → runs_at_a_slot state ≡ true → (c : ℕ) × (state ≡ states.Running c)
runs_at (states.Running c) e = (c, refl)
runs_at other e = absurd cc

closing_grabs : (c d : ℕ) → asks is_grab c (Close d) ≡ true → ⊥
closing_grabs c d e = let bad : ⊥ = cc in bad

module _ (k : Settings) (s : Step) (start : Past) (history : History k start.notes) (m : ℕ) where
  -- a job that waits waited and came when it did, or it waits only since then
  abbrev CameSo : List Note → Type 0
  CameSo l = job_state m l ≡ states.Waiting →
      ((job_state m start.notes ≡ states.Waiting) × (came m l ≡ came m start.notes)) ⊎ ((length start.notes ≤ came m l) × (job_state m start.notes ≡ states.Waiting → ⊥))

  -- there are more notes, a job that has a place keeps one, it runs only where it did or where a slot grabs, and so it
  -- came
  record Since (l : List Note) : Type 0 where
    more : length start.notes ≤ length l
    placed : has_place (job_state m start.notes) ≡ true → has_place (job_state m l) ≡ true
    given : (n c : ℕ) → job_state n l ≡ states.Running c → GivenSo k s start history n c
    so : CameSo l

  -- what doesn't bring the job to the end of its queue
  came_on : (note : Note) (older : List Note) → (job_state m (note ∷ older) ≡ states.Waiting → job_state m older ≡ states.Waiting) → came m (note ∷ older) ≡ came m older → CameSo older → CameSo (note ∷ older)
  came_on note older waited same so waits =
      from (so (waited waits)) (λ h. inl (h.0, same ∙ h.1)) (λ h. inr (subst (λ x. length start.notes ≤ x) (sym same) h.0, h.1))

  moved_on : (j : ℕ) (new : JobState) (older : List Note) → (new ≡ states.Waiting → ⊥) → unwrap_or (cond (m == j) (Some new) None) (job_state m older) ≡ states.Waiting → job_state m older ≡ states.Waiting
  moved_on j new older other e = from (moved m j new (job_state m older) states.Waiting (m == j) refl e) (λ h. absurd (other h.1)) (λ h. h.1)

  made_so : (j : ℕ) (f : List ℕ) (p : Priority) (u body : List ℕ) (older : List Note) → Allowed k (notes.Made j f p u body) older → History k older → Since older → CameSo (notes.Made j f p u body ∷ older)
  made_so j f p u body older allowed h since = by (m == j) refl
    where
      by : (t : Bool) → (m == j) ≡ t → CameSo (notes.Made j f p u body ∷ older)
      by true is waits = inr (
        (let last : came m (notes.Made j f p u body ∷ older) ≡ length older = rw is refl in let le = since.more in omega (arith, last, le)),
        λ was.
            let none : job_state m older ≡ states.Unmade = ap (λ x. job_state x older) (eqb-true m j is) ∙ unmade k j older h allowed.0 in
            let bad : has_place states.Unmade ≡ true = subst (λ x. has_place x ≡ true) none (since.placed (ap has_place was)) in
            let worse : ⊥ = cc in worse,
      )
      by false is waits = came_on (notes.Made j f p u body) older (λ e. rw is at e) (rw is refl) since.so waits

  returned_so : (j : ℕ) (older : List Note) → Allowed k (notes.Returned j) older → Caused k start.notes s (notes.Returned j) older → Since older → CameSo (notes.Returned j ∷ older)
  returned_so j older allowed cause since = by (m == j) refl
    where
      ran : (m == j) ≡ true → (c : ℕ) × (job_state m older ≡ states.Running c)
      ran is = runs_at (job_state m older) (subst (λ x. runs_at_a_slot (job_state x older) ≡ true) (sym (eqb-true m j is)) allowed.0)

      by : (t : Bool) → (m == j) ≡ t → CameSo (notes.Returned j ∷ older)
      by true is waits = inr (
        (let last : came m (notes.Returned j ∷ older) ≡ length older = rw is refl in let le = since.more in omega (arith, last, le)),
        λ was.
            let at = ran is in
            from (since.given m at.0 at.1) (λ e. not_running at.0 (job_state m start.notes) e was)
            (λ h. closing_grabs at.0 cause.0 (subst (λ x. asks is_grab at.0 x ≡ true) cause.1 h.0)),
      )
      by false is waits = came_on (notes.Returned j) older (λ e. rw is at e) (rw is refl) since.so waits

  placed_on : (note : Note) (older : List Note) → (has_place (job_state m older) ≡ true → has_place (job_state m (note ∷ older)) ≡ true) → Allowed k note older → Caused k start.notes s note older → History k older → Since older → CameSo (note ∷ older)
      → Since (note ∷ older)
  placed_on note older places allowed cause h since so = record {
    more = let le = since.more in omega arith;
    placed = λ e. places (since.placed e);
    given = given_more k s start history note older cause since.given;
    so = so;
  }

  since_more : (note : Note) (older : List Note) → Allowed k note older → Caused k start.notes s note older → History k older → Since older → Since (note ∷ older)
  since_more (notes.Made j f p u body) older allowed cause h r =
      placed_on (notes.Made j f p u body) older (place_still (m == j) states.Waiting (job_state m older) refl) allowed cause h r (made_so j f p u body older allowed h r)
  since_more (notes.Returned j) older allowed cause h r =
      placed_on (notes.Returned j) older (place_still (m == j) states.Waiting (job_state m older) refl) allowed cause h r (returned_so j older allowed cause r)
  since_more (notes.Assigned j c late) older allowed cause h r =
      placed_on (notes.Assigned j c late) older (place_still (m == j) (states.Running c) (job_state m older) refl) allowed cause h r
      (came_on (notes.Assigned j c late) older (moved_on j (states.Running c) older (λ e. let bad : ⊥ = cc in bad)) refl r.so)
  since_more (notes.Lost j) older allowed cause h r =
      placed_on (notes.Lost j) older (place_still (m == j) states.Lost (job_state m older) refl) allowed cause h r (came_on (notes.Lost j) older (moved_on j states.Lost older (λ e. let bad : ⊥ = cc in bad)) refl r.so)
  since_more (notes.Ended j) older allowed cause h r =
      placed_on (notes.Ended j) older (place_still (m == j) states.Ended (job_state m older) refl) allowed cause h r (came_on (notes.Ended j) older (moved_on j states.Ended older (λ e. let bad : ⊥ = cc in bad)) refl r.so)
  since_more (notes.Discarded j) older allowed cause h r =
      placed_on (notes.Discarded j) older (place_still (m == j) states.Discarded (job_state m older) refl) allowed cause h r (came_on (notes.Discarded j) older (moved_on j states.Discarded older (λ e. let bad : ⊥ = cc in bad)) refl r.so)
  since_more note older allowed cause h r = placed_on note older (λ e. e) allowed cause h r (came_on note older (λ e. e) refl r.so)

  came_so : CameSo (step k s start).notes
  came_so =
      (note_law k s start history Since (λ note older allowed cause h p. since_more note older allowed cause h p)
      (record { more = omega arith; placed = λ e. e; given = λ n c e. inl e; so = λ e. inl (e, refl) })).so

came_before : (k : Settings) (steps : List Step) (s : Step) (n m : ℕ) → job_state n (run k steps).notes ≡ states.Waiting → job_state n (run k (s ∷ steps)).notes ≡ states.Waiting
    → job_state m (run k (s ∷ steps)).notes ≡ states.Waiting → came m (run k (s ∷ steps)).notes < came n (run k (s ∷ steps)).notes
    → (job_state m (run k steps).notes ≡ states.Waiting) × (came m (run k steps).notes < came n (run k steps).notes)
came_before k steps s n m was still waits before =
    let start = run k steps in
    let history = run_history k steps in
    let low = ((ordered k start.notes history).known n (waits_came n start.notes was)).0 in
    from (came_so k s start history n still) (λ a.
    from (came_so k s start history m waits) (λ b. let same = a.1 in let also = b.1 in (b.0, omega (arith, same, also)))
    (λ b. let same = a.1 in let late = b.0 in absurd (omega (arith, same, late, low))))
    (λ a. absurd (a.1 was))

-- ---- who is ahead

in_middle : (n : ℕ) (before after : List ℕ) → In n (before ++ n ∷ after)
in_middle n [] after = inl refl
in_middle n (x ∷ before) after = inr (in_middle n before after)

parted : (n : ℕ) (ns : List ℕ) → In n ns → (before after : List ℕ) × (ns ≡ before ++ n ∷ after)
parted n [] i = absurd i
parted n (x ∷ ns) (inl e) = ([], ns, ap (λ (y : ℕ). y ∷ ns) (sym e))
parted n (x ∷ ns) (inr i) = let rest = parted n ns i in (x ∷ rest.0, rest.1, ap (λ (l : List ℕ). x ∷ l) rest.2)

ahead_rises : (l : List Note) (m n : ℕ) (before between after : List ℕ) → Rising l (before ++ m ∷ (between ++ n ∷ after)) → came m l < came n l
ahead_rises l m n [] between after r = r.0 n (in_middle n between after)
ahead_rises l m n (x ∷ before) between after r = ahead_rises l m n before between after r.1

-- where each came before all that follow, one that came before another is ahead of it
ahead_of : (l : List Note) (m n : ℕ) (ns : List ℕ) → Rising l ns → In m ns → In n ns → came m l < came n l → IsAhead m n ns
ahead_of l m n [] r i j lt = absurd i
ahead_of l m n (x ∷ ns) r (inl e) (inl d) lt = absurd (let same = ap (λ y. came y l) (e ∙ sym d) in omega (arith, same, lt))
ahead_of l m n (x ∷ ns) r (inl e) (inr j) lt = let rest = parted n ns j in ([], rest.0, rest.1, ap₂ (λ (y : ℕ) (ys : List ℕ). y ∷ ys) (sym e) rest.2)
ahead_of l m n (x ∷ ns) r (inr i) (inl d) lt = absurd (let less = r.0 m i in let same = ap (λ y. came y l) d in omega (arith, less, same, lt))
ahead_of l m n (x ∷ ns) r (inr i) (inr j) lt = let rest = ahead_of l m n ns r.1 i j lt in (x ∷ rest.0, rest.1, rest.2, ap (λ (l : List ℕ). x ∷ l) rest.3)

nothing_before : (k : Settings) (steps : List Step) (s : Step) → NothingGetsInBefore (run k steps) (run k (s ∷ steps))
nothing_before k steps s n m what was still is ahead =
    let f = what.function in
    let p = what.priority in
    let l = (run k steps).notes in
    let later = (run k (s ∷ steps)).notes in
    let rises = rising_filter later (is_queued f p later) (as_they_came later) (ordered k later (run_history k (s ∷ steps))).rising in
    let less = ahead_rises later m n ahead.0 ahead.1 ahead.2 (subst (Rising later) ahead.3 rises) in
    let there = (in_filter (is_queued f p later) m (as_they_came later) (subst (In m) (sym ahead.3) (in_middle m ahead.0 (ahead.1 ++ n ∷ ahead.2)))).1 in
    let parts = and_parts (is_waiting (job_state m later)) (is_job_with f p (job m later)) there in
    let old = came_before k steps s n m was still (waiting_is (job_state m later) parts.0) less in
    let known : is_job_with f p (job m l) ≡ true = ap (is_job_with f p) (sym (job_stays k steps s m (ap has_place old.0))) ∙ parts.1 in
    let here = and_from (is_waiting (job_state m l)) (is_job_with f p (job m l)) (ap is_waiting old.0) known in
    ahead_of l m n (queue f p l) (rising_filter l (is_queued f p l) (as_they_came l) (ordered k l (run_history k steps)).rising)
    (in_kept (is_queued f p l) m (as_they_came l) (waits_came m l old.0) here) (in_kept (is_queued f p l) n (as_they_came l) (waits_came n l was) (is_queued_here n l what was is)) old.1

pub first_served : (k : Settings) (steps : List Step) (s : Step) → FirstComeFirstServed k (run k steps) s (run k (s ∷ steps))
first_served k steps s = (gives_first k steps s, nothing_before k steps s)
