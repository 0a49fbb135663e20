-- A job that waits is among those that a grab would look at.
use Rattle.std.proofs.Common.{◌≡◌, ◌⊎◌, inl, inr, ℕ, Bool, true, false, cond, not, List, [], ◌∷◌, ◌++◌, filter}
use Rattle.std.proofs.Common.{Some, None, refl, sym, ap, subst, ◌∙◌}
use Rattle.std.specs.Prelude.{◌==◌}
use Rattle.std.specs.List.{list_any}
use Rattle.std.specs.Str.{bytes_eq}
use Rattle.std.proofs.lemmas.Bool.{and_from}
use Rattle.std.proofs.lemmas.Slice.Eq.{bytes_eq-Decides}
use Rattle.gm_notes.specs.declared.note.Note.{Note}
use Rattle.gm_notes.specs.declared.note.Note.TheVariants as notes
use Rattle.gm_notes.specs.declared.states.Priority.{Priority}
use Rattle.gm_notes.specs.declared.states.Priority.TheVariants.{High, Normal, Low}
use Rattle.gm_notes.specs.Jobs.{Job, job_state, job, is_job_with, is_queued, same_priority, as_they_came, queue}
use Rattle.gm_notes.specs.Jobs.{waiting_for, is_empty, pick, is_of, is_able, scan}
use Rattle.gm_notes.specs.JobStates.{is_waiting}
use Rattle.gm_notes.specs.JobStates as states
use Rattle.gm_laws.proofs.Moving.{moved, from, In, both_not}
use Rattle.gm_laws.proofs.Highest.{from_by, with_by, none_by, picks_from, picks_highest, none_highest}
use Rattle.gm_notes.specs.Settings.{Settings}
use Rattle.gm_notes.proofs.Scans.{scan_members}
use Rattle.std.proofs.lemmas.Bool.{false_from_ne_true}

in_last : (n : ℕ) (ms : List ℕ) → In n (ms ++ n ∷ [])
in_last n [] = inl refl
in_last n (m ∷ ms) = inr (in_last n ms)

in_longer : (n m : ℕ) (ms : List ℕ) → In n ms → In n (ms ++ m ∷ [])
in_longer n m [] i = absurd i
in_longer n m (x ∷ ms) (inl e) = inl e
in_longer n m (x ∷ ms) (inr i) = inr (in_longer n m ms i)

kept_at : (n x m : ℕ) (rest : List ℕ) (t : Bool) → not (x == m) ≡ t → (n == m) ≡ false → (n ≡ x) ⊎ In n rest → In n (cond t (x ∷ rest) rest)
kept_at n x m rest true is other i = i
kept_at n x m rest false is other (inr i) = i
kept_at n x m rest false is other (inl e) =
    let there : (x == m) ≡ false = subst (λ y. (y == m) ≡ false) e other in
    let bad : true ≡ false = sym (ap not there) ∙ is in let worse : ⊥ = cc in absurd worse

-- the others stay where one is taken out
in_others : (n m : ℕ) (ms : List ℕ) → (n == m) ≡ false → In n ms → In n (filter (λ x. not (x == m)) ms)
in_others n m [] other i = absurd i
in_others n m (x ∷ ms) other (inl e) = kept_at n x m _ (not (x == m)) refl other (inl e)
in_others n m (x ∷ ms) other (inr i) = kept_at n x m _ (not (x == m)) refl other (inr (in_others n m ms other i))

-- who waits came
pub waits_came : (n : ℕ) (l : List Note) → job_state n l ≡ states.Waiting → In n (as_they_came l)
waits_came n [] e = absurd cc
waits_came n (notes.Made m f p u body ∷ older) e =
    from (moved n m states.Waiting (job_state n older) states.Waiting (n == m) refl e) (λ h. subst (λ x. In n (as_they_came older ++ x ∷ [])) h.0 (in_last n (as_they_came older)))
    (λ h. in_longer n m (as_they_came older) (waits_came n older h.1))
waits_came n (notes.Returned m ∷ older) e =
    from (moved n m states.Waiting (job_state n older) states.Waiting (n == m) refl e)
    (λ h. subst (λ x. In n (filter (λ y. not (y == m)) (as_they_came older) ++ x ∷ [])) h.0 (in_last n (filter (λ y. not (y == m)) (as_they_came older))))
    (λ h. in_longer n m (filter (λ y. not (y == m)) (as_they_came older)) (in_others n m (as_they_came older) h.0 (waits_came n older h.1)))
waits_came n (notes.Assigned m c late ∷ older) e = from (moved n m (states.Running c) (job_state n older) states.Waiting (n == m) refl e) (λ h. absurd (let x = h.1 in cc)) (λ h. waits_came n older h.1)
waits_came n (notes.Ended m ∷ older) e = from (moved n m states.Ended (job_state n older) states.Waiting (n == m) refl e) (λ h. absurd (let x = h.1 in cc)) (λ h. waits_came n older h.1)
waits_came n (notes.Lost m ∷ older) e = from (moved n m states.Lost (job_state n older) states.Waiting (n == m) refl e) (λ h. absurd (let x = h.1 in cc)) (λ h. waits_came n older h.1)
waits_came n (notes.Discarded m ∷ older) e = from (moved n m states.Discarded (job_state n older) states.Waiting (n == m) refl e) (λ h. absurd (let x = h.1 in cc)) (λ h. waits_came n older h.1)
waits_came n (note ∷ older) e = waits_came n older e

found_at : (test : ℕ → Bool) (n x : ℕ) (rest : List ℕ) (t : Bool) → test x ≡ t → test n ≡ true → (n ≡ x) ⊎ (is_empty rest ≡ false) → is_empty (cond t (x ∷ rest) rest) ≡ false
found_at test n x rest true is e i = refl
found_at test n x rest false is e (inr i) = i
found_at test n x rest false is e (inl same) = let bad : true ≡ false = sym e ∙ (ap test same ∙ is) in let worse : ⊥ = cc in absurd worse

-- where one that passes is in the list, the test leaves some
some_left : (test : ℕ → Bool) (n : ℕ) (ms : List ℕ) → In n ms → test n ≡ true → is_empty (filter test ms) ≡ false
some_left test n [] i e = absurd i
some_left test n (x ∷ ms) (inl same) e = found_at test n x _ (test x) refl e (inl same)
some_left test n (x ∷ ms) (inr i) e = found_at test n x _ (test x) refl e (inr (some_left test n ms i e))

empty_first : (a b : List ℕ) → is_empty a ≡ false → is_empty (a ++ b) ≡ false
empty_first [] b e = absurd cc
empty_first (x ∷ a) b e = refl

empty_second : (a b : List ℕ) → is_empty b ≡ false → is_empty (a ++ b) ≡ false
empty_second [] b e = e
empty_second (x ∷ a) b e = refl

in_queue : (p q : Priority) (f : List ℕ) (l : List Note) → is_empty (queue f p l) ≡ false → p ≡ q → is_empty (queue f q l) ≡ false
in_queue p q f l e same = subst (λ x. is_empty (queue f x l) ≡ false) same e

by_priority : (p : Priority) (f : List ℕ) (l : List Note) → is_empty (queue f p l) ≡ false → is_empty (waiting_for f l) ≡ false
by_priority High f l e = empty_first (queue f High l ++ queue f Normal l) (queue f Low l) (empty_first (queue f High l) (queue f Normal l) e)
by_priority Normal f l e = empty_first (queue f High l ++ queue f Normal l) (queue f Low l) (empty_second (queue f High l) (queue f Normal l) e)
by_priority Low f l e = empty_second (queue f High l ++ queue f Normal l) (queue f Low l) e

priority_same : (p : Priority) → same_priority p p ≡ true
priority_same High = refl
priority_same Normal = refl
priority_same Low = refl

pub is_queued_here : (n : ℕ) (l : List Note) (what : Job) → job_state n l ≡ states.Waiting → job n l ≡ Some what → is_queued what.function what.priority l n ≡ true
is_queued_here n l what waits is =
    and_from (is_waiting (job_state n l)) (is_job_with what.function what.priority (job n l)) (ap is_waiting waits)
    (ap (is_job_with what.function what.priority) is
    ∙ and_from (bytes_eq what.function what.function) (same_priority what.priority what.priority) ((bytes_eq-Decides what.function what.function).1 refl) (priority_same what.priority))

-- in the queue of a job that waits, something waits
pub queue_waits : (n : ℕ) (l : List Note) (what : Job) → job_state n l ≡ states.Waiting → job n l ≡ Some what → is_empty (queue what.function what.priority l) ≡ false
queue_waits n l what waits is = some_left (is_queued what.function what.priority l) n (as_they_came l) (waits_came n l waits) (is_queued_here n l what waits is)

-- for the function of a job that waits, something waits
pub something_waits : (n : ℕ) (l : List Note) (what : Job) → job_state n l ≡ states.Waiting → job n l ≡ Some what → is_empty (waiting_for what.function l) ≡ false
something_waits n l what waits is =
    by_priority what.priority what.function l (queue_waits n l what waits is)

-- where there is no pick, nothing waits that can be done
pub no_pick : (k : Settings) (c n : ℕ) (l : List Note) (what : Job) → pick k c l ≡ None → job_state n l ≡ states.Waiting → job n l ≡ Some what → is_able c what.function l ≡ false
no_pick k c n l what none waits is = false_from_ne_true (is_able c what.function l) (λ able. by k.as_gearmand refl (scan_members k c l (is_of what.function) ∙ able))
  where
    by : (t : Bool) → k.as_gearmand ≡ t → list_any (is_of what.function) (scan k c l) ≡ true → ⊥
    by true set able =
        let none_with = none_highest (scan k c l) l (sym (picks_highest k c l set) ∙ none) what.priority in
        both_not (is_empty (queue what.function what.priority l))
        (none_by (λ f. queue f what.priority l) (scan k c l) what.function (sym (with_by what.priority (scan k c l) l) ∙ none_with) able) (queue_waits n l what waits is)
    by false plain able =
        both_not (is_empty (waiting_for what.function l))
        (none_by (λ f. waiting_for f l) (scan k c l) what.function (sym (from_by (scan k c l) l) ∙ (sym (picks_from k c l plain) ∙ none)) able) (something_waits n l what waits is)
