-- The laws about jobs: where they are, and that live ones which join are one.
use Rattle.std.proofs.Common.{◌≡◌, ℕ, suc, ◌+◌, ◌<◌, Bool, true, false, cond, ◌&&◌, ◌||◌, List, [], ◌∷◌, ◌++◌, length, find}
use Rattle.std.proofs.Common.{Some, None, refl, sym, ap, subst, ◌∙◌, arith}
use Rattle.std.specs.Prelude.{◌==◌, unwrap_or}
use Rattle.std.specs.List.{list_any}
use Rattle.std.specs.Str.{bytes_eq}
use Rattle.std.proofs.lemmas.Bool.{and_parts, and_from, or_left, or_right}
use Rattle.std.proofs.lemmas.Bool.Decides.{nat_tests}
use Rattle.std.proofs.lemmas.Slice.Eq.{bytes_eq-Decides}
use Rattle.gm_notes.specs.declared.note.Note.{Note}
use Rattle.gm_notes.specs.declared.note.Note.TheVariants.{Made, Assigned, Returned, Lost, Ended, Discarded}
use Rattle.gm_notes.specs.Settings.{Settings}
use Rattle.gm_notes.specs.Jobs.{Job, job_state, job, is_job_named, joins, joined, made, next_number, is_live_named}
use Rattle.gm_notes.specs.JobStates.{JobState, is_live, is_waiting, is_running}
use Rattle.gm_notes.specs.JobStates as states
use Rattle.gm_notes.specs.Steps.{Step, run}
use Rattle.gm_history.specs.History.{runs_at_a_slot, Allowed, History}
use Rattle.gm_laws.specs.Laws.{AreConsecutive, was_made, one, places_of, PlacedExactlyWhereMade, AreOne, is_gone, StayGone}
use Rattle.gm_history.proofs.StepsKeep.{step_keeps, run_history}
use Rattle.gm_history.proofs.Keeping.{keeps_notes, slot_runs}
use Rattle.gm_laws.proofs.NumberLaws.{next_is, numbers}
use Rattle.std.proofs.lemmas.Bool.{eqb-true}

-- ---- numbers that are equal or not

-- the job waits, runs or is lost, has ended or was discarded
abbrev pub has_place : JobState → Bool
has_place states.Unmade = false
has_place other = true

-- a job has a place exactly where it was made
abbrev pub HavePlaces : List Note → Type 0
HavePlaces notes = (n : ℕ) → has_place (job_state n notes) ≡ was_made n notes

pub same_test : (n m : ℕ) → (m == n) ≡ (n == m)
same_test n m = grind (arith, nat_tests)

pub running_place : (s : JobState) → is_running s ≡ true → has_place s ≡ true
running_place (states.Running c) e = refl
running_place states.Waiting e = refl
running_place states.Lost e = refl
running_place states.Unmade e = absurd cc
running_place states.Ended e = refl
running_place states.Discarded e = refl

waiting_place : (s : JobState) → is_waiting s ≡ true → has_place s ≡ true
waiting_place states.Waiting e = refl
waiting_place (states.Running c) e = refl
waiting_place states.Lost e = refl
waiting_place states.Unmade e = absurd cc
waiting_place states.Ended e = refl
waiting_place states.Discarded e = refl

pub live_place : (s : JobState) → is_live s ≡ true → has_place s ≡ true
live_place states.Waiting e = refl
live_place (states.Running c) e = refl
live_place states.Lost e = refl
live_place states.Unmade e = absurd cc
live_place states.Ended e = refl
live_place states.Discarded e = refl

slot_place : (s : JobState) → runs_at_a_slot s ≡ true → has_place s ≡ true
slot_place s e = running_place s (slot_runs s e)

pub slot_live : (s : JobState) → runs_at_a_slot s ≡ true → is_live s ≡ true
slot_live s e = or_right (is_waiting s) (is_running s) (slot_runs s e)

-- what may be discarded is live
pub discarded_live : (s : JobState) → (is_waiting s || runs_at_a_slot s) ≡ true → is_live s ≡ true
discarded_live states.Waiting e = refl
discarded_live (states.Running c) e = refl
discarded_live other e = absurd cc

-- ---- places

pub place_still : (t : Bool) (new old : JobState) → has_place new ≡ true → has_place old ≡ true → has_place (unwrap_or (cond t (Some new) None) old) ≡ true
place_still true new old p q = p
place_still false new old p q = q

-- a new place for job m, which had one
place_moved : (n m : ℕ) (older : List Note) (new : JobState) (t : Bool) → (n == m) ≡ t → has_place new ≡ true → has_place (job_state m older) ≡ true → has_place (job_state n older) ≡ was_made n older → has_place (unwrap_or (cond t (Some new) None) (job_state n older)) ≡ was_made n older
place_moved n m older new true is placed had rest =
    let same : m ≡ n = sym (eqb-true n m is) in
    placed ∙ sym (subst (λ x. has_place (job_state x older) ≡ true) same had) ∙ rest
place_moved n m older new false is placed had rest = rest

place_made : (n m : ℕ) (older : List Note) (t : Bool) → has_place (job_state n older) ≡ was_made n older → has_place (unwrap_or (cond t (Some states.Waiting) None) (job_state n older)) ≡ (t || was_made n older)
place_made n m older true rest = refl
place_made n m older false rest = rest

pub places : (k : Settings) (notes : List Note) → History k notes → HavePlaces notes
places k [] h n = refl
places k (Made m f p u body ∷ older) h n = place_made n m older (n == m) (places k older h.1 n) ∙ ap (λ t. t || was_made n older) (sym (same_test n m))
places k (Returned m ∷ older) h n = place_moved n m older states.Waiting (n == m) refl refl (slot_place (job_state m older) h.0.0) (places k older h.1 n)
places k (Lost m ∷ older) h n = place_moved n m older states.Lost (n == m) refl refl (slot_place (job_state m older) h.0.0) (places k older h.1 n)
places k (Assigned m c late ∷ older) h n = place_moved n m older (states.Running c) (n == m) refl refl (waiting_place (job_state m older) h.0.0) (places k older h.1 n)
places k (Ended m ∷ older) h n = place_moved n m older states.Ended (n == m) refl refl (running_place (job_state m older) h.0) (places k older h.1 n)
places k (Discarded m ∷ older) h n = place_moved n m older states.Discarded (n == m) refl refl (live_place (job_state m older) (discarded_live (job_state m older) h.0.0)) (places k older h.1 n)
places k (note ∷ older) h n = places k older h.1 n

placed_once : (s : JobState) → places_of s ≡ one (has_place s)
placed_once states.Unmade = refl
placed_once states.Waiting = refl
placed_once (states.Running c) = refl
placed_once states.Lost = refl
placed_once states.Ended = refl
placed_once states.Discarded = refl

pub placed : (k : Settings) (notes : List Note) → History k notes → PlacedExactlyWhereMade k notes
placed k notes h n = placed_once (job_state n notes) ∙ ap one (places k notes h n)

-- ---- one live job for each function and id

none_head : (test : ℕ → Bool) (m n : ℕ) (ns : List ℕ) (t u : Bool) → test m ≡ t → (m == n) ≡ u → (find test ns ≡ None → list_any (λ x. x == n) ns ≡ true → test n ≡ false) → cond t (Some m) (find test ns) ≡ None → (u || list_any (λ x. x == n) ns) ≡ true → test n ≡ false
none_head test m n ns true u is same rest e h = absurd cc
none_head test m n ns false true is same rest e h = subst (λ x. test x ≡ false) (eqb-true m n same) is
none_head test m n ns false false is same rest e h = rest e h

-- where a search finds none, no element passes
none_passes : (test : ℕ → Bool) (ns : List ℕ) (n : ℕ) → find test ns ≡ None → list_any (λ m. m == n) ns ≡ true → test n ≡ false
none_passes test [] n e h = absurd cc
none_passes test (m ∷ ns) n e h = none_head test m n ns (test m) (m == n) refl refl (none_passes test ns n) e h

-- live and named so, after a note that leaves job and name as they were for all but m
live_named_parts : (f u : List ℕ) (n : ℕ) (notes : List Note) → is_live_named f u notes n ≡ true → (is_live (job_state n notes) ≡ true) × (is_job_named f u (job n notes) ≡ true)
live_named_parts f u n notes e = and_parts (is_live (job_state n notes)) (is_job_named f u (job n notes)) e

-- nothing live joins what finds nothing to join
pub none_joins : (k : Settings) (f u : List ℕ) (n : ℕ) (older : List Note) → History k older → joins u ≡ true → joined f u older ≡ None → is_live_named f u older n ≡ true → ⊥
none_joins k f u n older h joining none e =
    let searched : find (λ m. is_live (job_state m older) && is_job_named f u (job m older)) (made older) ≡ None =
    ap (λ t. cond t (find (λ m. is_live (job_state m older) && is_job_named f u (job m older)) (made older)) None) (sym joining) ∙ none in
    let there : was_made n older ≡ true = sym (places k older h n) ∙ live_place (job_state n older) (live_named_parts f u n older e).0 in
    let fails = none_passes (λ m. is_live (job_state m older) && is_job_named f u (job m older)) (made older) n searched there in
    let bad : ⊥ = cc in bad

-- a job that keeps its liveness: whoever is live and named after the move was before
moved_live : (f u : List ℕ) (n m : ℕ) (older : List Note) (new : JobState) (t : Bool) → (n == m) ≡ t → is_live (job_state m older) ≡ true → (is_live (unwrap_or (cond t (Some new) None) (job_state n older)) && is_job_named f u (job n older)) ≡ true → is_live_named f u older n ≡ true
moved_live f u n m older new true is lived e =
    let same : m ≡ n = sym (eqb-true n m is) in
    and_from (is_live (job_state n older)) (is_job_named f u (job n older)) (subst (λ x. is_live (job_state x older) ≡ true) same lived) (and_parts (is_live new) (is_job_named f u (job n older)) e).1
moved_live f u n m older new false is lived e = e

pub waiting_live : (s : JobState) → is_waiting s ≡ true → is_live s ≡ true
waiting_live s e = or_left (is_waiting s) (is_running s) e

pub running_live : (s : JobState) → is_running s ≡ true → is_live s ≡ true
running_live s e = or_right (is_waiting s) (is_running s) e

-- a new job is live under its own function and id
new_named : (f u g v : List ℕ) → (bytes_eq g f && bytes_eq v u) ≡ true → (g ≡ f) × (v ≡ u)
new_named f u g v e =
    let p = and_parts (bytes_eq g f) (bytes_eq v u) e in
    ((bytes_eq-Decides g f).0 p.0, (bytes_eq-Decides v u).0 p.1)

made_named : (f u : List ℕ) (n m : ℕ) (new : Job) (older : List Note) (t : Bool) → (is_live (unwrap_or (cond t (Some states.Waiting) None) (job_state n older)) && is_job_named f u (unwrap_or (cond t (Some (Some new)) None) (job n older))) ≡ true → (t ≡ true → is_job_named f u (Some new) ≡ true) × (t ≡ false → is_live_named f u older n ≡ true)
made_named f u n m new older true e = ((λ h. (and_parts true (is_job_named f u (Some new)) e).1), (λ h. absurd cc))
made_named f u n m new older false e = ((λ h. absurd cc), (λ h. e))

-- two live jobs of one name, once job m was made
two_made : (k : Settings) (f u : List ℕ) (a b m : ℕ) (new : Job) (older : List Note) (s t : Bool) → History k older → (a == m) ≡ s → (b == m) ≡ t → joins u ≡ true → joined new.function new.unique older ≡ None
    → (is_live_named f u older a ≡ true → is_live_named f u older b ≡ true → a ≡ b)
    → (s ≡ true → is_job_named f u (Some new) ≡ true) × (s ≡ false → is_live_named f u older a ≡ true)
    → (t ≡ true → is_job_named f u (Some new) ≡ true) × (t ≡ false → is_live_named f u older b ≡ true) → a ≡ b
two_made k f u a b m new older true true h as_m bs_m joining none rest p q = eqb-true a m as_m ∙ sym (eqb-true b m bs_m)
two_made k f u a b m new older false false h as_m bs_m joining none rest p q = rest (p.1 refl) (q.1 refl)
two_made k f u a b m new older true false h as_m bs_m joining none rest p q =
    let n = new_named f u new.function new.unique (p.0 refl) in
    absurd (none_joins k f u b older h joining (subst (λ x. joined f x older ≡ None) n.1 (subst (λ x. joined x new.unique older ≡ None) n.0 none)) (q.1 refl))
two_made k f u a b m new older false true h as_m bs_m joining none rest p q =
    let n = new_named f u new.function new.unique (q.0 refl) in
    absurd (none_joins k f u a older h joining (subst (λ x. joined f x older ≡ None) n.1 (subst (λ x. joined x new.unique older ≡ None) n.0 none)) (p.1 refl))

pub one_live : (k : Settings) (notes : List Note) → History k notes → AreOne k notes
one_live k [] h f u a b joining p q = absurd cc
one_live k (Made m g pr v body ∷ older) h f u a b joining p q =
    let new : Job = record { function = g; priority = pr; unique = v; body = body } in
    two_made k f u a b m new older (a == m) (b == m) h.1 refl refl joining h.0.1 (one_live k older h.1 f u a b joining)
    (made_named f u a m new older (a == m) p) (made_named f u b m new older (b == m) q)
one_live k (Returned m ∷ older) h f u a b joining p q =
    let lived = slot_live (job_state m older) h.0.0 in
    one_live k older h.1 f u a b joining (moved_live f u a m older states.Waiting (a == m) refl lived p) (moved_live f u b m older states.Waiting (b == m) refl lived q)
one_live k (Lost m ∷ older) h f u a b joining p q =
    let lived = slot_live (job_state m older) h.0.0 in
    one_live k older h.1 f u a b joining (moved_live f u a m older states.Lost (a == m) refl lived p) (moved_live f u b m older states.Lost (b == m) refl lived q)
one_live k (Assigned m c late ∷ older) h f u a b joining p q =
    let lived = waiting_live (job_state m older) h.0.0 in
    one_live k older h.1 f u a b joining (moved_live f u a m older (states.Running c) (a == m) refl lived p) (moved_live f u b m older (states.Running c) (b == m) refl lived q)
one_live k (Ended m ∷ older) h f u a b joining p q =
    let lived = running_live (job_state m older) h.0 in
    one_live k older h.1 f u a b joining (moved_live f u a m older states.Ended (a == m) refl lived p) (moved_live f u b m older states.Ended (b == m) refl lived q)
one_live k (Discarded m ∷ older) h f u a b joining p q =
    let lived = discarded_live (job_state m older) h.0.0 in
    one_live k older h.1 f u a b joining (moved_live f u a m older states.Discarded (a == m) refl lived p) (moved_live f u b m older states.Discarded (b == m) refl lived q)
one_live k (note ∷ older) h f u a b joining p q = one_live k older h.1 f u a b joining p q

-- ---- who is gone stays so

below_head : (k : Settings) (ns : List ℕ) (m n : ℕ) (t : Bool) → (m == n) ≡ t → m ≡ k.first_job + length ns → (list_any (λ x. x == n) ns ≡ true → n < k.first_job + length ns) → (t || list_any (λ x. x == n) ns) ≡ true → n < k.first_job + suc (length ns)
below_head k ns m n true same is rest e = let eq = eqb-true m n same in omega arith
below_head k ns m n false same is rest e = let lt = rest e in omega arith

-- the numbers made are below the next one
pub below_next : (k : Settings) (ns : List ℕ) (n : ℕ) → AreConsecutive k ns → list_any (λ m. m == n) ns ≡ true → n < k.first_job + length ns
below_next k [] n h e = absurd cc
below_next k (m ∷ ns) n h e = below_head k ns m n (m == n) refl h.0 (below_next k ns n h.2) e

gone_dead : (s : JobState) → is_gone s ≡ true → is_live s ≡ true → ⊥
gone_dead states.Ended e h = let bad : ⊥ = cc in bad
gone_dead states.Discarded e h = let bad : ⊥ = cc in bad
gone_dead states.Unmade e h = let bad : ⊥ = cc in bad
gone_dead states.Waiting e h = let bad : ⊥ = cc in bad
gone_dead (states.Running c) e h = let bad : ⊥ = cc in bad
gone_dead states.Lost e h = let bad : ⊥ = cc in bad

-- a note that moves a live job m leaves a job that is gone
gone_moved : (n m : ℕ) (older : List Note) (new : JobState) (t : Bool) → (n == m) ≡ t → is_gone (job_state n older) ≡ true → is_live (job_state m older) ≡ true → unwrap_or (cond t (Some new) None) (job_state n older) ≡ job_state n older
gone_moved n m older new true is gone live =
    let same : m ≡ n = sym (eqb-true n m is) in
    absurd (gone_dead (job_state n older) gone (subst (λ x. is_live (job_state x older) ≡ true) same live))
gone_moved n m older new false is gone live = refl

no_place : (s : JobState) → has_place s ≡ false → s ≡ states.Unmade
no_place states.Unmade e = refl
no_place other e = absurd cc

unmade_if : (k : Settings) (n : ℕ) (older : List Note) (t : Bool) → has_place (job_state n older) ≡ t → History k older → next_number k older ≡ Some n → job_state n older ≡ states.Unmade
unmade_if k n older true is h next =
    let number = next_is k older n next in
    let lt = below_next k (made older) n (numbers k older h) (sym (places k older h n) ∙ is) in
    absurd (omega arith)
unmade_if k n older false is h next = no_place (job_state n older) is

-- the job of the next number isn't made yet
pub unmade : (k : Settings) (n : ℕ) (older : List Note) → History k older → next_number k older ≡ Some n → job_state n older ≡ states.Unmade
unmade k n older h next = unmade_if k n older (has_place (job_state n older)) refl h next

gone_made : (k : Settings) (n m : ℕ) (older : List Note) (t : Bool) → (n == m) ≡ t → History k older → next_number k older ≡ Some m → is_gone (job_state n older) ≡ true → unwrap_or (cond t (Some states.Waiting) None) (job_state n older) ≡ job_state n older
gone_made k n m older true is h next gone =
    let new : job_state n older ≡ states.Unmade = subst (λ x. job_state x older ≡ states.Unmade) (sym (eqb-true n m is)) (unmade k m older h next) in
    let bad : is_gone states.Unmade ≡ true = subst (λ s. is_gone s ≡ true) new gone in
    absurd cc
gone_made k n m older false is h next gone = refl

gone_stays : (k : Settings) (note : Note) (older : List Note) (n : ℕ) → Allowed k note older → History k older → is_gone (job_state n older) ≡ true → job_state n (note ∷ older) ≡ job_state n older
gone_stays k (Made m f p u body) older n h past gone = gone_made k n m older (n == m) refl past h.0 gone
gone_stays k (Returned m) older n h past gone = gone_moved n m older states.Waiting (n == m) refl gone (slot_live (job_state m older) h.0)
gone_stays k (Lost m) older n h past gone = gone_moved n m older states.Lost (n == m) refl gone (slot_live (job_state m older) h.0)
gone_stays k (Assigned m c late) older n h past gone = gone_moved n m older (states.Running c) (n == m) refl gone (waiting_live (job_state m older) h.0)
gone_stays k (Ended m) older n h past gone = gone_moved n m older states.Ended (n == m) refl gone (running_live (job_state m older) h)
gone_stays k (Discarded m) older n h past gone = gone_moved n m older states.Discarded (n == m) refl gone (discarded_live (job_state m older) h.0)
gone_stays k note older n h past gone = refl

gone_step : (k : Settings) (s : Step) (steps : List Step) (n : ℕ) → is_gone (job_state n (run k steps).notes) ≡ true → job_state n (run k (s ∷ steps)).notes ≡ job_state n (run k steps).notes
gone_step k s steps n gone =
    let start = run k steps in
    (step_keeps start s
    (keeps_notes (λ l. job_state n l ≡ job_state n start.notes) (λ note older allowed caused h e. gone_stays k note older n allowed h (ap is_gone e ∙ gone) ∙ e))
    (λ c e h u. u) (run_history k steps, refl)).1

pub stay_gone : StayGone
stay_gone k [] steps n gone = refl
stay_gone k (s ∷ later) steps n gone =
    let before = stay_gone k later steps n gone in
    gone_step k s (later ++ steps) n (ap is_gone before ∙ gone) ∙ before
