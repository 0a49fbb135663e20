-- The laws about retries: how often jobs are handed out, which are lost, and when these end.
use Rattle.std.proofs.Common.{◌≡◌, ℕ, suc, ◌+◌, ◌<◌, ◌≤◌, Bool, true, false, cond, not, ◌&&◌, ◌||◌, List, []}
use Rattle.std.proofs.Common.{◌∷◌, ◌++◌, Option, Some, None, refl, sym, ap, subst, ◌∙◌, arith}
use Rattle.std.specs.Prelude.{◌==◌, nat_le, max, unwrap_or}
use Rattle.std.proofs.lemmas.Bool.{and_parts, and_from}
use Rattle.std.proofs.lemmas.Bool.Decides.{nat_tests}
use Rattle.gm_notes.specs.declared.note.Note.{Note}
use Rattle.gm_notes.specs.declared.note.Note.TheVariants as notes
use Rattle.gm_notes.specs.Settings.{Settings}
use Rattle.gm_notes.specs.Notes.{moment}
use Rattle.gm_notes.specs.Jobs.{job_state, returns, is_last_try, deadline}
use Rattle.gm_notes.specs.JobStates.{JobState, is_waiting, is_running}
use Rattle.gm_notes.specs.JobStates as states
use Rattle.gm_notes.specs.Past.{Past, with_note}
use Rattle.gm_notes.specs.Closings.{is_reached}
use Rattle.gm_notes.specs.Steps.{Step, Packet, Tick, step}
use Rattle.gm_history.specs.History.{runs_at_a_slot, Allowed, History}
use Rattle.gm_history.specs.Causes.{Caused, Ends, is_tick}
use Rattle.gm_laws.specs.Retries.{times, hands_out, gives_back, loses, NoJobIsHandedOutMoreOften}
use Rattle.gm_laws.specs.Retries.{NoJobIsLostTwice, IsLostSo, OnlyTheLastTryLoses, LostJobsEndWithTheNextTick}
use Rattle.gm_laws.proofs.Clocks.{IsDue, tick_ends}
use Rattle.gm_laws.proofs.JobLaws.{has_place, unmade}
use Rattle.gm_laws.proofs.Moving.{both_not}
use Rattle.gm_history.proofs.Keeping.{keeps_notes}
use Rattle.gm_history.proofs.StepsKeep.{step_keeps}
use Rattle.std.proofs.lemmas.Bool.{eqb-true}

-- ---- how often a job was handed out, came back and was lost, by where it is

abbrev Counts : JobState → ℕ → ℕ → ℕ → Type 0
Counts states.Unmade out back lost = (out ≡ 0) × (back ≡ 0) × (lost ≡ 0)
Counts states.Waiting out back lost = (out ≡ back) × (lost ≡ 0)
Counts (states.Running c) out back lost = (out ≡ suc back) × (lost ≡ 0)
Counts states.Lost out back lost = (out ≡ suc back) × (lost ≡ 1)
Counts states.Ended out back lost = (out ≡ suc back) × (lost ≤ 1)
Counts states.Discarded out back lost = (out ≤ suc back) × (lost ≡ 0)

at_a_slot : (s : JobState) (out back lost : ℕ) → runs_at_a_slot s ≡ true → Counts s out back lost → (out ≡ suc back) × (lost ≡ 0)
at_a_slot (states.Running c) out back lost e h = h
at_a_slot other out back lost e h = absurd cc

in_a_queue : (s : JobState) (out back lost : ℕ) → is_waiting s ≡ true → Counts s out back lost → (out ≡ back) × (lost ≡ 0)
in_a_queue states.Waiting out back lost e h = h
in_a_queue (states.Running c) out back lost e h = absurd cc
in_a_queue states.Unmade out back lost e h = absurd cc
in_a_queue states.Lost out back lost e h = absurd cc
in_a_queue states.Ended out back lost e h = absurd cc
in_a_queue states.Discarded out back lost e h = absurd cc

at_work : (s : JobState) (out back lost : ℕ) → is_running s ≡ true → Counts s out back lost → (out ≡ suc back) × (lost ≤ 1)
at_work (states.Running c) out back lost e h = (h.0, let none = h.1 in omega arith)
at_work states.Lost out back lost e h = (h.0, let one = h.1 in omega arith)
at_work states.Waiting out back lost e h = absurd cc
at_work states.Unmade out back lost e h = absurd cc
at_work states.Ended out back lost e h = absurd cc
at_work states.Discarded out back lost e h = absurd cc

unwanted : (s : JobState) (out back lost : ℕ) → (is_waiting s || runs_at_a_slot s) ≡ true → Counts s out back lost → (out ≤ suc back) × (lost ≡ 0)
unwanted states.Waiting out back lost e h = (let same = h.0 in omega arith, h.1)
unwanted (states.Running c) out back lost e h = (let one_more = h.0 in omega arith, h.1)
unwanted states.Lost out back lost e h = absurd cc
unwanted states.Unmade out back lost e h = absurd cc
unwanted states.Ended out back lost e h = absurd cc
unwanted states.Discarded out back lost e h = absurd cc

abbrev CountsOf : ℕ → List Note → Type 0
CountsOf n l = Counts (job_state n l) (times (hands_out n) l) (times (gives_back n) l) (times (loses n) l)

-- a note moves job m, of which the older notes say so
module _ (k : Settings) (n m : ℕ) (older : List Note) (rest : CountsOf n older) where
  abbrev Out : ℕ
  Out = times (hands_out n) older

  abbrev Back : ℕ
  Back = times (gives_back n) older

  abbrev Gone : ℕ
  Gone = times (loses n) older

  abbrev At : Bool → JobState → JobState
  At t new = unwrap_or (cond t (Some new) None) (job_state n older)

  -- what is so of job m
  here : (P : JobState → Type 0) → (n == m) ≡ true → P (job_state m older) → P (job_state n older)
  here P is p = subst (λ x. P (job_state x older)) (sym (eqb-true n m is)) p

  made_counts : (t : Bool) → (n == m) ≡ t → job_state m older ≡ states.Unmade → Counts (At t states.Waiting) Out Back Gone
  made_counts true is new =
      let none = subst (λ s. Counts s Out Back Gone) (here (λ s. s ≡ states.Unmade) is new) rest in (none.0 ∙ sym none.1, none.2)
  made_counts false is new = rest

  assigned_counts : (t : Bool) (c : ℕ) → (n == m) ≡ t → is_waiting (job_state m older) ≡ true → Counts (At t (states.Running c)) (cond t (suc Out) Out) Back Gone
  assigned_counts true c is waits = let p = in_a_queue (job_state n older) Out Back Gone (here (λ s. is_waiting s ≡ true) is waits) rest in (ap suc p.0, p.1)
  assigned_counts false c is waits = rest

  returned_counts : (t : Bool) → (n == m) ≡ t → runs_at_a_slot (job_state m older) ≡ true → Counts (At t states.Waiting) Out (cond t (suc Back) Back) Gone
  returned_counts true is runs = at_a_slot (job_state n older) Out Back Gone (here (λ s. runs_at_a_slot s ≡ true) is runs) rest
  returned_counts false is runs = rest

  lost_counts : (t : Bool) → (n == m) ≡ t → runs_at_a_slot (job_state m older) ≡ true → Counts (At t states.Lost) Out Back (cond t (suc Gone) Gone)
  lost_counts true is runs = let p = at_a_slot (job_state n older) Out Back Gone (here (λ s. runs_at_a_slot s ≡ true) is runs) rest in (p.0, ap suc p.1)
  lost_counts false is runs = rest

  ended_counts : (t : Bool) → (n == m) ≡ t → is_running (job_state m older) ≡ true → Counts (At t states.Ended) Out Back Gone
  ended_counts true is runs = at_work (job_state n older) Out Back Gone (here (λ s. is_running s ≡ true) is runs) rest
  ended_counts false is runs = rest

  discarded_counts : (t : Bool) → (n == m) ≡ t → (is_waiting (job_state m older) || runs_at_a_slot (job_state m older)) ≡ true → Counts (At t states.Discarded) Out Back Gone
  discarded_counts true is lives = unwanted (job_state n older) Out Back Gone (here (λ s. (is_waiting s || runs_at_a_slot s) ≡ true) is lives) rest
  discarded_counts false is lives = rest

counts : (k : Settings) (l : List Note) (n : ℕ) → History k l → CountsOf n l
counts k [] n h = (refl, refl, refl)
counts k (notes.Made m f p u body ∷ older) n h = made_counts k n m older (counts k older n h.1) (n == m) refl (unmade k m older h.1 h.0.0)
counts k (notes.Assigned m c late ∷ older) n h = assigned_counts k n m older (counts k older n h.1) (n == m) c refl h.0.0
counts k (notes.Returned m ∷ older) n h = returned_counts k n m older (counts k older n h.1) (n == m) refl h.0.0
counts k (notes.Lost m ∷ older) n h = lost_counts k n m older (counts k older n h.1) (n == m) refl h.0.0
counts k (notes.Ended m ∷ older) n h = ended_counts k n m older (counts k older n h.1) (n == m) refl h.0
counts k (notes.Discarded m ∷ older) n h = discarded_counts k n m older (counts k older n h.1) (n == m) refl h.0.0
counts k (note ∷ older) n h = counts k older n h.1

-- a job was handed out once more, at most, than it came back
in_all : (s : JobState) (out back lost : ℕ) → Counts s out back lost → out ≤ suc back
in_all states.Unmade out back lost h = let none = h.0 in omega arith
in_all states.Waiting out back lost h = let same = h.0 in omega arith
in_all (states.Running c) out back lost h = let one_more = h.0 in omega arith
in_all states.Lost out back lost h = let one_more = h.0 in omega arith
in_all states.Ended out back lost h = let one_more = h.0 in omega arith
in_all states.Discarded out back lost h = h.0

-- ---- the returns since a job was made are all that there are

back_made : (n m : ℕ) (older : List Note) (t : Bool) → (n == m) ≡ t → job_state m older ≡ states.Unmade → CountsOf n older → returns n older ≡ times (gives_back n) older → cond t 0 (returns n older) ≡ times (gives_back n) older
back_made n m older true is new rest e =
    sym (subst (λ s. Counts s (times (hands_out n) older) (times (gives_back n) older) (times (loses n) older)) (subst (λ x. job_state x older ≡ states.Unmade) (sym (eqb-true n m is)) new) rest).1
back_made n m older false is new rest e = e

came_back : (k : Settings) (l : List Note) (n : ℕ) → History k l → returns n l ≡ times (gives_back n) l
came_back k [] n h = refl
came_back k (notes.Made m f p u body ∷ older) n h = back_made n m older (n == m) refl (unmade k m older h.1 h.0.0) (counts k older n h.1) (came_back k older n h.1)
came_back k (notes.Returned m ∷ older) n h = ap (λ b. cond (n == m) (suc b) b) (came_back k older n h.1)
came_back k (note ∷ older) n h = came_back k older n h.1

-- ---- the limit

-- no last try: there is no limit, or it isn't reached
not_last : (r b : ℕ) → (not (r == 0) && nat_le r (b + 1)) ≡ false → 0 < r → suc b < r
not_last r b e limit = grind (arith, nat_tests)

last_one : (r b : ℕ) → (not (r == 0) && nat_le r (b + 1)) ≡ true → (0 < r) × (r ≤ suc b)
last_one r b e = let p = and_parts (not (r == 0)) (nat_le r (b + 1)) e in let some = p.0 in let many = p.1 in (grind (arith, nat_tests), grind (arith, nat_tests))

below_returned : (n m : ℕ) (k : Settings) (older : List Note) (t : Bool) → (n == m) ≡ t → 0 < k.retries → is_last_try k m older ≡ false → returns n older < k.retries → cond t (suc (returns n older)) (returns n older) < k.retries
below_returned n m k older true is limit more e =
    not_last k.retries (returns n older) (subst (λ x. is_last_try k x older ≡ false) (sym (eqb-true n m is)) more) limit
below_returned n m k older false is limit more e = e

below_made : (r b : ℕ) (t : Bool) → 0 < r → b < r → cond t 0 b < r
below_made r b true limit e = limit
below_made r b false limit e = e

-- a job comes back less often than the limit says
below : (k : Settings) (l : List Note) (n : ℕ) → History k l → 0 < k.retries → returns n l < k.retries
below k [] n h limit = limit
below k (notes.Made m f p u body ∷ older) n h limit = below_made k.retries (returns n older) (n == m) limit (below k older n h.1 limit)
below k (notes.Returned m ∷ older) n h limit = below_returned n m k older (n == m) refl limit h.0.2 (below k older n h.1 limit)
below k (note ∷ older) n h limit = below k older n h.1 limit

pub no_more_often : (k : Settings) (l : List Note) → History k l → NoJobIsHandedOutMoreOften k l
no_more_often k l h limit n =
    let out = (in_all (job_state n l) (times (hands_out n) l) (times (gives_back n) l) (times (loses n) l) (counts k l n h)) in
    let back = subst (λ b. b < k.retries) (came_back k l n h) (below k l n h limit) in
    omega arith

-- ---- who is lost

pub lost_so : (k : Settings) (n : ℕ) (older : List Note) → Allowed k (notes.Lost n) older → History k older → IsLostSo k older n
lost_so k n older allowed h =
    let last = last_one k.retries (returns n older) allowed.2 in
    let most = below k older n h last.0 in
    let all = came_back k older n h in
    let back : suc (times (gives_back n) older) ≡ k.retries = let low = last.1 in omega arith in
    let out = (at_a_slot (job_state n older) (times (hands_out n) older) (times (gives_back n) older) (times (loses n) older) allowed.0 (counts k older n h)).0 in
    (last.0, allowed.0, out ∙ back, back, allowed.1)

history_of : (k : Settings) (newer older : List Note) → History k (newer ++ older) → History k older
history_of k [] older h = h
history_of k (note ∷ newer) older h = history_of k newer older h.1

pub only_last : (k : Settings) (l : List Note) → History k l → OnlyTheLastTryLoses k l
only_last k l h newer older n e = let g = history_of k newer (notes.Lost n ∷ older) (subst (History k) e h) in lost_so k n older g.0 g.1

lost_once : (s : JobState) (out back lost : ℕ) → Counts s out back lost → lost ≤ 1
lost_once states.Unmade out back lost h = let none = h.2 in omega arith
lost_once states.Waiting out back lost h = let none = h.1 in omega arith
lost_once (states.Running c) out back lost h = let none = h.1 in omega arith
lost_once states.Lost out back lost h = let just = h.1 in omega arith
lost_once states.Ended out back lost h = h.1
lost_once states.Discarded out back lost h = let none = h.1 in omega arith

none_lost : (k : Settings) (l : List Note) (n : ℕ) → History k l → k.retries ≡ 0 → times (loses n) l ≡ 0
none_lost k [] n h none = refl
none_lost k (notes.Lost m ∷ older) n h none = let some = (lost_so k m older h.0 h.1).0 in absurd (omega arith)
none_lost k (note ∷ older) n h none = none_lost k older n h.1 none

lost_within : (r lost : ℕ) (t : Bool) → (r == 0) ≡ t → lost ≤ 1 → (r ≡ 0 → lost ≡ 0) → lost ≤ cond t 0 1
lost_within r lost true is most none = let at = none (eqb-true r 0 is) in omega arith
lost_within r lost false is most none = most

pub not_twice : (k : Settings) (l : List Note) → History k l → NoJobIsLostTwice k l
not_twice k l h n =
    lost_within k.retries (times (loses n) l) (k.retries == 0) refl
    (lost_once (job_state n l) (times (hands_out n) l) (times (gives_back n) l) (times (loses n) l) (counts k l n h))
    (none_lost k l n h)

-- ---- until the next tick

lost_slot : (s : JobState) → s ≡ states.Lost → runs_at_a_slot s ≡ true → ⊥
lost_slot s is e = both_not (runs_at_a_slot s) e (ap runs_at_a_slot is)

lost_waits : (s : JobState) → s ≡ states.Lost → is_waiting s ≡ true → ⊥
lost_waits s is e = both_not (is_waiting s) e (ap is_waiting is)

-- a note for another job leaves it lost
off : (n m : ℕ) (new old : JobState) (t : Bool) → (n == m) ≡ t → (n ≡ m → ⊥) → old ≡ states.Lost → unwrap_or (cond t (Some new) None) old ≡ states.Lost
off n m new old true is other lost = absurd (other (eqb-true n m is))
off n m new old false is other lost = lost

lost_still : (t : Bool) (old : JobState) → old ≡ states.Lost → unwrap_or (cond t (Some states.Lost) None) old ≡ states.Lost
lost_still true old lost = refl
lost_still false old lost = lost

-- only a tick ends it
ends_others : (k : Settings) (before : List Note) (s : Step) (m : ℕ) → is_tick s ≡ false → Ends k before s m → job_state m before ≡ states.Lost → ⊥
ends_others k before (Packet c number bytes) m other ends lost = let bad : states.Running c ≡ states.Lost = sym ends.1 ∙ lost in let worse : ⊥ = cc in worse
ends_others k before (Tick now) m other ends lost = let bad : ⊥ = cc in bad
ends_others k before s m other ends lost = ends

lost_more : (k : Settings) (before : List Note) (s : Step) (n : ℕ) (note : Note) (older : List Note) → is_tick s ≡ false → job_state n before ≡ states.Lost → Allowed k note older → Caused k before s note older → History k older
    → job_state n older ≡ states.Lost → job_state n (note ∷ older) ≡ states.Lost
lost_more k before s n (notes.Made m f p u body) older other first allowed cause h lost =
    off n m states.Waiting (job_state n older) (n == m) refl
    (λ same. let bad : states.Unmade ≡ states.Lost = sym (subst (λ x. job_state x older ≡ states.Unmade) (sym same) (unmade k m older h allowed.0)) ∙ lost in let worse : ⊥ = cc in worse) lost
lost_more k before s n (notes.Assigned m c late) older other first allowed cause h lost =
    off n m (states.Running c) (job_state n older) (n == m) refl (λ same. lost_waits (job_state n older) lost (subst (λ x. is_waiting (job_state x older) ≡ true) (sym same) allowed.0)) lost
lost_more k before s n (notes.Returned m) older other first allowed cause h lost =
    off n m states.Waiting (job_state n older) (n == m) refl (λ same. lost_slot (job_state n older) lost (subst (λ x. runs_at_a_slot (job_state x older) ≡ true) (sym same) allowed.0)) lost
lost_more k before s n (notes.Lost m) older other first allowed cause h lost = lost_still (n == m) (job_state n older) lost
lost_more k before s n (notes.Ended m) older other first allowed cause h lost =
    off n m states.Ended (job_state n older) (n == m) refl (λ same. ends_others k before s m other cause (subst (λ x. job_state x before ≡ states.Lost) same first)) lost
lost_more k before s n (notes.Discarded m) older other first allowed cause h lost =
    off n m states.Discarded (job_state n older) (n == m) refl
    (λ same. both_not (is_waiting (job_state n older) || runs_at_a_slot (job_state n older)) (subst (λ x. (is_waiting (job_state x older) || runs_at_a_slot (job_state x older)) ≡ true) (sym same) allowed.0)
    (ap (λ s. is_waiting s || runs_at_a_slot s) lost)) lost
lost_more k before s n note older other first allowed cause h lost = lost

stays_lost : (k : Settings) (s : Step) (start : Past) (n : ℕ) → is_tick s ≡ false → History k start.notes → job_state n start.notes ≡ states.Lost → job_state n (step k s start).notes ≡ states.Lost
stays_lost k s start n other h lost =
    (step_keeps start s
    (keeps_notes (λ l. job_state n l ≡ states.Lost) (λ note older allowed cause g p. lost_more k start.notes s n note older other lost allowed cause g p))
    (λ c e g u. u) (h, lost)).1

-- ---- the next tick

-- a note that moves a job and says its deadline
late_at : (new : JobState) (late : Option ℕ) (n : ℕ) (older : List Note) (t : Bool) → (new ≡ states.Lost → late ≡ Some 0) → (job_state n older ≡ states.Lost → deadline n older ≡ Some 0)
    → unwrap_or (cond t (Some new) None) (job_state n older) ≡ states.Lost → unwrap_or (cond t (Some late) None) (deadline n older) ≡ Some 0
late_at new late n older true says rest lost = says lost
late_at new late n older false says rest lost = rest lost

late_kept : (new : JobState) (n : ℕ) (older : List Note) (t : Bool) → (new ≡ states.Lost → ⊥) → (job_state n older ≡ states.Lost → deadline n older ≡ Some 0)
    → unwrap_or (cond t (Some new) None) (job_state n older) ≡ states.Lost → deadline n older ≡ Some 0
late_kept new n older true other rest lost = absurd (other lost)
late_kept new n older false other rest lost = rest lost

-- a lost job's deadline is at hand
lost_late : (n : ℕ) (l : List Note) → job_state n l ≡ states.Lost → deadline n l ≡ Some 0
lost_late n [] lost = absurd cc
lost_late n (notes.Made m f p u body ∷ older) lost = late_at states.Waiting None n older (n == m) (λ e. absurd cc) (lost_late n older) lost
lost_late n (notes.Returned m ∷ older) lost = late_at states.Waiting None n older (n == m) (λ e. absurd cc) (lost_late n older) lost
lost_late n (notes.Assigned m c late ∷ older) lost = late_at (states.Running c) late n older (n == m) (λ e. absurd cc) (lost_late n older) lost
lost_late n (notes.Lost m ∷ older) lost = late_at states.Lost (Some 0) n older (n == m) (λ e. refl) (lost_late n older) lost
lost_late n (notes.Ended m ∷ older) lost = late_kept states.Ended n older (n == m) (λ e. let bad : ⊥ = cc in bad) (lost_late n older) lost
lost_late n (notes.Discarded m ∷ older) lost = late_kept states.Discarded n older (n == m) (λ e. let bad : ⊥ = cc in bad) (lost_late n older) lost
lost_late n (note ∷ older) lost = lost_late n older lost

lost_expires : (n : ℕ) (past : Past) → job_state n past.notes ≡ states.Lost → IsDue n past.notes
lost_expires n past lost =
    let at_hand : nat_le 0 (moment past.notes) ≡ true = grind (arith, nat_tests) in
    and_from (is_running (job_state n past.notes)) (is_reached (deadline n past.notes) (moment past.notes)) (ap is_running lost)
    (ap (λ d. is_reached d (moment past.notes)) (lost_late n past.notes lost) ∙ at_hand)

pub ends_next : (k : Settings) (s : Step) (start : Past) → History k start.notes → LostJobsEndWithTheNextTick k start s (step k s start)
ends_next k (Tick now) start h n lost = tick_ends k now start n h (ap has_place lost) (lost_expires n (with_note (notes.Now (max now (moment start.notes))) start) lost)
ends_next k s start h n lost = stays_lost k s start n refl h lost
