-- Each kind of step keeps the word rule, and what the rule says of touches and attempts.
use Rattle.std.proofs.Common.{◌≡◌, ◌≢◌, ◌⊎◌, ℕ, zero, suc, ◌+◌, ◌-◌, ◌<◌, ◌≤◌, max, List, [], ◌∷◌, ◌++◌, set, refl, ap, inl, inr, arith, lit<}
use Rattle.std.specs.Prelude.{slice_set}
use mathlib.Core.Option.{some}
use lib.ListN.{get_elem?}
use Rattle.gm_lane_word.specs.declared.view.Hold.TheVariants.{Free, Claims, Attempts}
use Rattle.gm_lane_word.specs.declared.view.LaneView.{LaneView}
use Rattle.gm_lane_word.specs.Lane.{fresh_view, entered, touched, taken_over, attempted, finished, after_finish, handed_over, has, owes, taken, touches_of, answers_of, attempts_of}
use Rattle.gm_lane_word.specs.Lane.{owing_of}
use Rattle.gm_lane_word.specs.Steps.{Step, enters, touches, takes_over, attempts, finishes, hands_over, Reached, opens, steps, Keeps, IsClaimed, by_owner, by_finisher}
use Rattle.gm_lane_word.proofs.Totals.{total-set, total-push, total-has, has_one, owing_among_owners, owner_is}

-- a seat comes
pushed : (word next : ℕ) (views : List LaneView) (view : LaneView) → Keeps word views → next < 4 → taken next ≡ taken word + has view.hold
    → (next ≡ 1 → owing_of views + owes view.hold ≡ 0) → view.answers ≡ 0 → (next < 2 → (word < 2) × (view.touches ≡ 0))
    → Keeps next (views ++ view ∷ [])
pushed word next views view k small owner begun none quiet =
    let t = total-push (λ v. v.touches) views view in
    let a = total-push (λ v. v.answers) views view in
    let h = total-push (λ v. has v.hold) views view in
    let o = total-push (λ v. owes v.hold) views view in
    let was = k.owner in
    let le = k.answered in
    record {
      small = small;
      owner = omega arith;
      begun = λ is. let b = begun is in omega arith;
      answered = omega arith;
      all_answered = λ low. let q = quiet low in let first = q.0 in let second = q.1 in let all = k.all_answered first in omega arith;
    }

-- a seat knows something else
replaced : (word next : ℕ) (views : List LaneView) (seat : ℕ) (v w : LaneView) → get_elem? views seat ≡ some v → Keeps word views → next < 4
    → taken next + has v.hold ≡ taken word + has w.hold → (next ≡ 1 → owing_of views + owes w.hold ≡ owes v.hold)
    → answers_of views + w.answers + v.touches ≤ touches_of views + w.touches + v.answers
    → (next < 2 → touches_of views + w.touches + v.answers ≡ answers_of views + w.answers + v.touches)
    → Keeps next (set views seat w)
replaced word next views seat v w at k small owner begun answered all =
    let t = total-set (λ v. v.touches) views seat v w at in
    let a = total-set (λ v. v.answers) views seat v w at in
    let h = total-set (λ v. has v.hold) views seat v w at in
    let o = total-set (λ v. owes v.hold) views seat v w at in
    let was = k.owner in
    record {
      small = small;
      owner = omega arith;
      begun = λ is. let b = begun is in omega arith;
      answered = omega arith;
      all_answered = λ low. let q = all low in omega arith;
    }

enters_keep : (word : ℕ) (views : List LaneView) → Keeps word views → Keeps word (views ++ entered word ∷ [])
enters_keep zero views k = pushed 0 0 views fresh_view k k.small refl (λ is. absurd (omega arith)) refl (λ low. (low, refl))
enters_keep (suc zero) views k = pushed 1 1 views (entered 1) k k.small refl (λ is. let b = k.begun refl in omega arith) refl (λ low. (low, refl))
enters_keep (suc (suc word)) views k =
    pushed (suc (suc word)) (suc (suc word)) views (entered (suc (suc word))) k k.small (omega arith) (λ is. absurd (omega arith)) refl (λ low. absurd (omega arith))

touches_keep : (word : ℕ) (views : List LaneView) (seat : ℕ) (view : LaneView) → Keeps word views → get_elem? views seat ≡ some view
    → Keeps (max word 2) (slice_set views seat (touched word view))
touches_keep zero views seat view k at =
    let one = total-has (λ v. has v.hold) views seat view at in
    let none = k.owner in
    let le = k.answered in
    replaced 0 2 views seat view (touched 0 view) at k (lit< tt) (omega arith) (λ is. absurd (omega arith)) (omega arith) (λ low. absurd (omega arith))
touches_keep (suc zero) views seat view k at =
    let le = k.answered in
    replaced 1 2 views seat view (touched 1 view) at k (lit< tt) refl (λ is. absurd (omega arith)) (omega arith) (λ low. absurd (omega arith))
touches_keep (suc (suc zero)) views seat view k at =
    let le = k.answered in
    replaced 2 2 views seat view (touched 2 view) at k (lit< tt) refl (λ is. absurd (omega arith)) (omega arith) (λ low. absurd (omega arith))
touches_keep (suc (suc (suc zero))) views seat view k at =
    let le = k.answered in
    replaced 3 3 views seat view (touched 3 view) at k (lit< tt) refl (λ is. absurd (omega arith)) (omega arith) (λ low. absurd (omega arith))
touches_keep (suc (suc (suc (suc word)))) views seat view k at = let small = k.small in absurd (omega arith)

takes_over_keep : (word : ℕ) (views : List LaneView) → Keeps word views → Keeps 2 (views ++ taken_over word ∷ [])
takes_over_keep zero views k = pushed 0 2 views (taken_over 0) k (lit< tt) refl (λ is. absurd (omega arith)) refl (λ low. absurd (omega arith))
takes_over_keep (suc zero) views k = pushed 1 2 views (taken_over 1) k (lit< tt) refl (λ is. absurd (omega arith)) refl (λ low. absurd (omega arith))
takes_over_keep (suc (suc zero)) views k = pushed 2 2 views (taken_over 2) k (lit< tt) refl (λ is. absurd (omega arith)) refl (λ low. absurd (omega arith))
takes_over_keep (suc (suc (suc zero))) views k = pushed 3 2 views (taken_over 3) k (lit< tt) refl (λ is. absurd (omega arith)) refl (λ low. absurd (omega arith))
takes_over_keep (suc (suc (suc (suc word)))) views k = let small = k.small in absurd (omega arith)

-- where a seat has the lane, the word says so
owner_one : (word : ℕ) (views : List LaneView) → Keeps word views → (seat : ℕ) (view : LaneView) → get_elem? views seat ≡ some view → has view.hold ≡ 1 → taken word ≡ 1
owner_one zero views k seat view at is = let one = total-has (λ v. has v.hold) views seat view at in let owner = k.owner in absurd (omega arith)
owner_one (suc zero) views k seat view at is = refl
owner_one (suc (suc zero)) views k seat view at is = refl
owner_one (suc (suc (suc word))) views k seat view at is = let one = total-has (λ v. has v.hold) views seat view at in let owner = k.owner in absurd (omega arith)

attempts_keep : (word : ℕ) (views : List LaneView) (seat : ℕ) (view : LaneView) → Keeps word views → get_elem? views seat ≡ some view → view.hold ≡ Claims
    → Keeps 1 (slice_set views seat (attempted (touches_of views - answers_of views) view))
attempts_keep word views seat view k at hold =
    let is_one = ap has hold in
    let is_owing = ap owes hold in
    let one = total-has (λ v. has v.hold) views seat view at in
    let owing = total-has (λ v. owes v.hold) views seat view at in
    let among = owing_among_owners views in
    let owner = k.owner in
    let le = k.answered in
    let taken_is : taken word ≡ 1 = owner_one word views k seat view at (omega arith) in
    replaced word 1 views seat view (attempted (touches_of views - answers_of views) view) at k (lit< tt) (omega arith) (λ _. omega arith) (omega arith) (λ _. omega arith)

finishes_keep : (word : ℕ) (views : List LaneView) (seat : ℕ) (view : LaneView) → Keeps word views → get_elem? views seat ≡ some view → view.hold ≡ Attempts
    → Keeps (finished word) (slice_set views seat (after_finish word view))
finishes_keep zero views seat view k at hold = let is = ap has hold in let no = owner_one 0 views k seat view at is in absurd (omega arith)
finishes_keep (suc zero) views seat view k at hold =
    let is = ap has hold in
    let le = k.answered in
    let all = k.all_answered (lit< tt) in
    replaced 1 0 views seat view (after_finish 1 view) at k (lit< tt) (omega arith) (λ is. absurd (omega arith)) (omega arith) (λ _. omega arith)
finishes_keep (suc (suc zero)) views seat view k at hold =
    let is = ap has hold in
    let le = k.answered in
    replaced 2 2 views seat view (after_finish 2 view) at k (lit< tt) (omega arith) (λ is. absurd (omega arith)) (omega arith) (λ low. absurd (omega arith))
finishes_keep (suc (suc (suc word))) views seat view k at hold =
    let is = ap has hold in let no = owner_one (suc (suc (suc word))) views k seat view at is in absurd (omega arith)

hands_over_keep : (word : ℕ) (views : List LaneView) (seat : ℕ) (view : LaneView) → Keeps word views → get_elem? views seat ≡ some view → view.hold ≢ Free
    → Keeps 3 (slice_set views seat (handed_over view))
hands_over_keep word views seat view k at hold =
    let is = has_one view.hold hold in
    let one = owner_one word views k seat view at is in
    let le = k.answered in
    replaced word 3 views seat view (handed_over view) at k (lit< tt) (omega arith) (λ is. absurd (omega arith)) (omega arith) (λ low. absurd (omega arith))

pub step_keeps : (word : ℕ) (views : List LaneView) (next : ℕ) (after : List LaneView) → Keeps word views → Step word views next after → Keeps next after
step_keeps word views _ _ k enters = enters_keep word views k
step_keeps word views _ _ k (touches seat view at) = touches_keep word views seat view k at
step_keeps word views _ _ k takes_over = takes_over_keep word views k
step_keeps word views _ _ k (attempts seat view at hold) = attempts_keep word views seat view k at hold
step_keeps word views _ _ k (finishes seat view at hold) = finishes_keep word views seat view k at hold
step_keeps word views _ _ k (hands_over seat view at hold) = hands_over_keep word views seat view k at hold

opening_keeps : Keeps 0 (fresh_view ∷ [])
opening_keeps = record { small = lit< tt; owner = refl; begun = λ is. refl; answered = omega arith; all_answered = λ low. refl }

pub reached_keeps : (word : ℕ) (views : List LaneView) → Reached word views → Keeps word views
reached_keeps _ _ opens = opening_keeps
reached_keeps _ _ (steps word views next after reached step) = step_keeps word views next after (reached_keeps word views reached) step

-- no touch is without an attempt, or somebody owes one
pub followed_or_owed : (word : ℕ) (views : List LaneView) → Keeps word views → (touches_of views ≡ answers_of views) ⊎ IsClaimed word views
followed_or_owed zero views k = inl (k.all_answered (lit< tt))
followed_or_owed (suc zero) views k = inl (k.all_answered (lit< tt))
followed_or_owed (suc (suc zero)) views k = let owner = k.owner in let o = owner_is views (omega arith) in inr (by_owner o.0 o.1 o.2 o.3 refl)
followed_or_owed (suc (suc (suc zero))) views k = inr (by_finisher refl)
followed_or_owed (suc (suc (suc (suc word)))) views k = let small = k.small in absurd (omega arith)

-- a step leaves the touches that were followed, or is an attempt, which follows all so far
entered_answers : (word : ℕ) → (entered word).answers ≡ 0
entered_answers zero = refl
entered_answers (suc zero) = refl
entered_answers (suc (suc word)) = refl

pub followed_by_attempts : (word : ℕ) (views : List LaneView) (next : ℕ) (after : List LaneView) → Keeps word views → Step word views next after
    → (answers_of after ≡ answers_of views) ⊎ ((attempts_of after ≡ attempts_of views + 1) × (answers_of after ≡ touches_of views))
followed_by_attempts word views _ _ k enters = let a = total-push (λ v. v.answers) views (entered word) in let none = entered_answers word in inl (omega arith)
followed_by_attempts word views _ _ k (touches seat view at) = let a = total-set (λ v. v.answers) views seat view (touched word view) at in inl (omega arith)
followed_by_attempts word views _ _ k takes_over = let a = total-push (λ v. v.answers) views (taken_over word) in inl (omega arith)
followed_by_attempts word views _ _ k (attempts seat view at hold) =
    let w : LaneView = attempted (touches_of views - answers_of views) view in
    let a = total-set (λ v. v.answers) views seat view w at in
    let l = total-set (λ v. v.attempts) views seat view w at in
    let le = k.answered in
    inr (omega arith, omega arith)
followed_by_attempts word views _ _ k (finishes seat view at hold) = let a = total-set (λ v. v.answers) views seat view (after_finish word view) at in inl (omega arith)
followed_by_attempts word views _ _ k (hands_over seat view at hold) = let a = total-set (λ v. v.answers) views seat view (handed_over view) at in inl (omega arith)

pub taken-le : (word : ℕ) → taken word ≤ 1
taken-le zero = omega arith
taken-le (suc zero) = omega arith
taken-le (suc (suc zero)) = omega arith
taken-le (suc (suc (suc word))) = omega arith
