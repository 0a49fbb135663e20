-- Totals over the views.
use Rattle.std.proofs.Common.{◌≡◌, ◌≢◌, ◌⊎◌, ℕ, zero, suc, ◌+◌, ◌<◌, ◌≤◌, List, [], ◌∷◌, ◌++◌, set, refl, sym, ap, inl, inr, ⊎_elim, arith}
use mathlib.Core.Option.{some, some-injective, some-ne-none}
use lib.ListN.{get_elem?}
use Rattle.gm_lane_word.specs.declared.view.Hold.{Hold}
use Rattle.gm_lane_word.specs.declared.view.Hold.TheVariants.{Free, Claims, Attempts}
use Rattle.gm_lane_word.specs.declared.view.LaneView.{LaneView}
use Rattle.gm_lane_word.specs.Lane.{has, owes, total, owners_of, owing_of}

-- the total after a change of one view
pub total-set : (f : LaneView → ℕ) (views : List LaneView) (seat : ℕ) (v w : LaneView) → get_elem? views seat ≡ some v → total f (set views seat w) + f v ≡ total f views + f w
total-set f [] seat v w at = absurd (some-ne-none v (sym at))
total-set f (x ∷ xs) zero v w at = let is : f x ≡ f v = ap f (some-injective x v at) in omega arith
total-set f (x ∷ xs) (suc i) v w at = let r = total-set f xs i v w at in omega arith

-- the total with one view more
pub total-push : (f : LaneView → ℕ) (views : List LaneView) (v : LaneView) → total f (views ++ v ∷ []) ≡ total f views + f v
total-push f [] v = omega arith
total-push f (x ∷ xs) v = let r = total-push f xs v in omega arith

-- no view has more than the total
pub total-has : (f : LaneView → ℕ) (views : List LaneView) (seat : ℕ) (v : LaneView) → get_elem? views seat ≡ some v → f v ≤ total f views
total-has f [] seat v at = absurd (some-ne-none v (sym at))
total-has f (x ∷ xs) zero v at = let is : f x ≡ f v = ap f (some-injective x v at) in omega arith
total-has f (x ∷ xs) (suc i) v at = let r = total-has f xs i v at in omega arith

-- a seat has the lane or not
pub is_free : (hold : Hold) → (hold ≡ Free) ⊎ (hold ≢ Free)
is_free Free = inl refl
is_free Claims = inr (λ e. cc)
is_free Attempts = inr (λ e. cc)

pub has_one : (hold : Hold) → hold ≢ Free → has hold ≡ 1
has_one Free other = absurd (other refl)
has_one Claims other = refl
has_one Attempts other = refl

-- who owes an attempt has the lane
owes-has : (hold : Hold) → owes hold ≤ has hold
owes-has Free = omega arith
owes-has Claims = omega arith
owes-has Attempts = omega arith

pub owing_among_owners : (views : List LaneView) → owing_of views ≤ owners_of views
owing_among_owners [] = omega arith
owing_among_owners (view ∷ views) = let first = owes-has view.hold in let rest = owing_among_owners views in omega arith

-- where somebody has the lane, it is one of the seats
pub owner_is : (views : List LaneView) → 0 < owners_of views → (seat : ℕ) × (view : LaneView) × (get_elem? views seat ≡ some view) × (view.hold ≢ Free)
owner_is [] some_owner = absurd (omega arith)
owner_is (view ∷ views) some_owner =
    ⊎_elim
    (λ (free : view.hold ≡ Free).
    let none = ap has free in
    let rest = owner_is views (omega arith) in
    (suc rest.0, rest.1, rest.2, rest.3))
    (λ (other : view.hold ≢ Free). (0, view, refl, other))
    (is_free view.hold)
