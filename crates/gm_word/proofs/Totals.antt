-- Totals over the views.
use Rattle.std.proofs.Common.{◌≡◌, ◌≢◌, ℕ, zero, suc, ◌+◌, ◌<◌, ◌≤◌, List, [], ◌∷◌, ◌++◌, length, set, get_or, take, refl, sym, ap, ◌∙◌}
use Rattle.std.proofs.Common.{arith, eq-eqb, ne_eqb}
use Rattle.std.specs.Prelude.{if◌then◌else◌, ◌==◌}
use Rattle.std.proofs.lemmas.List.{take_more}
use mathlib.Core.Option.{some, some-injective, some-ne-none}
use mathlib.Core.Logic.{dite}
use native.Mathlib.Decide.{ℕ_discrete}
use lib.ListN.{get_elem?}
use Rattle.gm_word.specs.declared.view.Count.{Count}
use Rattle.gm_word.specs.declared.view.WordView.{WordView}
use Rattle.gm_word.specs.Steps.{takes_among, pens_among, counts_of, total, takes_of, pens_of}

-- there is a view at a seat, so the seat is below their number
pub inside : {A : Type 0} → (xs : List A) (i : ℕ) (a : A) → get_elem? xs i ≡ some a → i < length xs
inside [] i a at = absurd (some-ne-none a (sym at))
inside (x ∷ xs) zero a at = omega arith
inside (x ∷ xs) (suc i) a at = let h = inside xs i a at in omega arith

pub at_is : {A : Type 0} (xs : List A) (i : ℕ) (a d : A) → get_elem? xs i ≡ some a → get_or xs i d ≡ a
at_is [] i a d at = absurd (some-ne-none a (sym at))
at_is (x ∷ xs) zero a d at = some-injective x a at
at_is (x ∷ xs) (suc i) a d at = at_is xs i a d at

-- one element more of those that were taken in their order
pub take_next : {A : Type 0} (xs : List A) (i : ℕ) (a : A) → get_elem? xs i ≡ some a → take (i + 1) xs ≡ take i xs ++ a ∷ []
take_next xs i a at = take_more xs i a (inside xs i a at) ∙ ap (λ x. take i xs ++ x ∷ []) (at_is xs i a a at)

-- the total after a change of one view
pub total-set : (f : WordView → ℕ) (views : List WordView) (seat : ℕ) (v w : WordView) → get_elem? views seat ≡ some v → total f (set views seat w) + f v ≡ total f views + f w
total-set f [] seat v w at = absurd (some-ne-none v (sym at))
total-set f (x ∷ xs) zero v w at = let is : f x ≡ f v = ap f (some-injective x v at) in omega arith
total-set f (x ∷ xs) (suc i) v w at = let r = total-set f xs i v w at in omega arith

-- the total with one view more
pub total-push : (f : WordView → ℕ) (views : List WordView) (v : WordView) → total f (views ++ v ∷ []) ≡ total f views + f v
total-push f [] v = omega arith
total-push f (x ∷ xs) v = let r = total-push f xs v in omega arith

-- no view has more than the total
pub total-has : (f : WordView → ℕ) (views : List WordView) (seat : ℕ) (v : WordView) → get_elem? views seat ≡ some v → f v ≤ total f views
total-has f [] seat v at = absurd (some-ne-none v (sym at))
total-has f (x ∷ xs) zero v at = let is : f x ≡ f v = ap f (some-injective x v at) in omega arith
total-has f (x ∷ xs) (suc i) v at = let r = total-has f xs i v at in omega arith

-- a choice by whether two numbers are equal
pub if_same : (a b x y : ℕ) → a ≡ b → (if a == b then x else y) ≡ x
if_same a b x y same = rw (eq-eqb a b same)

pub if_other : (a b x y : ℕ) → a ≢ b → (if a == b then x else y) ≡ y
if_other a b x y other = rw (ne_eqb a b other)

-- where no count is of the slot, none of its takes is counted
pub none_taken : (slot : ℕ) (counts : List Count) → pens_among slot counts ≡ 0 → takes_among slot counts ≡ 0
none_taken slot [] none = refl
none_taken slot (count ∷ counts) none =
    dite (ℕ_discrete count.slot slot)
    (λ same. let one = if_same count.slot slot 1 0 same in absurd (omega arith))
    (λ other.
    let zero = if_other count.slot slot 1 0 other in
    let empty = if_other count.slot slot count.takes 0 other in
    let rest = none_taken slot counts (omega arith) in
    omega arith)

pub none_taken_of : (slot : ℕ) (views : List WordView) → pens_of slot views ≡ 0 → takes_of slot views ≡ 0
none_taken_of slot [] none = refl
none_taken_of slot (view ∷ views) none =
    let first = none_taken slot (counts_of view) (omega arith) in
    let rest = none_taken_of slot views (omega arith) in
    omega arith
