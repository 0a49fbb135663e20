-- What is true of a heap, as pairs come and go.
use Rattle.std.proofs.Common.{◌≡◌, ℕ, zero, suc, ◌⊎◌, inl, inr, List, [], ◌∷◌, slice_index_or, Contains, Option, Some, None}
use Rattle.std.proofs.Common.{IfSome, IfNone, IsPermutation, refl, sym, ap, subst, ◌∙◌, arith}
use Rattle.std.proofs.lemmas.List.Sorted.{Contains-permutation}
use Rattle.gm_jobs.specs.MinHeap.{Pair, pair, Has, first_of}

-- a pair that came is there
pub came : (xs ys : List Pair) (a b : ℕ) → IsPermutation (pair a b ∷ xs) ys → Has ys a b
came xs ys a b p = Contains-permutation (pair a b ∷ xs) ys (pair a b) p (0, omega arith, refl)

-- and the others are still
pub stayed : (x : Pair) (xs ys : List Pair) (a b : ℕ) → IsPermutation (x ∷ xs) ys → Has xs a b → Has ys a b
stayed x xs ys a b p (k, w, e) = Contains-permutation (x ∷ xs) ys (pair a b) p (suc k, omega arith, e)

-- a pair is the one that goes, or it stays
went : (x : Pair) (xs ys : List Pair) (a b : ℕ) → x ≡ slice_index_or xs 0 x → Contains (x ∷ ys) (pair a b) → Has xs a b → Has ys a b ⊎ (first_of xs ≡ Some (a, b))
went x [] ys a b top there (k, w, e) = absurd (omega arith)
went x (z ∷ zs) ys a b top (zero, w, e) was = inr (ap (λ (p : Pair). Some p.0) (sym top ∙ e))
went x (z ∷ zs) ys a b top (suc k, w, e) was = inl (k, omega arith, e)

pub popped : (o : Option Pair) (xs ys : List Pair) (U : Type 0) → IfSome o (λ x. x ≡ slice_index_or xs 0 x) → IfSome o (λ x. IsPermutation xs (x ∷ ys)) → IfNone o ((ys ≡ xs) × U)
    → (a b : ℕ) → Has xs a b → Has ys a b ⊎ (first_of xs ≡ Some (a, b))
popped None xs ys U top p same a b there = inl (subst (λ zs. Has zs a b) (sym same.0) there)
popped (Some x) xs ys U top p same a b there = went x xs ys a b top (Contains-permutation xs (x ∷ ys) (pair a b) p there) there
