-- Where what passes a test is first in a list.
use Rattle.std.proofs.Common.{◌≡◌, ℕ, ◌+◌, ◌<◌, ◌≤◌, nat_lt, eqb, Bool, true, false, cond, not, List, [], ◌∷◌, ◌++◌, length, map}
use Rattle.std.proofs.Common.{length-append, Option, Some, None, refl, ap, ◌∙◌, arith}
use Rattle.std.proofs.lemmas.Bool.Decides.{nat_tests}
use Rattle.std.proofs.lemmas.List.{length-map}
use Rattle.std.proofs.lemmas.List.Folds.{position_or_len_push, list_any_none, list_any_at}
use Rattle.std.proofs.lemmas.List.Quantifiers.{position-Some}
use Rattle.std.proofs.lemmas.List.Sums.{fails_before_first}
use Rattle.std.specs.List.{position, position_or_len, list_any}

module _ {A B : Type 0} (p : B → Bool) (f : A → B) where
  position_or_len-map : (xs : List A) → position_or_len p (map f xs) ≡ position_or_len (λ x. p (f x)) xs
  position_or_len-map [] = refl
  position_or_len-map (x ∷ xs) = ap (λ n. cond (not (p (f x))) (1 + n) 0) (position_or_len-map xs)

  -- a search of what a function gives is a search of its arguments
  pub position-map : (xs : List A) → position p (map f xs) ≡ position (λ x. p (f x)) xs
  position-map xs = λ j. cond (nat_lt (position_or_len-map xs j) (length-map xs f j)) (Some (position_or_len-map xs j)) None

module _ {A : Type 0} (p : A → Bool) where
  ends : (xs : List A) → position_or_len p xs ≤ length xs
  ends [] = omega arith
  ends (x ∷ xs) = by (not (p x)) (ends xs)
    where
      by : (b : Bool) → position_or_len p xs ≤ length xs → cond b (1 + position_or_len p xs) 0 ≤ length (x ∷ xs)
      by true h = omega arith
      by false h = omega arith

  -- where nothing passes, the search ends at the end
  missed : (xs : List A) → position p xs ≡ None → position_or_len p xs ≡ length xs
  missed xs none = test (position_or_len p xs) (length xs) (ends xs) none
    where
      test : (a b : ℕ) → a ≤ b → cond (nat_lt a b) (Some a) None ≡ None → a ≡ b
      test a b within e = grind (arith, nat_tests)

  -- and where something does, there
  found : (xs : List A) (i : ℕ) → position p xs ≡ Some i → (position_or_len p xs ≡ i) × (i < length xs)
  found xs i e =
      let at = test (position_or_len p xs) (length xs) (nat_lt (position_or_len p xs) (length xs)) refl e in
      (at.0, omega (arith, at.0, at.1))
    where
      test : (a b : ℕ) (t : Bool) → nat_lt a b ≡ t → cond t (Some a) None ≡ Some i → (a ≡ i) × (a < b)
      test a b true lt e = (let same : a ≡ i = cc in same, grind (arith, nat_tests))
      test a b false lt e = absurd cc

  pub list_any-missed : (xs : List A) → position p xs ≡ None → list_any p xs ≡ false
  list_any-missed xs none = list_any_none p xs (λ k d within. fails_before_first p xs k d (omega (arith, missed xs none, within)))

  pub list_any-found : (xs : List A) (i : ℕ) (d : A) → position p xs ≡ Some i → list_any p xs ≡ true
  list_any-found xs i d e = let at = position-Some p xs i d e in list_any_at p xs i d at.0 at.1

  pub position-within : (xs : List A) (i : ℕ) → position p xs ≡ Some i → i < length xs
  position-within xs i e = (found xs i e).1

  -- ---- where another comes behind

  module _ (xs : List A) (x : A) where
    at : (n i : ℕ) (passes : Bool) (o : Option ℕ) → cond (eqb n (length xs)) (length xs + cond passes 0 1) n ≡ i → cond (nat_lt i (length xs + 1)) (Some i) None ≡ o
        → position_or_len p xs ≡ n → p x ≡ passes → position p (xs ++ x ∷ []) ≡ o
    at n i passes o goes is from test =
        let there : position_or_len p (xs ++ x ∷ []) ≡ i = position_or_len_push p xs x ∙ (λ j. cond (eqb (from j) (length xs)) (length xs + cond (test j) 0 1) (from j)) ∙ goes in
        (λ j. cond (nat_lt (there j) (length-append xs (x ∷ []) j)) (Some (there j)) None) ∙ is

    -- it is found where it was
    pub position-stays : (i : ℕ) → position p xs ≡ Some i → position p (xs ++ x ∷ []) ≡ Some i
    position-stays i e = let was = found xs i e in at i i (p x) (Some i) (grind (arith, nat_tests, was.1)) (grind (arith, nat_tests, was.1)) was.0 refl

    -- where nothing was, it is found behind, or nowhere
    pub position-push : position p xs ≡ None → p x ≡ true → position p (xs ++ x ∷ []) ≡ Some (length xs)
    position-push none passes = at (length xs) (length xs) true (Some (length xs)) (grind (arith, nat_tests)) (grind (arith, nat_tests)) (missed xs none) passes

    pub position-misses : position p xs ≡ None → p x ≡ false → position p (xs ++ x ∷ []) ≡ None
    position-misses none fails = at (length xs) (length xs + 1) false None (grind (arith, nat_tests)) (grind (arith, nat_tests)) (missed xs none) fails
