-- Lists in which a number stands once.
use Rattle.std.proofs.Common.{◌≡◌, ◌≢◌, ℕ, zero, suc, ◌+◌, ◌<◌, ◌≤◌, Bool, true, false, not, ◌==◌, if◌then◌else◌, List, [], ◌∷◌, ◌++◌}
use Rattle.std.proofs.Common.{length, length-append, filter, Contains, refl, sym, ap, ◌∙◌, arith}
use Rattle.std.proofs.lemmas.List.{append-nil}
use Rattle.std.proofs.lemmas.List.Elements.{filter-append}
use Rattle.std.proofs.lemmas.Bool.Decides.{nat_tests}
use Rattle.std.proofs.lemmas.Bool.{false≢true}
use Rattle.gm_core.specs.Holds.{numbers_down}
use Rattle.gm_core.proofs.MadeLemmas.{none_down, filter_off}
use Rattle.std.proofs.lemmas.Bool.{eqb-true}

-- how often a number stands in a list
abbrev pub times : ℕ → List ℕ → ℕ
times n xs = length (filter (λ m. m == n) xs)

pub filter_alike : (P Q : ℕ → Bool) (xs : List ℕ) → ((m : ℕ) → P m ≡ Q m) → filter P xs ≡ filter Q xs
filter_alike P Q [] same = refl
filter_alike P Q (x ∷ xs) same = λ j. if same x j then x ∷ filter_alike P Q xs same j else filter_alike P Q xs same j

-- a number of a range stands in it once
pub once_down : (n first count : ℕ) → first ≤ n → n < first + count → times n (numbers_down first count) ≡ 1
once_down n first zero low high = absurd (omega (arith, low, high))
once_down n first (suc count) low high = by (first + count == n) refl (λ below. once_down n first count low below)
  where
    by : (t : Bool) → (first + count == n) ≡ t → (n < first + count → times n (numbers_down first count) ≡ 1) → length (if t then (first + count) ∷ filter (λ m. m == n) (numbers_down first count) else filter (λ m. m == n) (numbers_down first count)) ≡ 1
    by true e less = let rest = none_down n first count (let same : first + count ≡ n = grind (arith, nat_tests) in omega (arith, same)) in rw rest refl
    by false e less = less (let other : first + count ≢ n = grind (arith, nat_tests) in omega (arith, high, other))

-- tests that agree but at a number that stands once, and where only the second passes, find one more
pub one_more : (P Q : ℕ → Bool) (n : ℕ) (xs : List ℕ) → times n xs ≡ 1 → ((m : ℕ) → (m == n) ≡ false → P m ≡ Q m) → P n ≡ false → Q n ≡ true
    → length (filter Q xs) ≡ length (filter P xs) + 1
one_more P Q n [] once same fails passes = absurd (omega (arith, once))
one_more P Q n (x ∷ xs) once same fails passes = by (x == n) refl once (λ rest. one_more P Q n xs rest same fails passes)
  where
    by : (t : Bool) → (x == n) ≡ t → length (if t then x ∷ filter (λ m. m == n) xs else filter (λ m. m == n) xs) ≡ 1
        → (times n xs ≡ 1 → length (filter Q xs) ≡ length (filter P xs) + 1)
        → length (if Q x then x ∷ filter Q xs else filter Q xs) ≡ length (if P x then x ∷ filter P xs else filter P xs) + 1
    by true e count rest =
        let is = eqb-true x n e in
        let none : times n xs ≡ 0 = omega (arith, count) in
        let alike = filter_off Q P n xs none (λ m off. sym (same m off)) in
        let here : P x ≡ false = ap P is ∙ fails in
        let there : Q x ≡ true = ap Q is ∙ passes in
        rw (here, there) (let more = ap (λ (l : List ℕ). length l) alike in omega (arith, more))
    by false e count rest = both (P x) (Q x) (same x e) (rest count)
      where
        both : (s t : Bool) → s ≡ t → length (filter Q xs) ≡ length (filter P xs) + 1
            → length (if t then x ∷ filter Q xs else filter Q xs) ≡ length (if s then x ∷ filter P xs else filter P xs) + 1
        both true true e h = omega (arith, h)
        both false false e h = h
        both true false e h = absurd (false≢true (sym e))
        both false true e h = absurd (false≢true e)

-- a number that stands once and is the first that passes, and passes no more, leaves the others
pub first_leaves : (P Q : ℕ → Bool) (n : ℕ) (rest xs : List ℕ) → times n xs ≡ 1 → ((m : ℕ) → (m == n) ≡ false → P m ≡ Q m) → P n ≡ true → Q n ≡ false
    → filter P xs ≡ n ∷ rest → filter Q xs ≡ rest
first_leaves P Q n rest [] once same passes fails is = absurd (omega (arith, once))
first_leaves P Q n rest (x ∷ xs) once same passes fails is = by (x == n) refl once is (λ count more. first_leaves P Q n rest xs count same passes fails more)
  where
    tail : (y z : ℕ) (ys zs : List ℕ) → y ∷ ys ≡ z ∷ zs → ys ≡ zs
    tail y z ys zs e = cc

    head : (y z : ℕ) (ys zs : List ℕ) → y ∷ ys ≡ z ∷ zs → y ≡ z
    head y z ys zs e = cc

    by : (t : Bool) → (x == n) ≡ t → length (if t then x ∷ filter (λ m. m == n) xs else filter (λ m. m == n) xs) ≡ 1
        → (if P x then x ∷ filter P xs else filter P xs) ≡ n ∷ rest → (times n xs ≡ 1 → filter P xs ≡ n ∷ rest → filter Q xs ≡ rest)
        → (if Q x then x ∷ filter Q xs else filter Q xs) ≡ rest
    by true e count is more =
        let it = eqb-true x n e in
        let none : times n xs ≡ 0 = omega (arith, count) in
        let here : P x ≡ true = ap P it ∙ passes in
        let there : Q x ≡ false = ap Q it ∙ fails in
        let left : x ∷ filter P xs ≡ n ∷ rest = sym (ap (λ t. if t then x ∷ filter P xs else filter P xs) here) ∙ is in
        rw there (filter_off Q P n xs none (λ m off. sym (same m off)) ∙ tail x n (filter P xs) rest left)
    by false e count is more = skip (P x) refl is
      where
        skip : (t : Bool) → P x ≡ t → (if t then x ∷ filter P xs else filter P xs) ≡ n ∷ rest → (if Q x then x ∷ filter Q xs else filter Q xs) ≡ rest
        skip false h is = let other : Q x ≡ false = sym (same x e) ∙ h in rw other (more count is)
        skip true h is = absurd (let it = head x n (filter P xs) rest is in let other : x ≢ n = grind (arith, nat_tests) in other it)

-- ---- what passes, beside it

module _ (n : ℕ) where
  abbrev without : List ℕ → List ℕ
  without xs = filter (λ m. not (m == n)) xs

  -- it stands as often among what passes, if it passes
  pub counted_in : (P : ℕ → Bool) (xs : List ℕ) → P n ≡ true → times n (filter P xs) ≡ times n xs
  counted_in P [] passes = refl
  counted_in P (x ∷ xs) passes = by (P x) (x == n) refl refl (counted_in P xs passes)
    where
      by : (t s : Bool) → P x ≡ t → (x == n) ≡ s → times n (filter P xs) ≡ times n xs
          → times n (if t then x ∷ filter P xs else filter P xs) ≡ length (if s then x ∷ filter (λ m. m == n) xs else filter (λ m. m == n) xs)
      by true true h e rest = rw e (omega (arith, rest))
      by true false h e rest = rw e rest
      by false true h e rest = absurd (false≢true (sym h ∙ (ap P (eqb-true x n e) ∙ passes)))
      by false false h e rest = rest

  pub contains_of : (xs : List ℕ) → 1 ≤ times n xs → Contains xs n
  contains_of [] some = absurd (omega (arith, some))
  contains_of (x ∷ xs) some = by (x == n) refl some (λ more. contains_of xs more)
    where
      by : (t : Bool) → (x == n) ≡ t → 1 ≤ length (if t then x ∷ filter (λ m. m == n) xs else filter (λ m. m == n) xs) → (1 ≤ times n xs → Contains xs n) → Contains (x ∷ xs) n
      by true e some rest = (0, omega arith, eqb-true x n e)
      by false e some rest = let it = rest some in let h = it.1 in (suc it.0, omega (arith, h), it.2)

  -- what passes without it is what passes once it doesn't
  pub without_passed : (P Q : ℕ → Bool) (xs : List ℕ) → ((m : ℕ) → (m == n) ≡ false → P m ≡ Q m) → Q n ≡ false → without (filter P xs) ≡ filter Q xs
  without_passed P Q [] same fails = refl
  without_passed P Q (x ∷ xs) same fails = by (x == n) (P x) refl refl (without_passed P Q xs same fails)
    where
      by : (s t : Bool) → (x == n) ≡ s → P x ≡ t → without (filter P xs) ≡ filter Q xs
          → without (if t then x ∷ filter P xs else filter P xs) ≡ (if Q x then x ∷ filter Q xs else filter Q xs)
      by true true e h rest = let off : Q x ≡ false = ap Q (eqb-true x n e) ∙ fails in rw (e, off) rest
      by true false e h rest = let off : Q x ≡ false = ap Q (eqb-true x n e) ∙ fails in rw off rest
      by false true e h rest = let on : Q x ≡ true = sym (same x e) ∙ h in rw (e, on) (ap (λ (l : List ℕ). x ∷ l) rest)
      by false false e h rest = let on : Q x ≡ false = sym (same x e) ∙ h in rw on rest

  -- what passes among the others is what passed while it didn't
  pub skipped : (P Q : ℕ → Bool) (xs : List ℕ) → ((m : ℕ) → (m == n) ≡ false → P m ≡ Q m) → P n ≡ false → filter Q (without xs) ≡ filter P xs
  skipped P Q [] same fails = refl
  skipped P Q (x ∷ xs) same fails = by (x == n) (P x) refl refl (skipped P Q xs same fails)
    where
      by : (s t : Bool) → (x == n) ≡ s → P x ≡ t → filter Q (without xs) ≡ filter P xs
          → filter Q (if not s then x ∷ without xs else without xs) ≡ (if t then x ∷ filter P xs else filter P xs)
      by true true e h rest = absurd (false≢true (sym (ap P (eqb-true x n e) ∙ fails) ∙ h))
      by true false e h rest = rest
      by false true e h rest = let on : Q x ≡ true = sym (same x e) ∙ h in rw on (ap (λ (l : List ℕ). x ∷ l) rest)
      by false false e h rest = let on : Q x ≡ false = sym (same x e) ∙ h in rw on rest

  none_left : (xs : List ℕ) → times n xs ≡ 0 → without xs ≡ xs
  none_left [] none = refl
  none_left (x ∷ xs) none = by (x == n) none (λ more. none_left xs more)
    where
      by : (t : Bool) → length (if t then x ∷ filter (λ m. m == n) xs else filter (λ m. m == n) xs) ≡ 0 → (times n xs ≡ 0 → without xs ≡ xs)
          → (if not t then x ∷ without xs else without xs) ≡ x ∷ xs
      by true none rest = absurd (omega (arith, none))
      by false none rest = ap (λ (l : List ℕ). x ∷ l) (rest none)

  -- what passes is as much, where it goes to the end
  taken : (P : ℕ → Bool) (xs : List ℕ) → times n xs ≡ 1 → length (filter P (without xs)) + length (filter P (n ∷ [])) ≡ length (filter P xs)
  taken P [] once = absurd (omega (arith, once))
  taken P (x ∷ xs) once = by (x == n) refl once (λ more. taken P xs more)
    where
      here : (t : Bool) → length (filter P xs) + length (if t then n ∷ [] else []) ≡ length (if t then x ∷ filter P xs else filter P xs)
      here true = omega arith
      here false = omega arith

      there : (t : Bool) → length (filter P (without xs)) + length (filter P (n ∷ [])) ≡ length (filter P xs)
          → length (if t then x ∷ filter P (without xs) else filter P (without xs)) + length (filter P (n ∷ [])) ≡ length (if t then x ∷ filter P xs else filter P xs)
      there true rest = omega (arith, rest)
      there false rest = rest

      by : (s : Bool) → (x == n) ≡ s → length (if s then x ∷ filter (λ m. m == n) xs else filter (λ m. m == n) xs) ≡ 1
          → (times n xs ≡ 1 → length (filter P (without xs)) + length (filter P (n ∷ [])) ≡ length (filter P xs))
          → length (filter P (if not s then x ∷ without xs else without xs)) + length (filter P (n ∷ [])) ≡ length (if P x then x ∷ filter P xs else filter P xs)
      by true e once rest =
          let none : times n xs ≡ 0 = omega (arith, once) in
          ap (λ (l : List ℕ). length (filter P l) + length (filter P (n ∷ []))) (none_left xs none)
          ∙ (here (P n) ∙ ap (λ b. length (if b then x ∷ filter P xs else filter P xs)) (ap P (sym (eqb-true x n e))))
      by false e once rest = there (P x) (rest once)

  pub came_back : (P : ℕ → Bool) (xs : List ℕ) → times n xs ≡ 1 → length (filter P (without xs ++ n ∷ [])) ≡ length (filter P xs)
  came_back P xs once = ap (λ (l : List ℕ). length l) (filter-append P (without xs) (n ∷ [])) ∙ (length-append (filter P (without xs)) (filter P (n ∷ [])) ∙ taken P xs once)

  pub last_in : (P Q : ℕ → Bool) (xs : List ℕ) → ((m : ℕ) → (m == n) ≡ false → P m ≡ Q m) → P n ≡ false → Q n ≡ true → filter Q (without xs ++ n ∷ []) ≡ filter P xs ++ n ∷ []
  last_in P Q xs same fails passes =
      let last : filter Q (n ∷ []) ≡ n ∷ [] = rw passes refl in
      filter-append Q (without xs) (n ∷ []) ∙ (λ i. skipped P Q xs same fails i ++ last i)

  pub not_in : (P Q : ℕ → Bool) (xs : List ℕ) → ((m : ℕ) → (m == n) ≡ false → P m ≡ Q m) → P n ≡ false → Q n ≡ false → filter Q (without xs ++ n ∷ []) ≡ filter P xs
  not_in P Q xs same fails fails_too =
      let last : filter Q (n ∷ []) ≡ [] = rw fails_too refl in
      filter-append Q (without xs) (n ∷ []) ∙ ((λ i. skipped P Q xs same fails i ++ last i) ∙ append-nil (filter P xs))
