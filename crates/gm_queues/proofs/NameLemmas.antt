-- Where a name is among names that all differ.
use Rattle.std.proofs.Common.{◌≡◌, ℕ, zero, suc, ◌+◌, ◌<◌, nat_lt, Bool, true, false, cond, not, List, [], ◌∷◌, length, map, slice_get}
use Rattle.std.proofs.Common.{Some, None}
use Rattle.std.proofs.Common.{Result, Ok, Err, IsOk, IfOk, refl, sym, ap, subst, ◌∙◌, arith}
use Rattle.std.proofs.lemmas.Bool.{false≢true}
use Rattle.std.proofs.lemmas.Bool.Decides.{nat_tests}
use Rattle.std.proofs.lemmas.Slice.Eq.{bytes_eq-Decides}
use Rattle.std.specs.Str.{bytes_eq}
use Rattle.std.specs.List.{position, position_or_len, IsDistinct, AllByRecursion}

-- what holds of a result, where it is that variant
pub on_ok : {T E : Type 0} (r : Result T E) {Q : Type 0} → IsOk r → IfOk r (λ _. Q) → Q
on_ok (Ok x) h q = q
on_ok (Err e) h q = absurd (false≢true h)

-- a name behind others that all differ from x differs from x
differs : (x n : List ℕ) (ns : List (List ℕ)) (i : ℕ) → AllByRecursion (λ y. bytes_eq x y ≡ false) ns → slice_get ns i ≡ Some n → bytes_eq x n ≡ false
differs x n [] i all at = cc
differs x n (y ∷ ns) zero all at = let same : y ≡ n = cc in subst (λ m. bytes_eq x m ≡ false) same all.0
differs x n (y ∷ ns) (suc i) all at = differs x n ns i all.1 at

-- which of two names is compared with the other makes no difference
pub bytes_eq-turned : (x y : List ℕ) → bytes_eq x y ≡ bytes_eq y x
bytes_eq-turned x y = by (bytes_eq x y) (bytes_eq y x) refl refl
  where
    by : (s t : Bool) → bytes_eq x y ≡ s → bytes_eq y x ≡ t → s ≡ t
    by true true e f = refl
    by false false e f = refl
    by true false e f = absurd (false≢true (sym f ∙ (bytes_eq-Decides y x).1 (sym ((bytes_eq-Decides x y).0 e))))
    by false true e f = absurd (false≢true (sym e ∙ (bytes_eq-Decides x y).1 (sym ((bytes_eq-Decides y x).0 f))))

index_of_name : (ns : List (List ℕ)) (i : ℕ) (n : List ℕ) → IsDistinct bytes_eq ns → slice_get ns i ≡ Some n → (position_or_len (bytes_eq n) ns ≡ i) × (i < length ns)
unfolding IsDistinct
index_of_name [] i n apart at = cc
index_of_name (x ∷ ns) zero n apart at =
    let same : x ≡ n = cc in
    (ap (λ b. cond (not b) (1 + position_or_len (bytes_eq n) ns) 0) ((bytes_eq-Decides n x).1 (sym same)), omega arith)
index_of_name (x ∷ ns) (suc i) n apart at =
    let rest = index_of_name ns i n apart.1 at in
    (ap (λ b. cond (not b) (1 + position_or_len (bytes_eq n) ns) 0) (bytes_eq-turned n x ∙ differs x n ns i apart.0 at) ∙ omega (arith, rest.0), omega (arith, rest.1))

found_there : (a b i : ℕ) → a ≡ i → i < b → cond (nat_lt a b) (Some a) None ≡ Some i
found_there a b i e h = grind (arith, nat_tests)

-- a name is found where it is
pub position-distinct : (ns : List (List ℕ)) (i : ℕ) (n : List ℕ) → IsDistinct bytes_eq ns → slice_get ns i ≡ Some n → position (bytes_eq n) ns ≡ Some i
position-distinct ns i n apart at =
    let there = index_of_name ns i n apart at in
    found_there (position_or_len (bytes_eq n) ns) (length ns) i there.0 there.1

module _ {A : Type 0} (f : A → List ℕ) where
  all-map : (x : List ℕ) (xs : List A) → AllByRecursion (λ y. bytes_eq x (f y) ≡ false) xs → AllByRecursion (λ y. bytes_eq x y ≡ false) (map f xs)
  all-map x [] all = tt
  all-map x (y ∷ xs) all = (all.0, all-map x xs all.1)

  pub IsDistinct-map : (xs : List A) → IsDistinct (λ x y. bytes_eq (f x) (f y)) xs → IsDistinct bytes_eq (map f xs)
  unfolding IsDistinct
  IsDistinct-map [] apart = tt
  IsDistinct-map (x ∷ xs) apart = (all-map (f x) xs apart.0, IsDistinct-map xs apart.1)
