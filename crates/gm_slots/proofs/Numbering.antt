-- A slot's place in the list of slots is its number.
use Rattle.std.proofs.Common.{◌≡◌, ◌≢◌, ◌<◌, ◌≤◌, ◌==◌, ℕ, zero, suc, Bool, true, false, List, [], ◌∷◌, ◌++◌, map, length, get_or, Option, Some, None, IfSome, IfNone, refl, sym, ap, ◌∙◌, arith, length-append}
use Rattle.std.proofs.lemmas.Bool.Decides.{nat_tests}
use Rattle.std.proofs.lemmas.List.{get_or_at, get_or_append_left, get_or-map, length-map, append_assoc, map-append}
use Rattle.std.specs.List.{ItemBy}
use Rattle.gm_shared.specs.Shared.{numbers_below}

length_below : (n : ℕ) → length (numbers_below n) ≡ n
length_below zero = refl
length_below (suc n) = omega (arith, length-append (numbers_below n) (n ∷ []), length_below n)

pub as_many : {A : Type 0} (f : A → ℕ) (xs : List A) (n : ℕ) → map f xs ≡ numbers_below n → length xs ≡ n
as_many f xs n is = sym (length-map xs f) ∙ (ap length is ∙ length_below n)

-- what has numbers below the same is as long
pub paired : {A B : Type 0} (f : A → ℕ) (g : B → ℕ) (xs : List A) (ys : List B) (n : ℕ) → map f xs ≡ numbers_below n → map g ys ≡ numbers_below n → length xs ≡ length ys
paired f g xs ys n is are = omega (arith, length-map xs f, length-map ys g, ap length is, ap length are)

below_at : (n i d : ℕ) → i < n → get_or (numbers_below n) i d ≡ i
below_at zero i d less = absurd (omega (arith, less))
below_at (suc n) i d less = by (i == n) refl (λ lower. below_at n i d lower)
  where
    by : (t : Bool) → (i == n) ≡ t → (i < n → get_or (numbers_below n) i d ≡ i) → get_or (numbers_below (suc n)) i d ≡ i
    by true is lower =
        let same : i ≡ n = grind (arith, nat_tests) in
        get_or_at (numbers_below n) n [] d i (length_below n ∙ sym same) ∙ sym same
    by false is lower =
        let other : i ≢ n = grind (arith, nat_tests) in
        let within : i < n = omega (arith, less, other) in
        get_or_append_left (numbers_below n) (n ∷ []) d i (omega (arith, within, length_below n)) ∙ lower within

module _ {A : Type 0} (number : A → ℕ) where
  pub numbered_at : (xs : List A) (n i : ℕ) (d : A) → map number xs ≡ numbers_below n → i < length xs → number (get_or xs i d) ≡ i
  numbered_at xs n i d are less =
      let long : length xs ≡ n = omega (arith, length-map xs number, ap length are, length_below n) in
      sym (get_or-map number xs i d (number d) less) ∙ (ap (λ (l : List ℕ). get_or l i (number d)) are ∙ below_at n i (number d) (omega (arith, less, long)))

  pub item_numbered : {R : Type 0} (now : R → A) (xs : List A) (n i : ℕ) (r : Option R) → ItemBy now xs i i r → map number xs ≡ numbers_below n → IfSome r (λ x. number (now x) ≡ i)
  item_numbered now xs n i None item are = tt
  item_numbered now xs n i (Some x) item are = ap number item.1 ∙ numbered_at xs n i (now x) are item.3.0

  pub none_numbered : {R : Type 0} (now : R → A) (xs : List A) (n i : ℕ) (r : Option R) → ItemBy now xs i i r → map number xs ≡ numbers_below n → IfNone r (n ≤ i)
  none_numbered now xs n i None item are = omega (arith, as_many number xs n are, item.3)
  none_numbered now xs n i (Some x) item are = tt

  -- one more is put behind those that there are, and is taken from the rest
  pub numbered_more : {B : Type 0} (of : B → ℕ) (xs after : List A) (x : A) (all more rest : List B) (y : B) → map number xs ++ map of more ≡ map of all
      → after ≡ xs ++ x ∷ [] → more ≡ y ∷ rest → number x ≡ of y → map number after ++ map of rest ≡ map of all
  numbered_more {B = B} of xs after x all more rest y were put taken same =
      ap (λ (l : List A). map number l ++ map of rest) put
      ∙ (ap (λ (l : List ℕ). l ++ map of rest) (map-append number xs (x ∷ []))
      ∙ (append_assoc (map number xs) (number x ∷ []) (map of rest)
      ∙ (ap (λ (i : ℕ). map number xs ++ i ∷ map of rest) same
      ∙ (sym (ap (λ (l : List B). map number xs ++ map of l) taken) ∙ were))))
