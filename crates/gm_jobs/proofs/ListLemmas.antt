-- What is true of a filter, and of what keys find.
use Rattle.std.proofs.Common.{◌≡◌, ℕ, zero, suc, ◌<◌, Bool, true, false, cond, filter, List, [], ◌∷◌, length, Contains, slice_get, nat_eq, Some, refl, sym}
use Rattle.std.proofs.Common.{ap, ◌∙◌, arith}
use Rattle.std.proofs.lemmas.Bool.{false≢true}
use Rattle.std.proofs.lemmas.List.Elements.{Contains-append_right}
use Rattle.std.specs.Map.{lookup}
use Rattle.std.proofs.lemmas.Bool.Decides.{nat_tests}

-- ---- a filter keeps what passes

pub Contains-filter : {X : Type 0} (p : X → Bool) (xs : List X) (y : X) → p y ≡ true → Contains xs y → Contains (filter p xs) y
Contains-filter p [] y good there = there
Contains-filter p (x ∷ xs) y good (zero, w, e) = by (p x) (ap p e ∙ good)
  where
    by : (b : Bool) → b ≡ true → Contains (cond b (x ∷ filter p xs) (filter p xs)) y
    by true t = (0, omega arith, e)
    by false t = absurd (false≢true t)
Contains-filter p (x ∷ xs) y good (suc k, w, e) = by (p x) (Contains-filter p xs y good (k, omega arith, e))
  where
    by : (b : Bool) → Contains (filter p xs) y → Contains (cond b (x ∷ filter p xs) (filter p xs)) y
    by true rest = Contains-append_right (x ∷ []) (filter p xs) y rest
    by false rest = rest

-- ---- keys

-- where a key is found, it stands
pub found_at : {X : Type 0} (es : List (ℕ × X)) (n : ℕ) (x : X) → lookup (nat_eq n) es ≡ Some x → (k : ℕ) × (k < length es) × (slice_get es k ≡ Some (n, x))
found_at [] n x h = cc
found_at {X} (e ∷ es) n x h = by (nat_eq n e.0) refl h (λ f. found_at es n x f)
  where
    by : (b : Bool) → nat_eq n e.0 ≡ b → cond b (Some e.1) (lookup (nat_eq n) es) ≡ Some x
        → (lookup (nat_eq n) es ≡ Some x → (k : ℕ) × (k < length es) × (slice_get es k ≡ Some (n, x))) → (k : ℕ) × (k < length (e ∷ es)) × (slice_get (e ∷ es) k ≡ Some (n, x))
    by true t f rest = let same : n ≡ e.0 = grind (arith, nat_tests) in let value : e.1 ≡ x = cc in (0, omega arith, λ j. Some (sym same j, value j))
    by false t f rest = let r = rest f in (suc r.0, omega (arith, r.1), r.2)
