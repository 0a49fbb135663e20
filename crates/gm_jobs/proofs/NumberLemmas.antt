-- What is true of a choice by a number, and of an Option and a Result.
use Rattle.std.proofs.Common.{◌≡◌, ◌≢◌, ℕ, Bool, true, false, if◌then◌else◌, ◌==◌, ◌⊎◌, inl, inr, Option, Some, None, IsSome, IfSome, IfNone, Result, Ok, Err, IsOk, OnOk, OnErr, is_some, refl, sym, ap, ◌∙◌, arith}
use Rattle.std.proofs.lemmas.Bool.{true≢false, false≢true}
use Rattle.std.proofs.lemmas.Bool.Decides.{nat_tests}

-- one thing where two numbers are equal, another where they differ
pub at_number : {A : Type 0} (n m : ℕ) (r x y : A) → (n ≡ m → r ≡ x) → (n ≢ m → r ≡ y) → r ≡ (if n == m then x else y)
at_number n m r x y same apart = by (n == m) refl
  where
    by : (b : Bool) → (n == m) ≡ b → r ≡ (if b then x else y)
    by true e = same (grind (arith, nat_tests))
    by false e = apart (λ h. true≢false (sym (let t : (n == m) ≡ true = grind (arith, nat_tests) in t) ∙ e))

pub number_same : {A : Type 0} (n : ℕ) (x y : A) → (if n == n then x else y) ≡ x
number_same n x y = ap (λ b. if b then x else y) (let t : (n == n) ≡ true = grind (arith, nat_tests) in t)

pub number_other : {A : Type 0} (n m : ℕ) (x y : A) → n ≢ m → (if n == m then x else y) ≡ y
number_other n m x y ne = ap (λ b. if b then x else y) (let h : n ≢ m = ne in let t : (n == m) ≡ false = grind (arith, nat_tests) in t)

pub not_some : {A : Type 0} (o : Option A) → o ≡ None → IsSome o → ⊥
not_some o e h = false≢true (sym (ap is_some e) ∙ h)

-- ---- results

pub either : {T E : Type 0} (r : Result T E) {P Q : Type 0} → OnOk r P → OnErr r Q → P ⊎ Q
either (Ok x) p q = inl p
either (Err e) p q = inr q

pub on_ok_map : {T E : Type 0} (r : Result T E) {P Q : Type 0} → (P → Q) → OnOk r P → OnOk r Q
on_ok_map (Ok x) f h = f h
on_ok_map (Err e) f h = h

pub if_some_map : {T : Type 0} (o : Option T) (P Q : T → Type 0) → ((x : T) → P x → Q x) → IfSome o P → IfSome o Q
if_some_map None P Q f h = h
if_some_map (Some x) P Q f h = f x h

pub if_none_map : {T : Type 0} (o : Option T) {P Q : Type 0} → (P → Q) → IfNone o P → IfNone o Q
if_none_map None f h = f h
if_none_map (Some x) f h = h

pub on_ok : {T E : Type 0} (r : Result T E) {Q : Type 0} → IsOk r → OnOk r Q → Q
on_ok (Ok x) h q = q
on_ok (Err e) h q = absurd (false≢true h)
