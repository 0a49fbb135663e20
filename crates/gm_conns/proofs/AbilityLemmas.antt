-- What a change of the abilities does to them.
use Rattle.std.proofs.Common.{◌≡◌, ℕ, Bool, true, false, cond, not, ◌==◌, nat_eq, List, [], ◌∷◌, ◌++◌, filter, Some, None, is_some, refl}
use Rattle.std.proofs.Common.{sym, ap, ◌∙◌, arith}
use Rattle.std.proofs.lemmas.Bool.Decides.{nat_tests}
use Rattle.std.specs.Map.{lookup, remove_entry}

other_way : (f g : ℕ) → nat_eq f g ≡ (g == f)
other_way f g = grind (arith, nat_tests)

module _ (f : ℕ) where
  -- where the function isn't there, nothing goes
  filter-missing : (es : List (ℕ × ℕ)) → lookup (nat_eq f) es ≡ None → filter (λ e. not (e.0 == f)) es ≡ es
  filter-missing [] none = refl
  filter-missing (e ∷ es) none = by (nat_eq f e.0) (other_way f e.0) none (λ h. filter-missing es h)
    where
      by : (b : Bool) → b ≡ (e.0 == f) → cond b (Some e.1) (lookup (nat_eq f) es) ≡ None → (lookup (nat_eq f) es ≡ None → filter (λ e. not (e.0 == f)) es ≡ es)
          → cond (not (e.0 == f)) (e ∷ filter (λ e. not (e.0 == f)) es) (filter (λ e. not (e.0 == f)) es) ≡ e ∷ es
      by true same none rest = cc
      by false same none rest = ap (λ b. cond (not b) (e ∷ filter (λ e. not (e.0 == f)) es) (filter (λ e. not (e.0 == f)) es)) (sym same) ∙ ap (λ l. e ∷ l) (rest none)

  -- where it was there once, it alone goes
  pub remove_entry-once : (es : List (ℕ × ℕ)) → lookup (nat_eq f) (remove_entry (nat_eq f) es) ≡ None → remove_entry (nat_eq f) es ≡ filter (λ e. not (e.0 == f)) es
  remove_entry-once [] none = refl
  remove_entry-once (e ∷ es) none = by (nat_eq f e.0) refl (other_way f e.0) none (λ h. remove_entry-once es h)
    where
      by : (b : Bool) → nat_eq f e.0 ≡ b → nat_eq f e.0 ≡ (e.0 == f)
          → lookup (nat_eq f) (cond b es (e ∷ remove_entry (nat_eq f) es)) ≡ None
          → (lookup (nat_eq f) (remove_entry (nat_eq f) es) ≡ None → remove_entry (nat_eq f) es ≡ filter (λ e. not (e.0 == f)) es)
          → cond b es (e ∷ remove_entry (nat_eq f) es) ≡ cond (not (e.0 == f)) (e ∷ filter (λ e. not (e.0 == f)) es) (filter (λ e. not (e.0 == f)) es)
      by true test same none rest =
          sym (filter-missing es none) ∙ ap (λ b. cond (not b) (e ∷ filter (λ e. not (e.0 == f)) es) (filter (λ e. not (e.0 == f)) es)) (sym test ∙ same)
      by false test same none rest =
          ap (λ l. e ∷ l) (rest (ap (λ b. cond b (Some e.1) (lookup (nat_eq f) (remove_entry (nat_eq f) es))) (sym test) ∙ none))
          ∙ ap (λ b. cond (not b) (e ∷ filter (λ e. not (e.0 == f)) es) (filter (λ e. not (e.0 == f)) es)) (sym test ∙ same)

  -- the function of the last ability is among the abilities
  pub lookup-last : (es : List (ℕ × ℕ)) (t : ℕ) → is_some (lookup (nat_eq f) (es ++ (f, t) ∷ [])) ≡ true
  lookup-last [] t = ap (λ b. is_some (cond b (Some t) None)) (same_eq f)
    where
      same_eq : (f : ℕ) → nat_eq f f ≡ true
      same_eq f = grind (arith, nat_tests)
  lookup-last (e ∷ es) t = by (nat_eq f e.0) (lookup-last es t)
    where
      by : (b : Bool) → is_some (lookup (nat_eq f) (es ++ (f, t) ∷ [])) ≡ true → is_some (cond b (Some e.1) (lookup (nat_eq f) (es ++ (f, t) ∷ []))) ≡ true
      by true rest = refl
      by false rest = rest
