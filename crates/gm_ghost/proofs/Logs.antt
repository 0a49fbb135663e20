-- Histories, and the entries of one actor in them.
use Rattle.std.proofs.Common.{◌≡◌, ◌≢◌, ℕ, ◌+◌, ◌<◌, ◌==◌, Bool, true, false, if◌then◌else◌, List, [], ◌∷◌, ◌++◌, refl, sym, ap, ◌∙◌, subst, arith, append_assoc, ne_eqb}
use Rattle.gm_ghost.specs.Lists.{entries_by, Knows, AreOf, AreBelow}

module _ {E : Type 0} (owner : E → ℕ) where
  one_more : (b : Bool) (e : E) (xs ys : List E) → (if b then e ∷ (xs ++ ys) else xs ++ ys) ≡ (if b then e ∷ xs else xs) ++ ys
  one_more true e xs ys = refl
  one_more false e xs ys = refl

  pub entries_more : (who : ℕ) (xs ys : List E) → entries_by owner who (xs ++ ys) ≡ entries_by owner who xs ++ entries_by owner who ys
  entries_more who [] ys = refl
  entries_more who (e ∷ xs) ys =
      ap (λ l. if who == owner e then e ∷ l else l) (entries_more who xs ys) ∙ one_more (who == owner e) e (entries_by owner who xs) (entries_by owner who ys)

  -- none of these is of another actor
  pub none_of : (who other : ℕ) (es : List E) → AreOf owner who es → other ≢ who → entries_by owner other es ≡ []
  none_of who other [] are apart = refl
  none_of who other (e ∷ es) are apart =
      let no : (other == owner e) ≡ false = ne_eqb other (owner e) (λ is. apart (is ∙ are.0)) in
      rw no (none_of who other es are.1 apart)

  -- what another actor has seen still fits, once these are added
  pub knows_more : (log : List E) (who other : ℕ) (seen es : List E) → AreOf owner who es → other ≢ who → Knows owner log other seen → Knows owner (es ++ log) other seen
  knows_more log who other seen es are apart k =
      record {
        newer = es ++ k.newer;
        goes_on = ap (λ l. es ++ l) k.goes_on ∙ sym (append_assoc es k.newer seen);
        others = entries_more other es k.newer ∙ (ap (λ l. l ++ entries_by owner other k.newer) (none_of who other es are apart) ∙ k.others);
      }

  pub knows_all : (log : List E) (who : ℕ) → Knows owner log who log
  knows_all log who = record { newer = []; goes_on = refl; others = refl }

  -- what the history has of an actor is what the actor has seen of itself
  pub entries_known : (log : List E) (who : ℕ) (seen : List E) → Knows owner log who seen → entries_by owner who log ≡ entries_by owner who seen
  entries_known log who seen knows = ap (entries_by owner who) knows.goes_on ∙ (entries_more who knows.newer seen ∙ ap (λ l. l ++ entries_by owner who seen) knows.others)

  pub below_more : (n who : ℕ) (es log : List E) → AreOf owner who es → who < n → AreBelow owner n log → AreBelow owner n (es ++ log)
  below_more n who [] log are less b = b
  below_more n who (e ∷ es) log are less b = (subst (λ (k : ℕ). k < n) (sym are.0) less, below_more n who es log are.1 less b)

  pub below_next : (n : ℕ) (log : List E) → AreBelow owner n log → AreBelow owner (n + 1) log
  below_next n [] b = tt
  below_next n (e ∷ log) b = ((let less = b.0 in omega arith), below_next n log b.1)
