-- Which sockets the sides of slots were handed.
use Rattle.std.proofs.Common.{◌≡◌, ◌≢◌, ℕ, zero, suc, ◌+◌, ◌*◌, ◌<◌, ◌≤◌, ◌==◌, Bool, true, false, if◌then◌else◌, List, [], ◌∷◌, ◌++◌, map, refl, sym, ap, subst, ◌∙◌, arith, eq-eqb, ne_eqb}
use Rattle.std.specs.Prelude.{ℤ, Option, Some, None}
use Rattle.std.proofs.lemmas.Bool.{eqb-false}
use Rattle.std.proofs.lemmas.Bool.Decides.{nat_tests}
use Rattle.gm_ghost.specs.Lists.{entries_by, Knows, AreBelow}
use Rattle.gm_ghost.proofs.Logs.{entries_known, below_next}
use Rattle.gm_shared.specs.declared.pairing.Passage.{Passage}
use Rattle.gm_shared.specs.Pairings.{side_code, side_of, socket_in, passed_by, AreAlike, SideState, new_side, passages_of, passed_with}

-- what the list has of a side is what that side has seen
pub known : (log : List Passage) (who code : ℕ) (seen : List Passage) → who ≡ code → Knows side_of log who seen → passed_by code log ≡ passed_by code seen
known log who code seen is knows = ap (map socket_in) (subst (λ w. entries_by side_of w log ≡ entries_by side_of w seen) is (entries_known side_of log who seen knows))

chosen : (t : Bool) (e : Passage) (older : List Passage) → t ≡ true → map socket_in (if t then e ∷ older else older) ≡ socket_in e ∷ map socket_in older
chosen true e older is = refl
chosen false e older is = absurd cc

passed_over : (t : Bool) (e : Passage) (older : List Passage) → t ≡ false → map socket_in (if t then e ∷ older else older) ≡ map socket_in older
passed_over true e older is = absurd cc
passed_over false e older is = refl

-- a passage at this side
own : (code : ℕ) (p : ℤ × Bool) (log : List Passage) → passed_by code (passages_of code (Some p) ++ log) ≡ p ∷ passed_by code log
own code p log = chosen (code == code) (record { side = code; socket = p.0; is_served = p.1 }) (entries_by side_of code log) (eq-eqb code code refl)

-- a passage at another side
other : (code side : ℕ) (p : Option (ℤ × Bool)) (log : List Passage) → code ≢ side → passed_by code (passages_of side p ++ log) ≡ passed_by code log
other code side None log apart = refl
other code side (Some p) log apart = passed_over (code == side) (record { side = side; socket = p.0; is_served = p.1 }) (entries_by side_of code log) (ne_eqb code side apart)

pub more : (slot : ℕ) (is_writing : Bool) (code : ℕ) (p : Option (ℤ × Bool)) (log seen : List Passage) → passed_by code log ≡ passed_by code seen
    → record { slot = slot; is_writing = is_writing; passed = passed_by code (passages_of code p ++ log) } ≡ passed_with p (record { slot = slot; is_writing = is_writing; passed = passed_by code seen })
more slot is_writing code None log seen is = ap (λ (l : List (ℤ × Bool)). record { slot = slot; is_writing = is_writing; passed = l }) is
more slot is_writing code (Some p) log seen is = ap (λ (l : List (ℤ × Bool)). record { slot = slot; is_writing = is_writing; passed = l }) (own code p log ∙ ap (λ l. p ∷ l) is)

-- once both sides of a slot were handed the same, the sides of each slot are alike as before
pub alike_more : (slot : ℕ) (p : Option (ℤ × Bool)) (log : List Passage) → AreAlike log
    → AreAlike (passages_of (side_code slot true) p ++ (passages_of (side_code slot false) p ++ log))
alike_more slot None log alike c = alike c
alike_more slot (Some p) log alike c = by (c == slot) refl
  where
    mid : List Passage
    mid = passages_of (side_code slot false) (Some p) ++ log

    by : (t : Bool) → (c == slot) ≡ t → passed_by (side_code c false) (passages_of (side_code slot true) (Some p) ++ mid) ≡ passed_by (side_code c true) (passages_of (side_code slot true) (Some p) ++ mid)
    by true is =
        let same : c ≡ slot = grind (arith, nat_tests) in
        subst (λ x. passed_by (side_code x false) (passages_of (side_code slot true) (Some p) ++ mid) ≡ passed_by (side_code x true) (passages_of (side_code slot true) (Some p) ++ mid)) (sym same)
        (other (side_code slot false) (side_code slot true) (Some p) mid (λ e. omega arith)
        ∙ (own (side_code slot false) p log
        ∙ (ap (λ l. p ∷ l) (alike slot)
        ∙ (ap (λ l. p ∷ l) (sym (other (side_code slot true) (side_code slot false) (Some p) log (λ e. omega arith)))
        ∙ sym (own (side_code slot true) p mid)))))
    by false is =
        let apart : c ≢ slot = eqb-false c slot is in
        other (side_code c false) (side_code slot true) (Some p) mid (λ e. omega arith)
        ∙ (other (side_code c false) (side_code slot false) (Some p) log (λ e. apart (omega arith))
        ∙ (alike c
        ∙ (sym (other (side_code c true) (side_code slot false) (Some p) log (λ e. omega arith))
        ∙ sym (other (side_code c true) (side_code slot true) (Some p) mid (λ e. apart (omega arith))))))

-- a side that is yet to be made was handed nothing
none_below : (n code : ℕ) (log : List Passage) → AreBelow side_of n log → n ≤ code → passed_by code log ≡ []
none_below n code [] below least = refl
none_below n code (e ∷ log) below least =
    passed_over (code == e.side) e (entries_by side_of code log) (ne_eqb code e.side (λ is. (let less = below.0 in omega arith))) ∙ none_below n code log below.1 least

pub fresh_side : (slot : ℕ) (is_writing : Bool) (log seen : List Passage) → seen ≡ log → AreBelow side_of (2 * slot) log
    → record { slot = slot; is_writing = is_writing; passed = passed_by (side_code slot is_writing) seen } ≡ new_side slot is_writing
fresh_side slot true log seen is below =
    ap (λ (l : List (ℤ × Bool)). record { slot = slot; is_writing = true; passed = l }) (ap (passed_by (side_code slot true)) is ∙ none_below (2 * slot) (side_code slot true) log below (omega arith))
fresh_side slot false log seen is below =
    ap (λ (l : List (ℤ × Bool)). record { slot = slot; is_writing = false; passed = l }) (ap (passed_by (side_code slot false)) is ∙ none_below (2 * slot) (side_code slot false) log below (omega arith))

pub below_two : (n : ℕ) (log : List Passage) → AreBelow side_of (2 * n) log → AreBelow side_of (2 * (n + 1)) log
below_two n log below = let one : 2 * n + 1 + 1 ≡ 2 * (n + 1) = omega arith in subst (λ m. AreBelow side_of m log) one (below_next side_of (2 * n + 1) log (below_next side_of (2 * n) log below))
