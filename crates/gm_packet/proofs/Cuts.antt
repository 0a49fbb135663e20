-- The cut at the first NUL, and the arguments that cuts find.
use Rattle.std.proofs.Common.{◌≡◌, ℕ, suc, ◌+◌, Bool, true, false, cond, ltb, not, List, [], ◌∷◌, length, take, drop, Option, Some, None}
use Rattle.std.proofs.Common.{refl, sym, ap, ◌∙◌, arith, position}
use Rattle.std.specs.Prelude.{◌==◌}
use Rattle.std.specs.List.{position_or_len}
use Rattle.std.specs.Option.{option_map}
use Rattle.std.proofs.Math.Numerals.{add-one, one-add}
use Rattle.std.proofs.lemmas.List.{take_rest}
use Rattle.std.proofs.lemmas.Bool.Decides.{nat_tests}
use Rattle.gm_packet.specs.Requests.{cut}

-- the halves at a position
abbrev halves_at : List ℕ → Option ℕ → Option (List ℕ × List ℕ)
halves_at bytes position = option_map (λ i. (take i bytes, drop (i + 1) bytes)) position

-- one byte more in front of the halves
one_more : (t : Bool) (b n : ℕ) (bytes : List ℕ) → option_map (λ (h : List ℕ × List ℕ). (b ∷ h.0, h.1)) (halves_at bytes (cond t (Some n) None)) ≡ halves_at (b ∷ bytes) (cond t (Some (suc n)) None)
one_more true b n bytes = simp add-one
one_more false b n bytes = refl

same_test : (n len : ℕ) → ltb n len ≡ ltb (suc n) (suc len)
same_test n len = grind (arith, nat_tests)

first_test : (len : ℕ) → ltb 0 (suc len) ≡ true
first_test len = grind (arith, nat_tests)

at_head : (t : Bool) (b : ℕ) (bytes : List ℕ) → cond t (Some ([], bytes)) (option_map (λ (h : List ℕ × List ℕ). (b ∷ h.0, h.1)) (halves_at bytes (position (λ b. b == 0) bytes))) ≡ halves_at (b ∷ bytes) (cond (ltb (cond (not t) (1 + position_or_len (λ b. b == 0) bytes) 0) (suc (length bytes))) (Some (cond (not t) (1 + position_or_len (λ b. b == 0) bytes) 0)) None)
at_head true b bytes = rw first_test refl
at_head false b bytes =
    let n = position_or_len (λ b. b == 0) bytes in
    one_more (ltb n (length bytes)) b n bytes ∙ ap (λ t. halves_at (b ∷ bytes) (cond t (Some (suc n)) None)) (same_test n (length bytes)) ∙ ap (λ k. halves_at (b ∷ bytes) (cond (ltb k (suc (length bytes))) (Some k) None)) (sym (one-add n))

pub cut_at : (bytes : List ℕ) → cut bytes ≡ option_map (λ i. (take i bytes, drop (i + 1) bytes)) (position (λ b. b == 0) bytes)
cut_at [] = refl
cut_at (b ∷ bytes) = rw (cut_at bytes) (at_head (b == 0) b bytes)

-- what `cut` in the code needs
pub ruleset cuts = (cut_at, take_rest)
