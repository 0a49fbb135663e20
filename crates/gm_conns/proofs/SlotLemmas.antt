-- What a bit of a word says of a slot.
use Rattle.std.proofs.Common.{◌≡◌, ◌≢◌, ℕ, ◌+◌, ◌-◌, ◌*◌, ◌/◌, ◌%◌, ◌^◌, ◌<◌, ◌≤◌, min, max, bit_and, bit_or, w64, arith}
use Rattle.std.proofs.Common.{Bool, false, not, ◌&&◌, ◌||◌, ◌==◌, inl, inr, List, length, get_or, set}
use Rattle.std.proofs.Common.{sym, ap, subst, ◌∙◌}
use Rattle.std.specs.Int.{bit_at, bit_not, trailing_zeros}
use Rattle.std.proofs.lemmas.Nat.Bits.{bit_at-zero, bit_at-lt, bit_at_and, bit_at_or, bit_at_set_same, bit_at_set_other, bit_at_clear_same}
use Rattle.std.proofs.lemmas.Nat.Bits.{bit_at_clear_other}
use Rattle.std.proofs.lemmas.Nat.Bits.{bit_at_mask_inside, bit_at_mask_below, bit_at-trailing_zeros, ones_shl}
use Rattle.std.proofs.lemmas.List.{get_or-set_same, get_or-set_other, get_or_past}
use Rattle.std.proofs.lemmas.Bool.{cases_lt, cases_eq}
use Rattle.std.proofs.lemmas.Bool.Decides.{nat_tests}
use lib.Bits.{and_lt}
use Rattle.gm_conns.specs.Slots.{has}
use Rattle.std.proofs.lemmas.Bool.{and_right}
use Rattle.std.proofs.lemmas.Bool.{and_left}

yes_in : (x i slot : ℕ) (b : Bool) → x ≡ 1 → i ≡ slot → (x == 1) ≡ ((i == slot) || b)
yes_in x i slot b e same = grind (arith, nat_tests)

no_in : (x y i slot : ℕ) → x ≡ y → i ≢ slot → (x == 1) ≡ ((i == slot) || (y == 1))
no_in x y i slot e other = grind (arith, nat_tests)

yes_out : (x i slot : ℕ) (b : Bool) → x ≡ 0 → i ≡ slot → (x == 1) ≡ (not (i == slot) && b)
yes_out x i slot b e same = grind (arith, nat_tests)

no_out : (x y i slot : ℕ) → x ≡ y → i ≢ slot → (x == 1) ≡ (not (i == slot) && (y == 1))
no_out x y i slot e other = grind (arith, nat_tests)

module _ (words : List ℕ) (slot i : ℕ) (long : length words ≡ 16) (small : slot < 1024) where
  written : (w : ℕ) → i / 64 ≡ slot / 64 → get_or (set words (slot / 64) w) (i / 64) 0 ≡ w
  written w same = ap (λ k. get_or (set words (slot / 64) w) k 0) same ∙ get_or-set_same words (slot / 64) w 0 (omega arith)

  -- a slot is put in
  pub has-insert : has (set words (slot / 64) (bit_or (get_or words (slot / 64) 0) (1 * 2 ^ (slot % 64) % 2 ^ 64))) i ≡ ((i == slot) || has words i)
  has-insert =
      let m = bit_or (get_or words (slot / 64) 0) (1 * 2 ^ (slot % 64) % 2 ^ 64) in
      elim (cases_eq (i / 64) (slot / 64)) [
        | inl same ↦ elim (cases_eq (i % 64) (slot % 64)) [
          | inl at ↦ yes_in _ i slot _ (ap (λ w. bit_at w (i % 64)) (written m same) ∙ ap (bit_at m) at ∙ bit_at_set_same w64 (get_or words (slot / 64) 0) (slot % 64) (omega arith)) (omega arith)
          | inr off ↦ no_in _ _ i slot (ap (λ w. bit_at w (i % 64)) (written m same) ∙ bit_at_set_other w64 (get_or words (slot / 64) 0) (slot % 64) (omega arith) (i % 64) off ∙ ap (λ k. bit_at (get_or words k 0) (i % 64)) (sym same)) (omega arith)
        ]
        | inr apart ↦ no_in _ _ i slot (ap (λ w. bit_at w (i % 64)) (get_or-set_other words (slot / 64) (i / 64) m 0 apart)) (omega arith)
      ]

  -- a slot is taken out
  pub has-remove : has (set words (slot / 64) (bit_and (get_or words (slot / 64) 0) (bit_not w64 (1 * 2 ^ (slot % 64) % 2 ^ 64)))) i ≡ (not (i == slot) && has words i)
  has-remove =
      let m = bit_and (get_or words (slot / 64) 0) (bit_not w64 (1 * 2 ^ (slot % 64) % 2 ^ 64)) in
      elim (cases_eq (i / 64) (slot / 64)) [
        | inl same ↦ elim (cases_eq (i % 64) (slot % 64)) [
          | inl at ↦ yes_out _ i slot _ (ap (λ w. bit_at w (i % 64)) (written m same) ∙ ap (bit_at m) at ∙ bit_at_clear_same w64 (get_or words (slot / 64) 0) (slot % 64) (omega arith)) (omega arith)
          | inr off ↦ no_out _ _ i slot (ap (λ w. bit_at w (i % 64)) (written m same) ∙ bit_at_clear_other w64 (get_or words (slot / 64) 0) (slot % 64) (omega arith) (i % 64) (omega arith) off ∙ ap (λ k. bit_at (get_or words k 0) (i % 64)) (sym same)) (omega arith)
        ]
        | inr apart ↦ no_out _ _ i slot (ap (λ w. bit_at w (i % 64)) (get_or-set_other words (slot / 64) (i / 64) m 0 apart)) (omega arith)
      ]

-- ---- the words that aren't marked as used

abbrev pub AreUsed : ℕ → List ℕ → Type 0
AreUsed used words = (at : ℕ) → bit_at used at ≡ 0 → get_or words at 0 ≡ 0

module _ (used : ℕ) (words : List ℕ) (k word : ℕ) (long : length words ≡ 16) (small : k < 16) (are : AreUsed used words) where
  -- the word is marked and takes another value
  pub used-with : AreUsed (bit_or used (1 * 2 ^ k % 2 ^ 64)) (set words k word)
  used-with at none = elim (cases_eq at k) [
    | inl same ↦ absurd (omega (arith, none, ap (bit_at (bit_or used (1 * 2 ^ k % 2 ^ 64))) same ∙ bit_at_set_same w64 used k (omega (arith, small))))
    | inr other ↦ get_or-set_other words k at word 0 other ∙ are at (sym (bit_at_set_other w64 used k (omega (arith, small)) at other) ∙ none)
  ]

  -- its value is 0, and the mark goes
  pub used-without : word ≡ 0 → AreUsed (bit_and used (bit_not w64 (1 * 2 ^ k % 2 ^ 64))) (set words k word)
  used-without is_zero at none = elim (cases_eq at k) [
    | inl same ↦ ap (λ i. get_or (set words k word) i 0) same ∙ (get_or-set_same words k word 0 (omega (arith, long, small)) ∙ is_zero)
    | inr other ↦ get_or-set_other words k at word 0 other ∙ elim (cases_lt at 16) [
      | inl within ↦ are at (sym (bit_at_clear_other w64 used k (omega (arith, small)) at (omega (arith, within)) other) ∙ none)
      | inr past ↦ get_or_past words at 0 (omega (arith, long, past))
    ]
  ]

pub has-zero : (words : List ℕ) (i : ℕ) → get_or words (i / 64) 0 ≡ 0 → has words i ≡ false
has-zero words i is_zero = ap (λ w. bit_at w (i % 64) == 1) is_zero ∙ ap (λ b. b == 1) (bit_at-zero (i % 64))

-- where no word is marked in both sets, none of its slots is in both
module _ (used : ℕ) (words : List ℕ) (are : AreUsed used words) (used_other : ℕ) (other : List ℕ) (are_other : AreUsed used_other other) where
  has_unused : (i : ℕ) → bit_at (bit_and used used_other) (i / 64) ≡ 0 → (has words i && has other i) ≡ false
  has_unused i none =
      let both = sym (bit_at_and used used_other (i / 64)) ∙ none in
      elim (cases_eq (bit_at used (i / 64)) 0) [
        | inl unset ↦ and_left (has words i) (has other i) (has-zero words i (are (i / 64) unset))
        | inr some ↦ and_right (has words i) (has other i) (has-zero other i (are_other (i / 64) (omega (arith, both, some))))
      ]

  pub has_between : (low high : ℕ) → ((at : ℕ) → low ≤ at → at < high → bit_at (bit_and used used_other) at ≡ 0)
      → (i : ℕ) → low * 64 ≤ i → i < high * 64 → (has words i && has other i) ≡ false
  has_between low high none i l h = has_unused i (none (i / 64) (omega (arith, l)) (omega (arith, h)))

-- ---- the slots of two sets together

or_of : (a b : ℕ) → a < 2 → b < 2 → (max a b == 1) ≡ ((a == 1) || (b == 1))
or_of a b small less = grind (arith, nat_tests)

-- a word of both sets
abbrev pub IsOr : List ℕ → List ℕ → List ℕ → ℕ → Type 0
IsOr words other both at = get_or both at 0 ≡ bit_or (get_or words at 0) (get_or other at 0)

module _ (words other both : List ℕ) where
  pub has-or : (i : ℕ) → IsOr words other both (i / 64) → has both i ≡ (has words i || has other i)
  has-or i is =
      ap (λ w. bit_at w (i % 64) == 1) is
      ∙ (ap (λ b. b == 1) (bit_at_or (get_or words (i / 64) 0) (get_or other (i / 64) 0) (i % 64))
      ∙ or_of _ _ (bit_at-lt (get_or words (i / 64) 0) (i % 64)) (bit_at-lt (get_or other (i / 64) 0) (i % 64)))

  pub used-or : (used used_other : ℕ) → AreUsed used words → AreUsed used_other other → ((at : ℕ) → IsOr words other both at) → AreUsed (bit_or used used_other) both
  used-or used used_other are are_other is at none =
      let max_is = sym (bit_at_or used used_other at) ∙ none in
      is at ∙ (λ j. bit_or (are at (omega (arith, max_is)) j) (are_other at (omega (arith, max_is)) j))

-- ---- the first bit from a position on

module _ (word from : ℕ) (within : from < 64) where
  abbrev pub masked : ℕ
  masked = bit_and word ((2 ^ 64 - 1) * 2 ^ from % 2 ^ 64)

  mask : masked ≡ bit_and word (2 ^ 64 - 2 ^ from)
  mask = ap (bit_and word) (ones_shl 64 from (omega arith))

  -- from the position on the bits are the word's
  pub masked_above : (i : ℕ) → from ≤ i → i < 64 → bit_at masked i ≡ bit_at word i
  masked_above i low high =
      let both = ap (λ w. bit_at w i) mask ∙ bit_at_and word (2 ^ 64 - 2 ^ from) i in
      let one = bit_at_mask_inside from 64 i low high in
      let bit = bit_at-lt word i in
      omega arith

  -- and none before it is set
  pub masked_below : (i : ℕ) → i < from → bit_at masked i ≡ 0
  masked_below i low =
      let both = ap (λ w. bit_at w i) mask ∙ bit_at_and word (2 ^ 64 - 2 ^ from) i in
      let none = bit_at_mask_below from 64 i low in
      omega arith

  pub masked_none : masked ≡ 0 → (i : ℕ) → from ≤ i → i < 64 → bit_at word i ≡ 0
  masked_none e i low high = sym (masked_above i low high) ∙ ap (λ w. bit_at w i) e ∙ bit_at-zero i

  pub masked_first : word < 2 ^ 64 → 0 < masked
      → (from ≤ trailing_zeros w64 masked) × (trailing_zeros w64 masked < 64) × (bit_at word (trailing_zeros w64 masked) ≡ 1) × ((i : ℕ) → from ≤ i → i < trailing_zeros w64 masked → bit_at word i ≡ 0)
  masked_first fits some =
      let at = bit_at-trailing_zeros w64 masked some (and_lt 64 word ((2 ^ 64 - 1) * 2 ^ from % 2 ^ 64) fits (omega arith)) in
      let high : trailing_zeros w64 masked < 64 = at.0 in
      let low : from ≤ trailing_zeros w64 masked =
      elim (cases_lt (trailing_zeros w64 masked) from) [ inl before ↦ absurd (omega (arith, at.1, masked_below (trailing_zeros w64 masked) before)) | inr after ↦ after ] in
      (low, high, sym (masked_above (trailing_zeros w64 masked) low high) ∙ at.1, λ i l h. sym (masked_above i l (omega arith)) ∙ at.2 i h)

-- ---- what is in two sets

module _ (xs ys : List ℕ) where
  both_of : (a b : ℕ) → a < 2 → b < 2 → (min a b == 1) ≡ ((a == 1) && (b == 1))
  both_of a b small less = grind (arith, nat_tests)

  -- a bit of both words
  pub has_both : (at r : ℕ) → r < 64 → (has xs (at * 64 + r) && has ys (at * 64 + r)) ≡ (bit_at (bit_and (get_or xs at 0) (get_or ys at 0)) r == 1)
  has_both at r small =
      let word : (at * 64 + r) / 64 ≡ at = omega arith in
      let position : (at * 64 + r) % 64 ≡ r = omega arith in
      (λ j. (bit_at (get_or xs (word j) 0) (position j) == 1) && (bit_at (get_or ys (word j) 0) (position j) == 1))
      ∙ sym (both_of (bit_at (get_or xs at 0) r) (bit_at (get_or ys at 0) r) (bit_at-lt (get_or xs at 0) r) (bit_at-lt (get_or ys at 0) r))
      ∙ ap (λ b. b == 1) (sym (bit_at_and (get_or xs at 0) (get_or ys at 0) r))

  -- no slot is in both, where no bit of the word is in both
  pub has_none : (at low high : ℕ) → high ≤ 64 → ((r : ℕ) → low ≤ r → r < high → bit_at (bit_and (get_or xs at 0) (get_or ys at 0)) r ≡ 0)
      → (i : ℕ) → at * 64 + low ≤ i → i < at * 64 + high → (has xs i && has ys i) ≡ false
  has_none at low high small none i l h =
      let position : at * 64 + (i - at * 64) ≡ i = omega arith in
      subst (λ k. (has xs k && has ys k) ≡ false) position
      (has_both at (i - at * 64) (omega arith) ∙ ap (λ b. b == 1) (none (i - at * 64) (omega arith) (omega arith)))

-- no slot beyond the words is in the set
pub has_past : (words : List ℕ) (i : ℕ) → length words ≡ 16 → 1024 ≤ i → has words i ≡ false
has_past words i long past =
    ap (λ w. bit_at w (i % 64) == 1) (get_or_past words (i / 64) 0 (omega arith)) ∙ ap (λ b. b == 1) (bit_at-zero (i % 64))

-- nor is it in two
pub past_both : (words other : List ℕ) (i : ℕ) → length words ≡ 16 → 1024 ≤ i → (has words i && has other i) ≡ false
past_both words other i long past = and_left (has words i) (has other i) (has_past words i long past)
