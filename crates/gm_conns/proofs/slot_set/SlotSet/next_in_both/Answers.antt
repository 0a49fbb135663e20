use Rattle.std.proofs.Common.{◌≡◌, ◌+◌, ◌*◌, ◌/◌, ◌%◌, ◌&&◌, ◌==◌, ◌≤◌, ◌<◌, ℕ, false, List, bit_and, get_or, Option, Some, None, IfSome, IfNone, inl, inr, sym, ap, ◌∙◌, arith}
use Rattle.std.proofs.lemmas.Bool.{cases_lt}
use Rattle.std.specs.Int.{bit_at}
use Rattle.gm_conns.specs.Slots.{has}
use Rattle.std.proofs.lemmas.Nat.Bits.{bit_at-zero}
use Rattle.gm_conns.proofs.SlotLemmas.{has_between, has_both, has_none, past_both}
use Rattle.gm_conns.proofs.slot_set.SlotSet.next_in_both.Goals as goal

lift_some : (r : Option ℕ) (P Q : ℕ → Type 0) → ((x : ℕ) → P x → Q x) → IfSome r P → IfSome r Q
lift_some None P Q f h = tt
lift_some (Some x) P Q f h = f x h

lift_none : (r : Option ℕ) (P Q : Type 0) → (P → Q) → IfNone r P → IfNone r Q
lift_none None P Q f h = f h
lift_none (Some x) P Q f h = tt

-- none in the rest of a word of which no bit is in both
module _ (words other : List ℕ) (from word : ℕ) (is : word ≡ get_or words (from / 64) 0)
    (none : (r : ℕ) → from % 64 ≤ r → r < 64 → bit_at (bit_and word (get_or other (from / 64) 0)) r ≡ 0) where
  in_word : (i : ℕ) → from ≤ i → i < (from / 64 + 1) * 64 → (has words i && has other i) ≡ false
  in_word i low high =
      has_none words other (from / 64) (from % 64) 64 (omega arith) (λ r l h. ap (λ w. bit_at (bit_and w (get_or other (from / 64) 0)) r) (sym is) ∙ none r l h) i (omega (arith, low)) (omega (arith, high))

pub returns-then-self-other-eq0-clause-none : goal.returns-then-self-other-eq0-clause-none
returns-then-self-other-eq0-clause-none c = λ i low.
    (λ j. has (sym c.self.view_is j) i && has (sym c.other.view_is j) i)
    ∙ elim (cases_lt i 1024) [
      | inl within ↦ has_between c.self.inside.used c.self.inside.words c.self.invariant.1 c.other.inside.used c.other.inside.words c.other.invariant.1 0 16 (λ at l h. ap (λ u. bit_at u at) c.if-self-other-eq0.true ∙ bit_at-zero at) i (omega arith) (omega (arith, within))
      | inr past ↦ past_both c.self.inside.words c.other.inside.words i c.self.invariant.0 past
    ]

pub returns-in-Some-first_bit-clause-found : goal.returns-in-Some-first_bit-clause-found
returns-in-Some-first_bit-clause-found c =
    let bit = c.in-Some-first_bit.ensures.found in
    let at = c.args.from / 64 * 64 + c.in-Some-first_bit.bit in (
      omega (arith, bit.0),
      omega (arith, bit.1, c.in-Some.ensures.lookup.3.0, c.self.invariant.0),
      (λ j. has (sym c.self.view_is j) at && has (sym c.other.view_is j) at)
          ∙ (has_both c.self.inside.words c.other.inside.words (c.args.from / 64) c.in-Some-first_bit.bit bit.1
          ∙ ap (λ b. b == 1) (ap (λ w. bit_at (bit_and w (get_or c.other.inside.words (c.args.from / 64) 0)) c.in-Some-first_bit.bit) (sym (c.in-Some.ensures.lookup.4 (omega arith) 0)) ∙ bit.2)),
    )

pub returns-in-Some-first_bit-clause-least : goal.returns-in-Some-first_bit-clause-least
returns-in-Some-first_bit-clause-least c = λ i low high.
    let bit = c.in-Some-first_bit.ensures.found in
    (λ j. has (sym c.self.view_is j) i && has (sym c.other.view_is j) i)
    ∙ has_none c.self.inside.words c.other.inside.words (c.args.from / 64) (c.args.from % 64) c.in-Some-first_bit.bit (omega (arith, bit.1))
    (λ r l h. ap (λ w. bit_at (bit_and w (get_or c.other.inside.words (c.args.from / 64) 0)) r) (sym (c.in-Some.ensures.lookup.4 (omega arith) 0)) ∙ bit.3 r l h) i (omega (arith, low)) high

pub returns-clause-least : goal.returns-clause-least
returns-clause-least c =
    lift_some c.first_in_both.result _ _
    (λ found least i low high. elim (cases_lt i ((c.args.from / 64 + 1) * 64)) [
      | inl here ↦
          (λ j. has (sym c.self.view_is j) i && has (sym c.other.view_is j) i)
          ∙ in_word c.self.inside.words c.other.inside.words c.args.from c.in-Some.word.now (c.in-Some.ensures.lookup.4 (omega arith) 0) c.in_default-first_bit.ensures.none i low here
      | inr later ↦ least i later high
    ])
    c.first_in_both.ensures.least

pub returns-clause-none : goal.returns-clause-none
returns-clause-none c =
    lift_none c.first_in_both.result _ _
    (λ none i low. elim (cases_lt i ((c.args.from / 64 + 1) * 64)) [
      | inl here ↦
          (λ j. has (sym c.self.view_is j) i && has (sym c.other.view_is j) i)
          ∙ in_word c.self.inside.words c.other.inside.words c.args.from c.in-Some.word.now (c.in-Some.ensures.lookup.4 (omega arith) 0) c.in_default-first_bit.ensures.none i low here
      | inr later ↦ none i later
    ])
    c.first_in_both.ensures.none
