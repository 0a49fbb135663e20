use Rattle.std.proofs.Common.{◌≡◌, ◌+◌, ◌*◌, ◌<◌, ◌≤◌, ◌&&◌, ◌==◌, ℕ, false, inl, inr, sym, ap, ◌∙◌, arith}
use Rattle.std.proofs.lemmas.Bool.{cases_lt}
use Rattle.gm_conns.specs.Slots.{has}
use Rattle.gm_conns.proofs.SlotLemmas.{has_between, has_both, has_none, past_both}
use Rattle.gm_conns.proofs.slot_set.SlotSet.first_in_both.Goals as goal
use Rattle.gm_conns.proofs.slot_set.SlotSet.first_in_both.Goals.{In-Some}

-- none before the next word that is used in both
before : (c : In-Some) (i : ℕ) → c.args.from * 64 ≤ i → i < c.in-Some.next * 64 → (has c.self.inside.words i && has c.other.inside.words i) ≡ false
before c i low high = elim (cases_lt i (c.loop-at.at * 64)) [
  | inl out ↦ c.loop-at.invariant.out i low out
  | inr behind ↦ has_between c.self.inside.used c.self.inside.words c.self.invariant.1 c.other.inside.used c.other.inside.words c.other.invariant.1 c.loop-at.at c.in-Some.next c.in-Some.ensures.found.3 i behind high
]

pub returns-in_default-clause-none : goal.returns-in_default-clause-none
returns-in_default-clause-none c = λ i low.
    (λ j. has (sym c.self.view_is j) i && has (sym c.other.view_is j) i)
    ∙ elim (cases_lt i 1024) [
      | inl within ↦ elim (cases_lt i (c.loop-at.at * 64)) [
        | inl out ↦ c.loop-at.invariant.out i low out
        | inr behind ↦ has_between c.self.inside.used c.self.inside.words c.self.invariant.1 c.other.inside.used c.other.inside.words c.other.invariant.1 c.loop-at.at 64 c.in_default.ensures.none i behind (omega (arith, within))
      ]
      | inr past ↦ past_both c.self.inside.words c.other.inside.words i c.self.invariant.0 past
    ]

pub returns-then-next-ge-WORDS-clause-none : goal.returns-then-next-ge-WORDS-clause-none
returns-then-next-ge-WORDS-clause-none c = λ i low.
    (λ j. has (sym c.self.view_is j) i && has (sym c.other.view_is j) i)
    ∙ elim (cases_lt i (c.in-Some.next * 64)) [
      | inl within ↦ before ((goal.at.returns-then-next-ge-WORDS-clause-none c).In-Some) i low within
      | inr past ↦ past_both c.self.inside.words c.other.inside.words i c.self.invariant.0 (omega (arith, past, c.if-next-ge-WORDS.true))
    ]

pub returns-in-Some-first_bit-clause-found : goal.returns-in-Some-first_bit-clause-found
returns-in-Some-first_bit-clause-found c =
    let bit = c.in-Some-first_bit.ensures.found in
    let at = c.in-Some.next * 64 + c.in-Some-first_bit.bit in (
      omega (arith, c.loop-at.invariant.reached, c.in-Some.ensures.found.0),
      omega (arith, bit.1, c.if-next-ge-WORDS.false),
      (λ j. has (sym c.self.view_is j) at && has (sym c.other.view_is j) at) ∙ (has_both c.self.inside.words c.other.inside.words c.in-Some.next c.in-Some-first_bit.bit bit.1 ∙ ap (λ b. b == 1) bit.2),
    )

pub returns-in-Some-first_bit-clause-least : goal.returns-in-Some-first_bit-clause-least
returns-in-Some-first_bit-clause-least c = λ i low high.
    let bit = c.in-Some-first_bit.ensures.found in
    (λ j. has (sym c.self.view_is j) i && has (sym c.other.view_is j) i)
    ∙ elim (cases_lt i (c.in-Some.next * 64)) [
      | inl out ↦ before ((goal.at.returns-in-Some-first_bit-clause-least c).In-Some) i low out
      | inr behind ↦ has_none c.self.inside.words c.other.inside.words c.in-Some.next 0 c.in-Some-first_bit.bit (omega (arith, bit.1)) bit.3 i (omega (arith, behind)) high
    ]

pub loop-at-preserved : goal.loop-at-preserved
loop-at-preserved c = record {
  reached = omega (arith, c.loop-at.invariant.reached, c.in-Some.ensures.found.0);
  within = omega (arith, c.if-next-ge-WORDS.false);
  out = λ i low high. elim (cases_lt i (c.in-Some.next * 64)) [
    | inl out ↦ before ((goal.at.loop-at-preserved c).In-Some) i low out
    | inr behind ↦ has_none c.self.inside.words c.other.inside.words c.in-Some.next 0 64 (omega arith) c.in_default-first_bit.ensures.none i (omega (arith, behind)) (omega (arith, high))
  ];
}
