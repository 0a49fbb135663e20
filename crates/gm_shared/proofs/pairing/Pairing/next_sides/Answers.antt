use Rattle.std.proofs.Common.{rules, ◌≡◌, ◌∙◌, ◌*◌, ◌+◌, ℕ, true, false, List, ap, sym, subst, arith}
use Rattle.gm_ghost.specs.Lists.{AreBelow}
use Rattle.gm_ghost.specs.Owners.{KeeperState, WitnessState}
use Rattle.gm_shared.specs.declared.pairing.Passage.{Passage}
use Rattle.gm_shared.specs.Pairings.{new_side, side_of, AreAlike}
use Rattle.gm_shared.proofs.Passing.{fresh_side, below_two}
use Rattle.gm_shared.proofs.pairing.Pairing.next_sides.Goals as goal

pub invariant_of-self : goal.invariant_of-self
invariant_of-self g c =
    let i = c.self.invariant in
    let more : c.in_ok-self-inside.field-0 ≡ c.self.inside.slots + 1 = search rules in
    let keeper = c.new_witness-2.ensures.keeper in
    let log : c.new_witness-2.new.self.log ≡ c.self.inside.keeper.log = ap (λ (k : KeeperState Passage). k.log) keeper ∙ ap (λ (k : KeeperState Passage). k.log) c.new_witness.ensures.keeper in
    let made = ap (λ (k : KeeperState Passage). k.made) keeper in
    let made_first = ap (λ (k : KeeperState Passage). k.made) c.new_witness.ensures.keeper in (
      i.0,
      ap (λ (k : KeeperState Passage). k.table) keeper ∙ (ap (λ (k : KeeperState Passage). k.table) c.new_witness.ensures.keeper ∙ i.1),
      omega (arith, made, made_first, i.2, more),
      subst AreAlike (sym log) i.3,
      subst (λ (z : ℕ × List Passage). AreBelow side_of (2 * z.0) z.1) (λ j. (sym more j, sym log j)) (below_two c.self.inside.slots c.self.inside.keeper.log i.4),
    )

pub returns : goal.returns
returns g c =
    let i = c.self.invariant in
    let more : c.in_ok-self-inside.field-0 ≡ c.self.inside.slots + 1 = search rules in
    let slots = c.self.view_is in
    let log : c.new_witness.new.self.log ≡ c.self.inside.keeper.log = ap (λ (k : KeeperState Passage). k.log) c.new_witness.ensures.keeper in (
      fresh_side c.self.inside.slots false c.self.inside.keeper.log _ (ap (λ (w : WitnessState Passage). w.seen) c.new_witness.ensures.witness) i.4 ∙ ap (λ n. new_side n false) slots,
      fresh_side c.self.inside.slots true c.self.inside.keeper.log _ (ap (λ (w : WitnessState Passage). w.seen) c.new_witness-2.ensures.witness ∙ log) i.4 ∙ ap (λ n. new_side n true) slots,
      more ∙ ap (λ n. n + 1) slots,
    )
