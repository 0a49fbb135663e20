use Rattle.std.proofs.Common.{◌≡◌, ◌<◌, ℕ, true, false, List, length, slice_index_or, sym, ap, subst, ◌∙◌, arith}
use Rattle.std.specs.List.Sorted.{IsNonDecreasingBy}
use Rattle.std.proofs.lemmas.Bool.{false≢true}
use Rattle.std.proofs.lemmas.Bool.Decides.{nat_tests}
use Rattle.std.proofs.lemmas.List.{get_or_default}
use Rattle.gm_jobs.specs.declared.hints.Hints.TheInside.{Inside}
use Rattle.gm_jobs.specs.Queries.{meets}
use Rattle.gm_jobs.specs.Tables.{find_job, passes}
use Rattle.gm_jobs.specs.Hints.{HintList, KeepsHints}
use Rattle.gm_jobs.proofs.HintLemmas.{not_met}
use Rattle.gm_jobs.proofs.hints.Hints.next.Goals as goal
use Rattle.gm_jobs.proofs.hints.Hints.next.Goals.{After-start-i}
use Rattle.std.proofs.lemmas.Bool.{false_from_ne_true}

module _ (c : After-start-i) where
  abbrev numbers : List ℕ
  numbers = c.self-2.inside.numbers.items

  rises : IsNonDecreasingBy (λ n. n) numbers
  rises = subst (IsNonDecreasingBy (λ n. n)) (sym (ap (λ (h : HintList). h.numbers) c.self-2.view_is)) c.sort.ensures.sorted

  sorted : KeepsHints (λ n. Unit {0}) c.args.self.now (record { numbers = numbers; whole = c.self-2.inside.whole })
  sorted = subst (λ (h : HintList). KeepsHints (λ n. Unit {0}) c.args.self.now h) (sym c.self-2.view_is) c.sort.ensures.kept

  -- no other job above `after` and before this index is met
  none : (i : ℕ) → ((k : ℕ) → k < i → c.args.after < slice_index_or numbers k 0 → passes (meets c.args.query) (find_job c.args.jobs.now.entries (slice_index_or numbers k 0)) ≡ false)
      → (m : ℕ) → c.args.after < m → (i < length numbers → m < slice_index_or numbers i 0) → passes (meets c.args.query) (find_job c.args.jobs.now.entries m) ≡ false
  none i before m above below = false_from_ne_true _ (λ met.
      let whole = ap (λ (h : HintList). h.whole) (sym c.self.view_is) ∙ c.if-not-self.false in
      false≢true (sym (not_met (meets c.args.query) c.args.jobs.now.entries numbers c.args.after i rises before m (sorted.numbers m tt (c.requires m met whole)) above below) ∙ met))

pub invariant_of-self : goal.invariant_of-self
invariant_of-self c =
    subst (λ (s : Inside). s.sorted ≡ true → IsNonDecreasingBy (λ n. n) s.numbers.items) (sym c.loop-i.invariant.same) (λ _. rises (goal.at.invariant_of-self c).After-start-i)

pub invariant_of-self-then-is_met : goal.invariant_of-self-then-is_met
invariant_of-self-then-is_met c =
    subst (λ (s : Inside). s.sorted ≡ true → IsNonDecreasingBy (λ n. n) s.numbers.items) (sym c.loop-i.invariant.same) (λ _. rises (goal.at.invariant_of-self-then-is_met c).After-start-i)

pub returns-then-is_met-clause-next : goal.returns-then-is_met-clause-next
returns-then-is_met-clause-next c = record {
  above = grind (arith, nat_tests);
  found = sym c.is_met.ensures ∙ c.if-is_met.true;
  least = λ m above below. none (goal.at.returns-then-is_met-clause-next c).After-start-i c.loop-i.i c.loop-i.invariant.none m above (λ w.
      subst (λ x. m < x) (c.index-number.ensures ∙ ap (λ (s : Inside). slice_index_or s.numbers.items c.loop-i.i c.index-number.result.now) c.loop-i.invariant.same ∙ sym (get_or_default _ c.loop-i.i 0 c.index-number.result.now w)) below);
}

pub returns-then-is_met-clause-kept : goal.returns-then-is_met-clause-kept
returns-then-is_met-clause-kept c =
    subst (λ (s : Inside). KeepsHints (λ n. passes (meets c.args.rest) (find_job c.args.jobs.now.entries n) ≡ true) c.args.self.now (record { numbers = s.numbers.items; whole = s.whole })) (sym c.loop-i.invariant.same)
    (let before = sorted (goal.at.returns-then-is_met-clause-kept c).After-start-i in record { whole = before.whole; numbers = λ n stays there. before.numbers n tt there })

pub returns-clause-last : goal.returns-clause-last
returns-clause-last c = λ m above. none (goal.at.returns-clause-last c).After-start-i c.loop-i.i c.loop-i.invariant.none m above (λ w. absurd (omega arith))

pub returns-clause-kept : goal.returns-clause-kept
returns-clause-kept c =
    let before = sorted (goal.at.returns-clause-kept c).After-start-i in
    let keeps =
    subst (λ (s : Inside). KeepsHints (λ n. passes (meets c.args.rest) (find_job c.args.jobs.now.entries n) ≡ true) (record { numbers = s.numbers.items; whole = s.whole }) c.keep.new.self) c.loop-i.invariant.same c.keep.ensures in
    record { whole = λ e. before.whole (keeps.whole e); numbers = λ n stays there. keeps.numbers n stays (before.numbers n tt there) }
