use Rattle.std.proofs.Common.{ℕ, rules, subst}
use Rattle.std.proofs.lemmas.List.Sorted.{IsNonDecreasingBy-from_sort_by_key, Contains-permutation}
use Rattle.gm_jobs.specs.Hints.{HintList, KeepsHints}
use Rattle.gm_jobs.proofs.hints.Hints.sort.Goals as goal

pub invariant_of-self : goal.invariant_of-self
invariant_of-self c = λ _. IsNonDecreasingBy-from_sort_by_key (λ (n : ℕ). n) _ c.sort_unstable_by_key.ensures.sorted (λ a r q k. search rules)

pub returns-then-not-self-clause-kept : goal.returns-then-not-self-clause-kept
returns-then-not-self-clause-kept c =
    subst (λ (old : HintList). KeepsHints (λ n. Unit {0}) old (record { numbers = c.sort_unstable_by_key.new.self.items; whole = c.self.inside.whole })) c.self.view_is
    (record { whole = λ e. e; numbers = λ n _ there. Contains-permutation _ _ n c.sort_unstable_by_key.ensures.permutation there })

pub returns-then-not-self-clause-sorted : goal.returns-then-not-self-clause-sorted
returns-then-not-self-clause-sorted c = IsNonDecreasingBy-from_sort_by_key (λ (n : ℕ). n) _ c.sort_unstable_by_key.ensures.sorted (λ a r q k. search rules)
