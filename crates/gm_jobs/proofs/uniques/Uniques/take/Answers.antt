use Rattle.std.proofs.Common.{◌≡◌, true, not, ◌==◌, inl, inr, rules, filter, Contains, sym, subst, arith}
use Rattle.std.proofs.lemmas.Fn.{filter_same}
use Rattle.std.proofs.lemmas.Bool.Decides.{nat_tests}
use Rattle.gm_jobs.specs.Uniques.{IdTable, LeadsTo}
use Rattle.gm_jobs.proofs.ListLemmas.{Contains-filter}
use Rattle.gm_jobs.proofs.uniques.Uniques.take.Goals as goal

pub returns-else-is_first-clause-kept : goal.returns-else-is_first-clause-kept
returns-else-is_first-clause-kept c = λ d n ne led.
    let kept : c.retain.new.self.items ≡ filter (λ m. not (m == c.args.number)) c.self.inside.clashes.items = filter_same _ _ _ (λ x b f' k. search rules) _ _ c.retain.ensures.filtered in
    let other : not (n == c.args.number) ≡ true = grind (arith, nat_tests) in
    elim (subst (λ (ids : IdTable). LeadsTo ids d n) (sym c.self.view_is) led) [
      | inl there ↦ inl there
      | inr clash ↦ inr (subst (λ xs. Contains xs n) (sym kept) (Contains-filter (λ m. not (m == c.args.number)) c.self.inside.clashes.items n other clash))
    ]
