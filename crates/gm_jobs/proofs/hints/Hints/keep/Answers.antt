use Rattle.std.proofs.Common.{◌≡◌, ℕ, true, rules, filter, Contains, sym, subst}
use Rattle.std.specs.List.Sorted.{IsNonDecreasingBy}
use Rattle.std.proofs.lemmas.Fn.{filter_same}
use Rattle.std.proofs.lemmas.List.Kept.{IsNonDecreasingBy-filter}
use Rattle.gm_jobs.specs.Queries.{meets}
use Rattle.gm_jobs.specs.Tables.{find_job, passes}
use Rattle.gm_jobs.specs.Hints.{HintList, KeepsHints}
use Rattle.gm_jobs.proofs.ListLemmas.{Contains-filter}
use Rattle.gm_jobs.proofs.hints.Hints.keep.Goals as goal
use Rattle.gm_jobs.proofs.hints.Hints.keep.Goals.{After-retain}

kept : (c : After-retain) → c.retain.new.self.items ≡ filter (λ n. passes (meets c.args.query) (find_job c.args.jobs.now.entries n)) c.self.inside.numbers.items
kept c = filter_same _ _ _ (λ x b f' k. search rules) _ _ c.retain.ensures.filtered

pub invariant_of-self : goal.invariant_of-self
invariant_of-self c = λ sorted.
    subst (IsNonDecreasingBy (λ (n : ℕ). n)) (sym (kept (goal.at.invariant_of-self c).After-retain))
    (IsNonDecreasingBy-filter (λ (n : ℕ). n) (λ n. passes (meets c.args.query) (find_job c.args.jobs.now.entries n)) c.self.inside.numbers.items (c.self.invariant sorted))

pub returns : goal.returns
returns c =
    subst (λ (old : HintList). KeepsHints (λ n. passes (meets c.args.query) (find_job c.args.jobs.now.entries n) ≡ true) old (record { numbers = c.retain.new.self.items; whole = c.self.inside.whole })) c.self.view_is
    (record {
      whole = λ e. e;
      numbers = λ n met there.
          subst (λ xs. Contains xs n) (sym (kept (goal.at.returns c).After-retain))
          (Contains-filter (λ m. passes (meets c.args.query) (find_job c.args.jobs.now.entries m)) c.self.inside.numbers.items n met there);
    })
