use Rattle.std.proofs.Common.{◌≡◌, ℕ, ◌<◌, inl, inr, true, slice_get, Option, Some, None, is_some, IfSome, IfNone, refl, sym, ap, subst, ◌∙◌, arith}
use Rattle.std.proofs.lemmas.Bool.{cases_lt}
use Rattle.gm_jobs.specs.Queries.{meets}
use Rattle.gm_jobs.specs.Tables.{find_job, passes, IsNext, IsLast}
use Rattle.gm_jobs.proofs.ListLemmas.{found_at}
use Rattle.gm_jobs.proofs.NumberLemmas.{not_some}
use Rattle.gm_jobs.proofs.HintLemmas.{least_some, least_left, least_right, passes_live}
use Rattle.gm_jobs.proofs.hints.search.Goals as goal
use Rattle.std.proofs.lemmas.Option.{same_Some}
use Rattle.std.proofs.lemmas.Bool.{false_from_ne_true}

pub loop-i-preserved : goal.loop-i-preserved
loop-i-preserved c = record {
  best = λ b e.
      elim (least_some c.loop-i.best c.met_at.result b (sym c.least_of-best.ensures ∙ e)) [
        | inl old ↦ c.loop-i.invariant.best b old
        | inr new ↦ subst (λ (o : Option ℕ). IfSome o (λ n. (c.args.after < n) × (passes (meets c.args.query) (find_job c.args.jobs.now.entries n) ≡ true))) new c.met_at.ensures.met
      ];
  least = λ k n live w at above due.
      elim (cases_lt k c.loop-i.i) [
        | inl before ↦
            let l = c.loop-i.invariant.least k n live before at above due in
            let m = least_left c.loop-i.best c.met_at.result l.0 l.1 in
            (m.0, c.least_of-best.ensures ∙ m.1, let less = l.2 in let least = m.2 in omega arith)
        | inr last ↦
            let same : k ≡ c.loop-i.i = omega arith in
            let m = least_right c.loop-i.best c.met_at.result n (c.met_at.ensures.all n live (ap (slice_get c.args.jobs.now.entries) (sym same) ∙ at) above due) in
            (m.0, c.least_of-best.ensures ∙ m.1, m.2)
      ];
}

pub returns-clause-next : goal.returns-clause-next
returns-clause-next c = by c.loop-i.best refl
  where
    by : (o : Option ℕ) → c.loop-i.best ≡ o → IfSome o (IsNext (meets c.args.query) c.args.after c.args.jobs.now.entries)
    by None e = tt
    by (Some n) e =
        let b = c.loop-i.invariant.best n e in
        record {
          above = b.0;
          found = b.1;
          least = λ m above below. false_from_ne_true _ (λ due.
              let l = passes_live (meets c.args.query) (find_job c.args.jobs.now.entries m) due in
              let at = found_at c.args.jobs.now.entries m l.0 l.1 in
              let r = c.loop-i.invariant.least at.0 m l.0 (omega (arith, at.1, c.len-i-end.ensures.count)) at.2 above l.2 in
              let same = same_Some r.0 n (sym r.1 ∙ e) in
              let less = r.2 in
              omega arith);
        }

pub returns-clause-last : goal.returns-clause-last
returns-clause-last c = by c.loop-i.best refl
  where
    by : (o : Option ℕ) → c.loop-i.best ≡ o → IfNone o (IsLast (meets c.args.query) c.args.after c.args.jobs.now.entries)
    by (Some n) e = tt
    by None e = λ m above. false_from_ne_true _ (λ due.
        let l = passes_live (meets c.args.query) (find_job c.args.jobs.now.entries m) due in
        let at = found_at c.args.jobs.now.entries m l.0 l.1 in
        let r = c.loop-i.invariant.least at.0 m l.0 (omega (arith, at.1, c.len-i-end.ensures.count)) at.2 above l.2 in
        not_some c.loop-i.best e (ap is_some r.1))
