use Rattle.std.proofs.Common.{inl, inr, refl, sym, subst}
use Rattle.gm_jobs.specs.Live.{reported}
use Rattle.gm_jobs.specs.Kept.{IsKept}
use Rattle.gm_jobs.proofs.HintLemmas.{reported_found}
use Rattle.gm_jobs.proofs.JobLemmas.{beside, kept_changed, listed_changed, listed_of}
use Rattle.gm_jobs.proofs.NumberLemmas.{either}
use Rattle.gm_jobs.proofs.jobs.Jobs.report.Goals as goal

pub invariant_of-self : goal.invariant_of-self
invariant_of-self c =
    let t = c.self.inside in
    elim (either c.change.result c.change.ensures.ok c.change.ensures.err) [
      | inl change ↦
          kept_changed (beside t) c.args.n (reported c.args.numerator.now c.args.denominator.now) t.jobs.entries c.change.new.self.entries t.index t.deadlines t.reservation _ _ c.self.invariant change
          (λ l. refl) (λ l. refl) c.change.ensures.room (λ q m s h. h) (λ q l at met. reported_found t.index c.args.n c.args.numerator.now c.args.denominator.now q l met)
          (listed_changed c.args.n (reported c.args.numerator.now c.args.denominator.now) t.jobs.entries c.change.new.self.entries t.deadlines change (listed_of (beside t) t.jobs.entries t.reservation _ c.self.invariant) (λ l h. h))
      | inr same ↦
          subst (λ es. IsKept (beside t) t.reservation c.change.new.self.room es) (sym same) (subst (λ s. IsKept (beside t) t.reservation s t.jobs.entries) (sym c.change.ensures.room) c.self.invariant)
    ]
