use Rattle.std.proofs.Common.{refl}
use Rattle.gm_jobs.specs.Live.{kept}
use Rattle.gm_jobs.proofs.HintLemmas.{kept_found}
use Rattle.gm_jobs.proofs.JobLemmas.{beside, kept_changed, listed_changed, listed_of}
use Rattle.gm_jobs.proofs.jobs.Jobs.keep.Goals as goal

pub invariant_of-self : goal.invariant_of-self
invariant_of-self c =
    let t = c.self.inside in
    kept_changed (beside t) c.args.n kept t.jobs.entries c.change-changed.new.self.entries t.index t.deadlines t.reservation _ _ c.self.invariant (c.change-changed.ensures.free refl) (λ l. refl) (λ l. refl) c.change-changed.ensures.room
    (λ q m s h. h) (λ q l at met. kept_found t.index c.args.n q l met)
    (listed_changed c.args.n kept t.jobs.entries c.change-changed.new.self.entries t.deadlines (c.change-changed.ensures.free refl) (listed_of (beside t) t.jobs.entries t.reservation _ c.self.invariant) (λ l h. h))
