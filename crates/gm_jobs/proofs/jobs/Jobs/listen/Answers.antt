use Rattle.std.proofs.Common.{inl, inr, ℕ, IsSome, refl, sym, subst}
use Rattle.gm_jobs.specs.declared.job.Query.{Query}
use Rattle.gm_jobs.specs.Live.{with_listener}
use Rattle.gm_jobs.specs.Tables.{find_job}
use Rattle.gm_jobs.specs.Hints.{IsHinted, hints_of}
use Rattle.gm_jobs.specs.Kept.{IsKept}
use Rattle.gm_jobs.proofs.HintLemmas.{heard_found}
use Rattle.gm_jobs.proofs.JobLemmas.{beside, kept_changed, kept_roomy, listed_changed, listed_of}
use Rattle.gm_jobs.proofs.NumberLemmas.{either}
use Rattle.gm_jobs.proofs.jobs.Jobs.listen.Goals as goal
use Rattle.gm_jobs.proofs.jobs.Jobs.listen.Goals.{After-put}

pub invariant_of-self : goal.invariant_of-self
invariant_of-self c =
    let t = c.self.inside in
    kept_roomy (beside t) t.jobs.entries c.reserve.new.self t.reservation _ c.self.invariant c.reserve.ensures

more : (c : After-put) (q : Query) (m : ℕ) → IsSome (find_job c.self.inside.jobs.entries m) → IsHinted (hints_of c.self.inside.index q) m → IsHinted (hints_of c.put.new.self q) m
more c q m live h = c.put.ensures.kept q m (c.reserve.ensures q m live h)

pub invariant_of-self-2 : goal.invariant_of-self-2
invariant_of-self-2 c =
    let d = (goal.at.invariant_of-self-2 c).After-put in
    let t = c.self.inside in
    elim (either c.change.result c.change.ensures.ok c.change.ensures.err) [
      | inl change ↦
          kept_changed (beside t) c.args.n (with_listener c.args.slot) t.jobs.entries c.change.new.self.entries c.put.new.self t.deadlines t.reservation _ _ c.self.invariant change
          (λ l. refl) (λ l. refl) c.change.ensures.room (more d) (λ q l at met. heard_found c.put.new.self c.args.n c.args.slot c.put.ensures.stands q l met)
          (listed_changed c.args.n (with_listener c.args.slot) t.jobs.entries c.change.new.self.entries t.deadlines change (listed_of (beside t) t.jobs.entries t.reservation _ c.self.invariant) (λ l h. h))
      | inr same ↦
          subst (λ es. IsKept (record (beside t) { index = c.put.new.self }) t.reservation c.change.new.self.room es) (sym same)
          (subst (λ s. IsKept (record (beside t) { index = c.put.new.self }) t.reservation s t.jobs.entries) (sym c.change.ensures.room) (kept_roomy (beside t) t.jobs.entries c.put.new.self t.reservation _ c.self.invariant (more d)))
    ]
