use Rattle.gm_jobs.proofs.JobLemmas.{beside, kept_ended}
use Rattle.std.proofs.Common.{arith}
use Rattle.gm_jobs.proofs.jobs.Jobs.end.Goals as goal

pub invariant_of-self : goal.invariant_of-self
invariant_of-self c =
    let t = c.self.inside in
    kept_ended (beside t) c.args.n t.jobs.entries c.remove.new.self.entries t.uniques t.reservation _ _ c.self.invariant c.remove.ensures.jobs c.remove.ensures.room (λ d m ne leads. leads) (omega arith)

pub invariant_of-self-2 : goal.invariant_of-self-2
invariant_of-self-2 c =
    let t = c.self.inside in
    kept_ended (beside t) c.args.n t.jobs.entries c.remove.new.self.entries c.remove-2.new.self t.reservation _ _ c.self.invariant c.remove.ensures.jobs c.remove.ensures.room c.remove-2.ensures.kept c.remove-2.ensures.room
