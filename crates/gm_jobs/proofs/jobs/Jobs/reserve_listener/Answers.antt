use Rattle.gm_jobs.proofs.JobLemmas.{beside, kept_roomy}
use Rattle.gm_jobs.proofs.jobs.Jobs.reserve_listener.Goals as goal

pub invariant_of-self : goal.invariant_of-self
invariant_of-self c = kept_roomy (beside c.self.inside) c.self.inside.jobs.entries c.reserve.new.self c.self.inside.reservation _ c.self.invariant c.reserve.ensures
