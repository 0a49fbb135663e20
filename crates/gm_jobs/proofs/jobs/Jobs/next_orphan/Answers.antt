use Rattle.gm_jobs.proofs.JobLemmas.{beside, kept_index}
use Rattle.gm_jobs.proofs.jobs.Jobs.next_orphan.Goals as goal

pub invariant_of-self : goal.invariant_of-self
invariant_of-self c = kept_index (beside c.self.inside) c.self.inside.jobs.entries c.next_orphan.new.self c.self.inside.reservation _ c.self.invariant c.next_orphan.ensures.kept
