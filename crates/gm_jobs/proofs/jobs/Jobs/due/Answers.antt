use Rattle.gm_jobs.proofs.JobLemmas.{beside, kept_deadlines, listed_of}
use Rattle.gm_jobs.proofs.jobs.Jobs.due.Goals as goal

pub next-requires : goal.next-requires
next-requires c = listed_of (beside c.self.inside) c.self.inside.jobs.entries c.self.inside.reservation _ c.self.invariant

pub invariant_of-self : goal.invariant_of-self
invariant_of-self c = kept_deadlines (beside c.self.inside) c.self.inside.jobs.entries c.next.new.self c.self.inside.reservation _ c.self.invariant c.next.ensures.listed
