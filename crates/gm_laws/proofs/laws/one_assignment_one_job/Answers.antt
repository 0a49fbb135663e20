use Rattle.gm_laws.proofs.Assigning.{one_assignment}
use Rattle.gm_laws.proofs.laws.one_assignment_one_job.Goals as goal

pub returns : goal.returns
returns c = one_assignment
