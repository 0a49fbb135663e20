use Rattle.gm_laws.proofs.Grabs.{no_job_no_work}
use Rattle.gm_laws.proofs.laws.no_job_means_no_work.Goals as goal

pub returns : goal.returns
returns c = no_job_no_work
