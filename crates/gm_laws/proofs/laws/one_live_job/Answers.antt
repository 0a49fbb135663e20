use Rattle.gm_history.proofs.StepsKeep.{run_history}
use Rattle.gm_laws.proofs.JobLaws.{one_live as law}
use Rattle.gm_notes.specs.Steps.{run}
use Rattle.gm_laws.proofs.laws.one_live_job.Goals as goal

pub returns : goal.returns
returns c k steps = law k (run k steps).notes (run_history k steps)
