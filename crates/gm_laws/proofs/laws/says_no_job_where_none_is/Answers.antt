use Rattle.gm_notes.specs.Steps.{run}
use Rattle.gm_history.proofs.StepsKeep.{run_history}
use Rattle.gm_laws.proofs.StepLaws.{says_no_job}
use Rattle.gm_laws.proofs.laws.says_no_job_where_none_is.Goals as goal

pub returns : goal.returns
returns c k steps s = says_no_job k s (run k steps) (run_history k steps)
