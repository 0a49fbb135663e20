use Rattle.gm_notes.specs.Steps.{run}
use Rattle.gm_history.proofs.StepsKeep.{run_history}
use Rattle.gm_laws.proofs.Retries.{no_more_often}
use Rattle.gm_laws.proofs.laws.no_job_is_handed_out_more_often.Goals as goal

pub returns : goal.returns
returns c k steps = no_more_often k (run k steps).notes (run_history k steps)
