use Rattle.gm_notes.specs.Steps.{run}
use Rattle.gm_history.proofs.StepsKeep.{run_history}
use Rattle.gm_laws.proofs.Retries.{not_twice}
use Rattle.gm_laws.proofs.laws.no_job_is_lost_twice.Goals as goal

pub returns : goal.returns
returns c k steps = not_twice k (run k steps).notes (run_history k steps)
