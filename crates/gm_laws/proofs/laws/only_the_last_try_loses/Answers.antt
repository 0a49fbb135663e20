use Rattle.gm_notes.specs.Steps.{run}
use Rattle.gm_history.proofs.StepsKeep.{run_history}
use Rattle.gm_laws.proofs.Retries.{only_last}
use Rattle.gm_laws.proofs.laws.only_the_last_try_loses.Goals as goal

pub returns : goal.returns
returns c k steps = only_last k (run k steps).notes (run_history k steps)
