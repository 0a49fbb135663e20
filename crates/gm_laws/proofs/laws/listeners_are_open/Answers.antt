use Rattle.gm_notes.specs.Steps.{run}
use Rattle.gm_history.proofs.StepsKeep.{run_history}
use Rattle.gm_history.proofs.Listeners.{listeners_open}
use Rattle.gm_laws.proofs.laws.listeners_are_open.Goals as goal

pub returns : goal.returns
returns c k steps = listeners_open k (run k steps).notes (run_history k steps)
