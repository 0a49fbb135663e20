use Rattle.gm_notes.specs.Steps.{run}
use Rattle.gm_history.proofs.StepsKeep.{run_history}
use Rattle.gm_laws.proofs.StepLaws.{stays_home}
use Rattle.gm_laws.proofs.laws.answers_stay_home.Goals as goal

pub returns : goal.returns
returns c k steps s = stays_home k s (run k steps) (run_history k steps)
