use Rattle.gm_notes.specs.Steps.{run}
use Rattle.gm_history.proofs.StepsKeep.{run_history}
use Rattle.gm_laws.proofs.StepLaws.{gives}
use Rattle.gm_laws.proofs.laws.gives_the_pick.Goals as goal

pub returns : goal.returns
returns c k steps s = gives k s (run k steps) (run_history k steps)
