use Rattle.gm_notes.specs.Steps.{run}
use Rattle.gm_history.proofs.StepsKeep.{run_history}
use Rattle.gm_laws.proofs.StepLaws.{ends}
use Rattle.gm_laws.proofs.laws.ends_with_its_worker.Goals as goal

pub returns : goal.returns
returns c k steps s = ends k s (run k steps) (run_history k steps)
