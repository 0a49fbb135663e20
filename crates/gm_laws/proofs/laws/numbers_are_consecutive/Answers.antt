use Rattle.gm_history.proofs.StepsKeep.{run_history}
use Rattle.gm_laws.proofs.NumberLaws.{numbers as law}
use Rattle.gm_notes.specs.Steps.{run}
use Rattle.gm_laws.proofs.laws.numbers_are_consecutive.Goals as goal

pub returns : goal.returns
returns c k steps = law k (run k steps).notes (run_history k steps)
