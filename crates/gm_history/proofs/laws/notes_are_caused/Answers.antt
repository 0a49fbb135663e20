use Rattle.gm_notes.specs.Steps.{run}
use Rattle.gm_history.proofs.StepsKeep.{run_history}
use Rattle.gm_history.proofs.Caused.{caused}
use Rattle.gm_history.proofs.laws.notes_are_caused.Goals as goal

pub returns : goal.returns
returns c k steps s = caused k s (run k steps) (run_history k steps)
