use Rattle.gm_notes.specs.Steps.{run}
use Rattle.gm_history.proofs.StepsKeep.{run_history}
use Rattle.gm_history.proofs.Bytes.{run_sent}
use Rattle.gm_laws.proofs.ByteLaws.{only_drains}
use Rattle.gm_laws.proofs.laws.only_drains_take.Goals as goal

pub returns : goal.returns
returns c k steps s = only_drains k s (run k steps) (run_history k steps) (run_sent k steps)
