use Rattle.gm_history.proofs.Phases.{sleepers_open}
use Rattle.gm_history.proofs.laws.sleepers_are_open.Goals as goal

pub returns : goal.returns
returns c = sleepers_open
