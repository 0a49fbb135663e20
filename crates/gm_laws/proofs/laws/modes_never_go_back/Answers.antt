use Rattle.gm_laws.proofs.Modes.{modes}
use Rattle.gm_laws.proofs.laws.modes_never_go_back.Goals as goal

pub returns : goal.returns
returns c = modes
