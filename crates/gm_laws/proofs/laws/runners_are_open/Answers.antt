use Rattle.gm_laws.proofs.Runners.{runners_open}
use Rattle.gm_laws.proofs.laws.runners_are_open.Goals as goal

pub returns : goal.returns
returns c = runners_open
