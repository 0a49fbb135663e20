use Rattle.gm_laws.proofs.Wakes.{wakes}
use Rattle.gm_laws.proofs.laws.wakes_have_work.Goals as goal

pub returns : goal.returns
returns c = wakes
