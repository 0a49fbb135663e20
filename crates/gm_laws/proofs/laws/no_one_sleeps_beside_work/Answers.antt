use Rattle.gm_laws.proofs.Sleepers.{none_sleeps}
use Rattle.gm_laws.proofs.laws.no_one_sleeps_beside_work.Goals as goal

pub returns : goal.returns
returns c = none_sleeps
