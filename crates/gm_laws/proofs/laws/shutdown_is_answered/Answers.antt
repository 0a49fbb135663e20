use Rattle.gm_laws.proofs.Hearers.{shutdowns}
use Rattle.gm_laws.proofs.laws.shutdown_is_answered.Goals as goal

pub returns : goal.returns
returns c = shutdowns
