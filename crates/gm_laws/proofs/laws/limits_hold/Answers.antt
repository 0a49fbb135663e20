use Rattle.gm_laws.proofs.Limits.{limits}
use Rattle.gm_laws.proofs.laws.limits_hold.Goals as goal

pub returns : goal.returns
returns c = limits
