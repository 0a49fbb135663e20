use Rattle.gm_laws.proofs.Statuses.{status_true}
use Rattle.gm_laws.proofs.laws.status_is_true.Goals as goal

pub returns : goal.returns
returns c = status_true
