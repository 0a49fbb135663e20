use Rattle.gm_laws.proofs.Shut.{shut_has_its_reason}
use Rattle.gm_laws.proofs.laws.shut_has_its_reason.Goals as goal

pub returns : goal.returns
returns c = shut_has_its_reason
