use Rattle.gm_laws.proofs.Hearers.{exceptions}
use Rattle.gm_laws.proofs.laws.exceptions_are_passed_on.Goals as goal

pub returns : goal.returns
returns c = exceptions
