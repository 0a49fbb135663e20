use Rattle.gm_laws.proofs.Raised.{exceptions_end}
use Rattle.gm_laws.proofs.laws.exceptions_end_jobs.Goals as goal

pub returns : goal.returns
returns c = exceptions_end
