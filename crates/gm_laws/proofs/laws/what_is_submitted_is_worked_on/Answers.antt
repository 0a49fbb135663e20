use Rattle.gm_laws.proofs.Submitted.{worked_on}
use Rattle.gm_laws.proofs.laws.what_is_submitted_is_worked_on.Goals as goal

pub returns : goal.returns
returns c = worked_on
