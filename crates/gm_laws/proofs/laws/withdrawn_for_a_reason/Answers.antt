use Rattle.gm_laws.proofs.Withdrawing.{for_a_reason}
use Rattle.gm_laws.proofs.laws.withdrawn_for_a_reason.Goals as goal

pub returns : goal.returns
returns c = for_a_reason
