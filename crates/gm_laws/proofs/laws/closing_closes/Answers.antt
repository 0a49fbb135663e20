use Rattle.gm_laws.proofs.Parting.{closing_closes}
use Rattle.gm_laws.proofs.laws.closing_closes.Goals as goal

pub returns : goal.returns
returns c = closing_closes
