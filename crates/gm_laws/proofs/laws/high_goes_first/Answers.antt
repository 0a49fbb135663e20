use Rattle.gm_laws.proofs.Orders.{high_first}
use Rattle.gm_laws.proofs.laws.high_goes_first.Goals as goal

pub returns : goal.returns
returns c = high_first
