use Rattle.gm_laws.proofs.Orders.{first_served}
use Rattle.gm_laws.proofs.laws.first_come_first_served.Goals as goal

pub returns : goal.returns
returns c = first_served
