use Rattle.gm_slots.proofs.Lives.{are_served}
use Rattle.gm_promise.proofs.laws.connections_are_served.Goals as goal

pub returns : goal.returns
returns c = are_served
