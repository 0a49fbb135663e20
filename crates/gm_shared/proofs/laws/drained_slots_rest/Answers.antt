use Rattle.gm_shared.proofs.Resting.{drained_rest}
use Rattle.gm_shared.proofs.laws.drained_slots_rest.Goals as goal

pub returns : goal.returns
returns c = drained_rest
