use Rattle.gm_shared.proofs.Standing.{own_are_whole}
use Rattle.gm_shared.proofs.laws.own_calls_are_whole.Goals as goal

pub returns : goal.returns
returns c = own_are_whole
