use Rattle.gm_front.proofs.Reading.{alike}
use Rattle.gm_front.proofs.laws.grabs_are_alike.Goals as goal

pub returns : goal.returns
returns c = alike
