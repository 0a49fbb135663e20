use Rattle.gm_laws.proofs.StepLaws.{grabs}
use Rattle.gm_laws.proofs.laws.grabs_get_the_pick.Goals as goal

pub returns : goal.returns
returns c = grabs
