use Rattle.gm_laws.proofs.Rests.{asked_for}
use Rattle.gm_laws.proofs.laws.sleepers_asked_for_it.Goals as goal

pub returns : goal.returns
returns c = asked_for
