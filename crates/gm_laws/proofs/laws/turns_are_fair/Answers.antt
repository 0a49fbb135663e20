use Rattle.gm_laws.proofs.TurnLaws.{fair}
use Rattle.gm_laws.proofs.laws.turns_are_fair.Goals as goal

pub returns : goal.returns
returns c = fair
