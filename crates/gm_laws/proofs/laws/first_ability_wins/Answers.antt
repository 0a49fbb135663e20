use Rattle.gm_laws.proofs.Firsts.{first_wins}
use Rattle.gm_laws.proofs.laws.first_ability_wins.Goals as goal

pub returns : goal.returns
returns c = first_wins
