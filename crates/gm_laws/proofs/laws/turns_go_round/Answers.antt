use Rattle.gm_laws.proofs.Rounds.{go_round}
use Rattle.gm_laws.proofs.laws.turns_go_round.Goals as goal

pub returns : goal.returns
returns c = go_round
