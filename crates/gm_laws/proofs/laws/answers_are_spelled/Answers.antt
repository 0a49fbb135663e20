use Rattle.gm_laws.proofs.Spelled.{spelled}
use Rattle.gm_laws.proofs.laws.answers_are_spelled.Goals as goal

pub returns : goal.returns
returns c = spelled
