use Rattle.gm_laws.proofs.Spelled.{lines_spelled}
use Rattle.gm_laws.proofs.laws.lines_are_spelled.Goals as goal

pub returns : goal.returns
returns c = lines_spelled
