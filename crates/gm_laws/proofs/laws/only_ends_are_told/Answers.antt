use Rattle.gm_laws.proofs.OnlyEnds.{only_ends}
use Rattle.gm_laws.proofs.laws.only_ends_are_told.Goals as goal

pub returns : goal.returns
returns c k steps s = only_ends k s steps
