use Rattle.gm_feeder.proofs.StreamLemmas.{unit_not_empty}
use Rattle.gm_feeder.proofs.laws.no_unit_is_empty.Goals as goal

pub returns : goal.returns
returns c = unit_not_empty
