use Rattle.gm_feeder.proofs.StreamLemmas.{one_unit}
use Rattle.gm_feeder.proofs.laws.no_unit_begins_another.Goals as goal

pub returns : goal.returns
returns c = one_unit
