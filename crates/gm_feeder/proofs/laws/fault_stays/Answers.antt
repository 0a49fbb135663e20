use Rattle.gm_feeder.proofs.StreamLemmas.{fault_stays}
use Rattle.gm_feeder.proofs.laws.fault_stays.Goals as goal

pub returns : goal.returns
returns c = fault_stays
