use Rattle.gm_feeder.proofs.StreamLemmas.{fault-hopeless, hopeless-fault, waits-goes_on}
use Rattle.gm_feeder.proofs.laws.fault_where_no_unit_can_come.Goals as goal

pub returns : goal.returns
returns c = record { hopeless = fault-hopeless; faulty = hopeless-fault; waits = waits-goes_on }
