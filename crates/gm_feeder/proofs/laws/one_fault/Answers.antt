use Rattle.gm_feeder.proofs.StreamLemmas.{one_fault, fault-begins_no_unit, waits-no_fault}
use Rattle.gm_feeder.proofs.laws.one_fault.Goals as goal

pub returns : goal.returns
returns c = record { one = one_fault; no_unit = fault-begins_no_unit; none = waits-no_fault }
