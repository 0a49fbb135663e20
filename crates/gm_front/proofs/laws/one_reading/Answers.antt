use Rattle.gm_front.proofs.OneReading.{one_reading}
use Rattle.gm_front.proofs.laws.one_reading.Goals as goal

pub returns : goal.returns
returns c = one_reading
