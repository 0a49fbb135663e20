use Rattle.gm_packet.proofs.ReadBack.{one_reading}
use Rattle.gm_packet.proofs.laws.one_reading.Goals as goal

pub returns : goal.returns
returns c = one_reading
