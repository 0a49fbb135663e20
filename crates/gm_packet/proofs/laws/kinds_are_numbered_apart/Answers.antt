use Rattle.gm_packet.proofs.ReadBack.{kinds_are_numbered_apart}
use Rattle.gm_packet.proofs.laws.kinds_are_numbered_apart.Goals as goal

pub returns : goal.returns
returns c = kinds_are_numbered_apart
