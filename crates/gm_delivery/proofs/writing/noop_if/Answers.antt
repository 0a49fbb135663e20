use Rattle.std.proofs.Common.{refl}
use Rattle.gm_packet.specs.Packets.{packet}
use Rattle.gm_delivery.proofs.writing.noop_if.Goals as goal

pub returns-then-took : goal.returns-then-took
unfolding packet
returns-then-took c = rw c.if-took.true refl
