use Rattle.gm_packet.proofs.Packets.{no_packet_begins_another}
use Rattle.gm_packet.proofs.laws.no_packet_begins_another.Goals as goal

pub returns : goal.returns
returns c = no_packet_begins_another
