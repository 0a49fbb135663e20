use Rattle.gm_packet.proofs.Joins.{twelve_bytes}
use Rattle.gm_packet.proofs.writing.header.Goals as goal

pub returns : goal.returns
returns c = twelve_bytes c.args.magic.now c.to_be_bytes.result c.to_be_bytes-2.result c.args.kind c.args.size c.told-magic c.to_be_bytes.ensures c.to_be_bytes-2.ensures
