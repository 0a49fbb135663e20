use Rattle.std.proofs.Common.{arith}
use Rattle.gm_packet.proofs.Joins.{whole_is, whole_len, two_parts, no_text}
use Rattle.gm_packet.proofs.writing.put_data.Goals as goal

pub put_tail-requires : goal.put_tail-requires
put_tail-requires c = omega (arith, whole_len c.args.texts.now no_text c.in-len1-up.len_at_least, c.put.ensures.len, c.put.ensures.capacity, c.requires)

pub returns-in-len1-up : goal.returns-in-len1-up
returns-in-len1-up c = record {
  items = two_parts _ _ _ _ _ _ c.put.ensures.items c.put_tail.ensures.items (whole_is c.args.texts.now no_text c.in-len1-up.len_at_least);
}
