use Rattle.std.proofs.Common.{arith}
use Rattle.gm_packet.proofs.Joins.{room_more, no_text}
use Rattle.gm_packet.proofs.writing.put_tail.Goals as goal

pub put-requires : goal.put-requires
put-requires c = omega (arith, room_more c.args.rest.now c.loop-text.text-index no_text c.loop-text-test.true, c.loop-text.invariant.room)

pub push_reserved-requires : goal.push_reserved-requires
push_reserved-requires c = omega (arith, room_more c.args.rest.now c.loop-text.text-index no_text c.loop-text-test.true, c.loop-text.invariant.room)
