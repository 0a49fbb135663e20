use Rattle.gm_play.proofs.Hex.{goes_on}
use Rattle.gm_play.proofs.order.hex_bytes.Goals as goal

pub loop-high-preserved : goal.loop-high-preserved
loop-high-preserved c =
    rw c.in_ok-push.ensures.items
    (goes_on c.args.text.now c.loop-high.bytes.items c.loop-high.rest.now c.in-Some.after.now c.in-Some.high c.in-Some.low c.in-Some-byte_of.byte c.loop-high.invariant (c.in-Some.ensures) (c.in-Some-byte_of.ensures))
