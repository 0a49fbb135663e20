use Rattle.std.proofs.Common.{length}
use Rattle.gm_play.proofs.Hex.{Reading}
use Rattle.gm_play.proofs.order.hex_bytes.Given as goal

abbrev pub invariant-loop-high : goal.invariant-loop-high
invariant-loop-high l = Reading l.fn.text l.bytes.items l.rest

abbrev pub decreases-loop-high : goal.decreases-loop-high
decreases-loop-high l = length l.rest
