use Rattle.std.proofs.Common.{◌≡◌, ◌<◌}
use Rattle.gm_delivery.proofs.lane.Lane.deliver_claimed.Given as goal

abbrev pub invariant-loop-delivered : goal.invariant-loop-delivered
invariant-loop-delivered g l = record {
  same : record l.claim { attempts = l.fn.claim.attempts } ≡ l.fn.claim;
  left : 0 < l.attempts_left;
}

abbrev pub decreases-loop-delivered : goal.decreases-loop-delivered
decreases-loop-delivered g l = l.attempts_left
