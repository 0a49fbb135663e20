use Rattle.std.proofs.Common.{arith}
use Rattle.gm_plain.proofs.Dues.{nothing_due}
use Rattle.gm_plain.proofs.log.Log.new.Goals as goal

pub invariant_of-result : goal.invariant_of-result
invariant_of-result c = rw c.new.ensures.items (nothing_due c.args.slots c.args.first (let fits = c.ranges.first.fits in omega arith), omega arith)
