use Rattle.std.proofs.Common.{◌≡◌, [], ap, length, drop, arith}
use Rattle.std.proofs.Math.ListN.{drop_of_length-le}
use Rattle.std.specs.List.{sum}
use Rattle.gm_shared.proofs.openings.Openings.total.Goals as goal

pub returns : goal.returns
returns c =
    let none : drop c.loop-count.count-index c.args.self.now ≡ [] = drop_of_length-le c.args.self.now (omega (arith, c.loop-count-test.false, ap length c.deref-count-items.ensures.value, ap length c.self.view_is)) in
    omega (arith, ap sum none, c.loop-count.invariant.left, c.loop-count.invariant.few)
