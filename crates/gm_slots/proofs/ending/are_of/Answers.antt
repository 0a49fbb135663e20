use Rattle.std.proofs.Common.{sym}
use Rattle.gm_slots.proofs.Owning.{next_share, alike_next, not_alike}
use Rattle.gm_slots.proofs.ending.are_of.Goals as goal

pub returns-then-not-is : goal.returns-then-not-is
returns-then-not-is c =
    not_alike _ _ _ _ _ _ _ _ c.loop-share.invariant (next_share _ _ _ c.loop-share-test.true c.share-item.is) c.in-Some.ensures.cases.0 (sym c.if-not-is.ensures)

pub loop-share-preserved : goal.loop-share-preserved
loop-share-preserved c =
    alike_next _ _ _ _ _ _ _ _ c.loop-share.invariant (next_share _ _ _ c.loop-share-test.true c.share-item.is) c.in-Some.ensures.cases.0 (sym c.if-not-is.ensures)
