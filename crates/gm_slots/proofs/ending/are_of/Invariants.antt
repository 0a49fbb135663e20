use Rattle.std.proofs.Common.{drop}
use Rattle.gm_slots.proofs.Owning.{Alike}
use Rattle.gm_slots.proofs.ending.are_of.Given as goal

abbrev pub invariant-loop-share : goal.invariant-loop-share
invariant-loop-share l = Alike l.fn.shares (drop l.share-index l.fn.shares) l.fn.actors l.rest
