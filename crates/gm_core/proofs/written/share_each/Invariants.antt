use Rattle.std.proofs.Common.{◌≡◌, ◌-◌, Some, length}
use Rattle.std.specs.List.{All}
use Rattle.gm_core.proofs.written.share_each.Given as goal

abbrev pub invariant-loop-count : goal.invariant-loop-count
invariant-loop-count l = All (λ owner. Some l.body ≡ Some owner) l.fn.owners.items → All (λ owner. Some l.body ≡ Some owner) l.owners.items

abbrev pub decreases-loop-count : goal.decreases-loop-count
decreases-loop-count l = l.count - length l.owners.items
