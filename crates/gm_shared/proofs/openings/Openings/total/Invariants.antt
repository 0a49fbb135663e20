use Rattle.std.proofs.Common.{◌≡◌, ◌+◌, ◌≤◌, drop}
use Rattle.std.specs.List.{sum}
use Rattle.gm_shared.specs.Openings.{counted, most_openings, total_of}
use Rattle.gm_shared.proofs.openings.Openings.total.Given as goal

abbrev pub invariant-loop-count : goal.invariant-loop-count
invariant-loop-count l = record { left : counted (l.total + sum (drop l.count-index l.fn.self)) ≡ total_of l.fn.self; few : l.total ≤ most_openings }
