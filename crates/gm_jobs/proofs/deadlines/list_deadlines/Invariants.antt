use Rattle.std.proofs.Common.{◌≡◌, ℕ, ◌<◌, slice_get, Some}
use Rattle.gm_jobs.specs.Live.{Live}
use Rattle.gm_jobs.specs.MinHeap.{Has}
use Rattle.gm_jobs.proofs.deadlines.list_deadlines.Given as goal

abbrev pub invariant-loop-i : goal.invariant-loop-i
invariant-loop-i l = (k n d : ℕ) (live : Live) → k < l.i → slice_get l.jobs.entries k ≡ Some (n, live) → live.deadline ≡ Some d → Has l.heap d n
