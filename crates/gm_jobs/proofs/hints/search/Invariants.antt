use Rattle.std.proofs.Common.{◌≡◌, ℕ, ◌<◌, ◌≤◌, true, slice_get, Some}
use Rattle.gm_jobs.specs.Live.{Live}
use Rattle.gm_jobs.specs.Queries.{meets}
use Rattle.gm_jobs.specs.Tables.{find_job, passes}
use Rattle.gm_jobs.proofs.hints.search.Given as goal

abbrev pub invariant-loop-i : goal.invariant-loop-i
invariant-loop-i l = record {
  best : (b : ℕ) → l.best ≡ Some b → (l.after < b) × (passes (meets l.query) (find_job l.jobs.entries b) ≡ true);
  least : (k n : ℕ) (live : Live) → k < l.i → slice_get l.jobs.entries k ≡ Some (n, live) → l.after < n → meets l.query live ≡ true → (b : ℕ) × (l.best ≡ Some b) × (b ≤ n);
}
