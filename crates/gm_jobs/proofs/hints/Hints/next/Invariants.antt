use Rattle.std.proofs.Common.{◌≡◌, ℕ, ◌<◌, false, slice_index_or}
use Rattle.gm_jobs.specs.Queries.{meets}
use Rattle.gm_jobs.specs.Tables.{find_job, passes}
use Rattle.gm_jobs.proofs.hints.Hints.next.Given as goal

abbrev pub invariant-loop-i : goal.invariant-loop-i
invariant-loop-i l = record {
  same : l.self-inside ≡ l.initial.self-inside;
  none : (k : ℕ) → k < l.i → l.after < slice_index_or l.initial.self-inside.numbers.items k 0 → passes (meets l.query) (find_job l.jobs.entries (slice_index_or l.initial.self-inside.numbers.items k 0)) ≡ false;
}
