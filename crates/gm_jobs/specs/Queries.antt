-- The questions about a job.
use Rattle.std.specs.Prelude.{ℕ, Bool, true, not, ◌==◌}
use Rattle.std.specs.List.{list_any}
use Rattle.gm_jobs.specs.declared.job.Query.{Query}
use Rattle.gm_jobs.specs.declared.job.Query.TheVariants.{Orphan, RunBy, HeardBy, Due, Started, Live as Lives}
use Rattle.gm_jobs.specs.Live.{Live, is_run_by, is_orphan, is_due, waits}

-- the slot listens to it
abbrev pub is_heard_by : ℕ → Live → Bool
is_heard_by slot live = list_any (λ c. c == slot) live.listeners

abbrev pub meets : Query → Live → Bool
meets Orphan live = is_orphan live
meets (RunBy slot) live = is_run_by slot live
meets (HeardBy slot) live = is_heard_by slot live
meets (Due now) live = is_due now live
meets Started live = not (waits live.live_place)
meets Lives live = true
