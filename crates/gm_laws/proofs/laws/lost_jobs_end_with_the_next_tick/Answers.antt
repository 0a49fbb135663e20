use Rattle.gm_notes.specs.Steps.{run}
use Rattle.gm_history.proofs.StepsKeep.{run_history}
use Rattle.gm_laws.proofs.Retries.{ends_next}
use Rattle.gm_laws.proofs.laws.lost_jobs_end_with_the_next_tick.Goals as goal

pub returns : goal.returns
returns c k steps s = ends_next k s (run k steps) (run_history k steps)
