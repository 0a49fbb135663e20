use Rattle.gm_history.proofs.StepsKeep.{run_history}
use Rattle.gm_laws.proofs.JobLaws.{placed}
use Rattle.gm_notes.specs.Steps.{run}
use Rattle.gm_laws.proofs.laws.placed_exactly_where_made.Goals as goal

pub returns : goal.returns
returns c k steps = placed k (run k steps).notes (run_history k steps)
