use Rattle.gm_laws.proofs.Orphans.{none_orphaned}
use Rattle.gm_shared.specs.Tapes.{steps_of}
use Rattle.gm_promise.proofs.laws.waiting_jobs_are_wanted.Goals as goal

pub returns : goal.returns
returns c = λ k log legal. none_orphaned k (steps_of log)
