use Rattle.gm_laws.proofs.Sleepers.{none_sleeps}
use Rattle.gm_shared.specs.Tapes.{steps_of}
use Rattle.gm_promise.proofs.laws.no_worker_sleeps_beside_its_work.Goals as goal

pub returns : goal.returns
returns c = λ k log legal. none_sleeps k (steps_of log)
