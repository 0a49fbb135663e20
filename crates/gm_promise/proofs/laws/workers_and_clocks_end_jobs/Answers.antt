use Rattle.gm_laws.proofs.Clocks.{ends_so}
use Rattle.gm_shared.specs.Tapes.{steps_of, step_in}
use Rattle.gm_promise.proofs.laws.workers_and_clocks_end_jobs.Goals as goal

pub returns : goal.returns
returns c = λ k older e legal. ends_so k (steps_of older) (step_in e.step)
