use Rattle.gm_laws.proofs.Submitted.{worked_on}
use Rattle.gm_shared.specs.Tapes.{steps_of, step_in}
use Rattle.gm_promise.proofs.laws.what_is_submitted_is_worked_on.Goals as goal

pub returns : goal.returns
returns c = (λ k log legal. worked_on.0 k (steps_of log), λ k older e legal. worked_on.1 k (steps_of older) (step_in e.step))
