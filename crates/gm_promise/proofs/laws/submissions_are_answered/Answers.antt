use Rattle.gm_laws.proofs.Created.{submissions_answered}
use Rattle.gm_shared.specs.Tapes.{steps_of, step_in}
use Rattle.gm_promise.proofs.laws.submissions_are_answered.Goals as goal

pub returns : goal.returns
returns c = λ k older e legal. submissions_answered k (steps_of older) (step_in e.step)
