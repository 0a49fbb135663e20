use Rattle.gm_laws.proofs.Endings.{all_told}
use Rattle.gm_shared.specs.Tapes.{steps_of, step_in}
use Rattle.gm_promise.proofs.laws.listeners_are_told.Goals as goal

pub returns : goal.returns
returns c = λ k older e legal. all_told k (step_in e.step) (steps_of older)
