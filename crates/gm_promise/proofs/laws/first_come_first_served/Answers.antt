use Rattle.gm_laws.proofs.Orders.{first_served}
use Rattle.gm_shared.specs.Tapes.{steps_of, step_in}
use Rattle.gm_promise.proofs.laws.first_come_first_served.Goals as goal

pub returns : goal.returns
returns c = λ k older e legal. first_served k (steps_of older) (step_in e.step)
