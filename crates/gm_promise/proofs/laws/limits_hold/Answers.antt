use Rattle.gm_laws.proofs.Limits.{limits}
use Rattle.gm_shared.specs.Tapes.{steps_of, step_in}
use Rattle.gm_promise.proofs.laws.limits_hold.Goals as goal

pub returns : goal.returns
returns c = λ k older e legal. limits k (steps_of older) (step_in e.step)
