use Rattle.gm_notes.specs.Steps.{run}
use Rattle.gm_history.proofs.StepsKeep.{run_history}
use Rattle.gm_laws.proofs.StepLaws.{stays_home}
use Rattle.gm_shared.specs.Tapes.{steps_of, step_in}
use Rattle.gm_promise.proofs.laws.answers_stay_home.Goals as goal

pub returns : goal.returns
returns c = λ k older e legal. stays_home k (step_in e.step) (run k (steps_of older)) (run_history k (steps_of older))
