use Rattle.gm_laws.proofs.Assigning.{one_assignment}
use Rattle.gm_laws.proofs.Barred.{barred}
use Rattle.gm_laws.proofs.Firsts.{first_wins}
use Rattle.gm_laws.proofs.Hearers.{exceptions, ticks, shutdowns}
use Rattle.gm_laws.proofs.Lines.{admin, named}
use Rattle.gm_laws.proofs.News.{answers_name}
use Rattle.gm_laws.proofs.Parting.{closing_closes}
use Rattle.gm_laws.proofs.Refusals.{refusals}
use Rattle.gm_laws.proofs.Rests.{enough, asked_for}
use Rattle.gm_shared.specs.Tapes.{steps_of, step_in}
use Rattle.gm_promise.proofs.laws.each_entry_does_what_it_says.Goals as goal

pub returns-clause-closing : goal.returns-clause-closing
returns-clause-closing c = λ k older e legal. closing_closes k (steps_of older) (step_in e.step)

pub returns-clause-asking : goal.returns-clause-asking
returns-clause-asking c = λ k older e legal. enough k (steps_of older) (step_in e.step)

pub returns-clause-sleepers : goal.returns-clause-sleepers
returns-clause-sleepers c = λ k older e legal. asked_for k (steps_of older) (step_in e.step)

pub returns-clause-assignments : goal.returns-clause-assignments
returns-clause-assignments c = λ k older e legal. one_assignment k (steps_of older) (step_in e.step)

pub returns-clause-refusals : goal.returns-clause-refusals
returns-clause-refusals c = λ k older e legal. refusals k (steps_of older) (step_in e.step)

pub returns-clause-barred : goal.returns-clause-barred
returns-clause-barred c = λ k older e legal. barred k (steps_of older) (step_in e.step)

pub returns-clause-abilities : goal.returns-clause-abilities
returns-clause-abilities c = λ k older e legal. first_wins k (steps_of older) (step_in e.step)

pub returns-clause-admin : goal.returns-clause-admin
returns-clause-admin c = λ k older e legal. admin k (steps_of older) (step_in e.step)

pub returns-clause-names : goal.returns-clause-names
returns-clause-names c = λ k older e legal. named k (steps_of older) (step_in e.step)

pub returns-clause-exceptions : goal.returns-clause-exceptions
returns-clause-exceptions c = λ k older e legal. exceptions k (steps_of older) (step_in e.step)

pub returns-clause-ticks : goal.returns-clause-ticks
returns-clause-ticks c = λ k older e legal. ticks k (steps_of older) (step_in e.step)

pub returns-clause-shutdown : goal.returns-clause-shutdown
returns-clause-shutdown c = λ k older e legal. shutdowns k (steps_of older) (step_in e.step)

pub returns-clause-answers : goal.returns-clause-answers
returns-clause-answers c = λ k older e legal. answers_name k (steps_of older) (step_in e.step)
