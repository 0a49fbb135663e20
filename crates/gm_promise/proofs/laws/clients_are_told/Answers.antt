use Rattle.std.proofs.Common.{◌≡◌, ◌⊎◌, ℕ, List, ◌∷◌, true, subst, sym}
use Rattle.gm_notes.specs.Jobs.{job_state, handle}
use Rattle.gm_notes.specs.JobStates.{is_live}
use Rattle.gm_notes.specs.Steps.{Step, run}
use Rattle.gm_laws.specs.Listeners.{Tells}
use Rattle.gm_laws.specs.Turns.{One}
use Rattle.gm_laws.proofs.Submitting.{who_stays}
use Rattle.gm_shared.specs.Tapes.{steps_of, step_in}
use Rattle.gm_promise.proofs.Promised.{steps_then}
use Rattle.gm_promise.proofs.laws.clients_are_told.Goals as goal

pub returns : goal.returns
returns c = λ k later older e legal slot text asked given stays.
    subst (λ (steps : List Step). (n : ℕ) × (text ≡ handle k n)
    × ((is_live (job_state n (run k steps).notes) ≡ true) ⊎ One (Tells k slot n) (steps_of later) (steps_of (e ∷ older))))
    (sym (steps_then later (e ∷ older)))
    (who_stays k slot text (steps_of older) (steps_of later) (step_in e.step) asked given stays)
