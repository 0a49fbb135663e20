use Rattle.std.proofs.Common.{◌≡◌, subst, sym}
use Rattle.gm_notes.specs.Jobs.{job_state}
use Rattle.gm_notes.specs.Steps.{run}
use Rattle.gm_laws.proofs.JobLaws.{stay_gone}
use Rattle.gm_shared.specs.Tapes.{steps_of}
use Rattle.gm_promise.proofs.Promised.{steps_then}
use Rattle.gm_promise.proofs.laws.a_job_ends_once.Goals as goal

pub returns : goal.returns
returns c = λ k later older legal n gone.
    subst (λ steps. job_state n (run k steps).notes ≡ job_state n (run k (steps_of older)).notes) (sym (steps_then later older)) (stay_gone k (steps_of later) (steps_of older) n gone)
