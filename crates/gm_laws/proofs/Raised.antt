-- With as_gearmand an exception ends its job.
use Rattle.std.proofs.Common.{◌≡◌, ℕ, Bool, true, false, cond, List, ◌∷◌, ◌++◌, Some, refl, ap, ◌∙◌}
use Rattle.gm_packet.specs.declared.kind.Kind.{Kind}
use Rattle.gm_packet.specs.declared.kind.Kind.TheVariants.{WorkException}
use Rattle.gm_packet.specs.Answers.{work_fail, work_exception}
use Rattle.gm_notes.specs.Settings.{Settings}
use Rattle.gm_notes.specs.Jobs.{job_state, handle}
use Rattle.gm_notes.specs.Past.{Past}
use Rattle.gm_notes.specs.Workers.{wants_exceptions}
use Rattle.gm_notes.specs.Requests.{second}
use Rattle.gm_notes.specs.Steps.{Step, run}
use Rattle.gm_history.specs.Causes.{is_ending}
use Rattle.gm_history.specs.Hearing.{listens, passed_on}
use Rattle.gm_history.proofs.StepsKeep.{run_history}
use Rattle.gm_laws.specs.Listeners.{outputs, heard, ExceptionsEndJobs}
use Rattle.gm_laws.proofs.Clocks.{worker_ends}
use Rattle.gm_laws.proofs.Passing.{reports, asks}
use Rattle.gm_laws.proofs.Taken.{request_does}

-- what is passed on of an exception
raised : (k : Settings) (n : ℕ) (kind : Kind) (a : List (List ℕ)) (wants : Bool) → k.as_gearmand ≡ true → kind ≡ WorkException
    → passed_on k wants n kind a ≡ Some (cond wants (work_exception (handle k n) (second a)) (work_fail (handle k n)))
raised k n kind a wants set is = ap (λ x. passed_on k wants n x a) is ∙ by wants
  where
    by : (wants : Bool) → passed_on k wants n WorkException a ≡ Some (cond wants (work_exception (handle k n) (second a)) (work_fail (handle k n)))
    by true = refl
    by false = rw set refl

pub exceptions_end : (k : Settings) (steps : List Step) (s : Step) → ExceptionsEndJobs k (run k steps) s (run k (s ∷ steps))
exceptions_end k steps s worker n asked set takes runs asking is names =
    let start = run k steps in
    let a = asked.arguments in
    let does = request_does k s start worker asked takes asking in
    let report = raised k n asked.kind a true set is in
    let ends : is_ending k asked.kind ≡ true = ap (is_ending k) is ∙ set in (
      ap (λ (past : Past). job_state n past.notes) does ∙ worker_ends k start (run_history k steps) worker n asked.kind a asked.timeout runs ends names,
      λ c.
          ap (λ (past : Past). outputs c past.flow) does
          ∙ (asks k worker n start (run_history k steps) runs asked.kind a asked.timeout (reports k n asked.kind a (work_exception (handle k n) (second a)) report) names c
          ∙ ap (λ o. outputs c start.flow ++ heard o (listens c n start.notes)) (raised k n asked.kind a (wants_exceptions c start.notes) set is)),
    )
