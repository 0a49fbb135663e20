-- What hands out a job is queued only where the job is given.
use Rattle.std.proofs.Common.{◌≡◌, ◌⊎◌, inl, inr, ℕ, ◌<◌, Bool, true, false, cond, List, [], ◌∷◌, ◌++◌, Option, Some, None, refl, sym, ap, subst, ◌∙◌}
use Rattle.std.specs.Prelude.{◌==◌, codes}
use Rattle.std.proofs.lemmas.List.{append_cancel_left}
use Rattle.gm_packet.specs.declared.kind.Kind.{Kind}
use Rattle.gm_packet.specs.declared.kind.Kind.TheVariants.{GrabJob, GrabJobUniq}
use Rattle.gm_packet.specs.Kinds.{kind_of}
use Rattle.gm_packet.specs.Requests.{Asked}
use Rattle.gm_packet.specs.Answers.{Answer, answer_packet, no_job}
use Rattle.gm_notes.specs.Settings.{Settings}
use Rattle.gm_notes.specs.Notes.{takes_units}
use Rattle.gm_notes.specs.Jobs.{Job, job, job_state}
use Rattle.gm_notes.specs.JobStates as states
use Rattle.gm_notes.specs.Past.{Past, refuse}
use Rattle.gm_notes.specs.Texts.{error_of, spaced}
use Rattle.gm_notes.specs.Requests.{packet_of}
use Rattle.gm_notes.specs.Steps.{Step, Packet, unless, unless_not_open, run}
use Rattle.gm_history.specs.Causes.{PacketAsks, IsAssignment, JustQueues, is_one_of, is_request, is_grab}
use Rattle.gm_history.proofs.Sayings.{error_other, no_job_other}
use Rattle.gm_history.proofs.StepsKeep.{run_history}
use Rattle.gm_laws.specs.Listeners.{outputs, Queues, copies}
use Rattle.gm_laws.specs.Submitted.{grab_answer, OneAssignmentOneJob}
use Rattle.gm_laws.specs.Waiting.{HasNoWork, IsGiven}
use Rattle.gm_laws.proofs.Moving.{both_not}
use Rattle.gm_laws.proofs.Grabs.{no_job_no_work}
use Rattle.gm_laws.proofs.OnlyEnds.{quiet, copied, none_newer}
use Rattle.gm_laws.proofs.StepLaws.{taken_is}
use Rattle.gm_laws.proofs.Submitted.{worked_on}
use Rattle.std.proofs.lemmas.Bool.{eqb-true}

module _ (k : Settings) (steps : List Step) (c : ℕ) (newer : List (List ℕ)) (answer : Answer) (gives : IsAssignment answer) (lt : 0 < copies (answer_packet answer) newer) where
  abbrev start : Past
  start = run k steps

  abbrev GivenSo : Step → Past → Type 0
  GivenSo s after = (n : ℕ) × (what : Job) × (asked : Asked) × (told : Answer)
      × (job_state n start.notes ≡ states.Waiting) × (job_state n after.notes ≡ states.Running c) × (job n start.notes ≡ Some what)
      × PacketAsks c s asked × (grab_answer k n what asked.kind ≡ Some told) × (answer_packet answer ≡ answer_packet told) × (newer ≡ answer_packet told ∷ [])

  -- where just one answer is queued, it is that
  just : (d : ℕ) (told : Answer) (after : Past) → JustQueues d told start after → Queues c newer start after → (c ≡ d) × (newer ≡ answer_packet told ∷ []) × (answer_packet answer ≡ answer_packet told)
  just d told after is queued = by (c == d) refl (sym (ap (outputs c) is) ∙ queued)
    where
      by : (t : Bool) → (c == d) ≡ t → cond t (outputs c start.flow ++ answer_packet told ∷ []) (outputs c start.flow) ≡ outputs c start.flow ++ newer
          → (c ≡ d) × (newer ≡ answer_packet told ∷ []) × (answer_packet answer ≡ answer_packet told)
      by true same e =
          let are : newer ≡ answer_packet told ∷ [] = append_cancel_left (outputs c start.flow) newer (answer_packet told ∷ []) (sym e) in
          (eqb-true c d same, are, (copied (answer_packet answer) (answer_packet told) 1 (subst (λ l. 0 < copies (answer_packet answer) l) are lt)).0)
      by false other e = absurd (none_newer c newer start start (answer_packet answer) refl e lt)

  -- a grab without data
  grabbed : (d number : ℕ) → is_one_of is_grab (kind_of number) ≡ true → takes_units d start.notes ≡ true → Queues c newer start (run k (Packet d number [] ∷ steps)) → GivenSo (Packet d number []) (run k (Packet d number [] ∷ steps))
  grabbed d number grabs takes queued = by (no_job_no_work k steps d number grabs takes)
    where
      after : Past
      after = run k (Packet d number [] ∷ steps)

      by : HasNoWork d start (run k (Packet d number [] ∷ steps)) ⊎ IsGiven d start (run k (Packet d number [] ∷ steps)) → GivenSo (Packet d number []) (run k (Packet d number [] ∷ steps))
      by (inl none) = absurd (no_job_other.1 answer gives (sym (just d no_job (run k (Packet d number [] ∷ steps)) none.0 queued).2))
      by (inr g) =
          let told = worked_on.1 k steps (Packet d number []) g.0 d g.3 g.6 in
          let is = just d told.2 (run k (Packet d number [] ∷ steps)) told.6 queued in (
            g.0,
            told.0,
            told.1,
            told.2,
            g.3,
            subst (λ x. job_state g.0 (run k (Packet d number [] ∷ steps)).notes ≡ states.Running x) (sym is.0) g.6,
            told.3,
            subst (λ x. PacketAsks x (Packet d number []) told.1) (sym is.0) told.4,
            told.5,
            is.2,
            is.1,
          )

  -- one with data is refused
  refuses : (d b : ℕ) (bytes : List ℕ) (o : Option Kind) → is_one_of is_grab o ≡ true → packet_of k d o (b ∷ bytes) start ≡ refuse d (codes "bad_arguments") start
  refuses d b bytes None e = absurd cc
  refuses d b bytes (Some GrabJob) e = refl
  refuses d b bytes (Some GrabJobUniq) e = refl
  refuses d b bytes (Some kind) e = absurd cc

  by_grab : (d number : ℕ) (bytes : List ℕ) → is_one_of is_grab (kind_of number) ≡ true → Queues c newer start (run k (Packet d number bytes ∷ steps)) → GivenSo (Packet d number bytes) (run k (Packet d number bytes ∷ steps))
  by_grab d number bytes grabs queued = by (takes_units d start.notes) refl bytes queued
    where
      by : (t : Bool) → takes_units d start.notes ≡ t → (bytes : List ℕ) → Queues c newer start (run k (Packet d number bytes ∷ steps)) → GivenSo (Packet d number bytes) (run k (Packet d number bytes ∷ steps))
      by true takes [] queued = grabbed d number grabs takes queued
      by true takes (b ∷ bytes) queued =
          let does = taken_is (takes_units d start.notes) (packet_of k d (kind_of number) (b ∷ bytes) start) start takes ∙ refuses d b bytes (kind_of number) grabs in
          let is = just d (error_of (codes "bad_arguments")) (run k (Packet d number (b ∷ bytes) ∷ steps)) (ap (λ (past : Past). past.flow) does) queued in
          absurd ((error_other (codes "bad_arguments") (spaced (codes "bad_arguments"))).2 answer gives (sym is.2))
      by false shut bytes queued =
          let same : run k (Packet d number bytes ∷ steps) ≡ start = ap (λ t. unless (unless_not_open t) (packet_of k d (kind_of number) bytes start) start) shut in
          absurd (none_newer c newer start (run k (Packet d number bytes ∷ steps)) (answer_packet answer) (ap (λ (past : Past). outputs c past.flow) same) queued lt)

  by_step : (s : Step) (t : Bool) → is_request is_grab s ≡ t → Queues c newer start (run k (s ∷ steps)) → GivenSo s (run k (s ∷ steps))
  by_step (Packet d number bytes) true grabs queued = by_grab d number bytes grabs queued
  by_step s false other queued = absurd (quiet k s start (run_history k steps) c answer (λ d bytes may e. both_not (is_request is_grab s) (may.3 answer gives e) other) newer queued lt)
  by_step s true grabs queued = absurd cc

pub one_assignment : (k : Settings) (steps : List Step) (s : Step) → OneAssignmentOneJob k (run k steps) s (run k (s ∷ steps))
one_assignment k steps s c newer answer queued gives lt = by_step k steps c newer answer gives lt s (is_request is_grab s) refl queued
