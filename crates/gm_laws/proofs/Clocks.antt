-- Jobs end by what their workers say, and by the clock.
use Rattle.std.proofs.Common.{not, ◌≡◌, ◌⊎◌, inl, inr, ℕ, ◌≤◌, Bool, true, false, cond, ◌&&◌, List, [], ◌∷◌, Option, Some, None, max}
use Rattle.std.proofs.Common.{refl, sym, ap, subst, ◌∙◌, arith}
use Rattle.std.specs.Prelude.{◌==◌, nat_le, unwrap_or}
use Rattle.std.proofs.lemmas.Bool.{and_from}
use Rattle.std.proofs.lemmas.Bool.Decides.{nat_tests}
use Rattle.gm_packet.specs.declared.kind.Kind.{Kind}
use Rattle.gm_packet.specs.declared.kind.Kind.TheVariants.{WorkComplete, WorkFail, WorkException, GrabJob, GrabJobUniq}
use Rattle.gm_packet.specs.Kinds.{kind_of}
use Rattle.gm_packet.specs.Answers.{work_fail}
use Rattle.gm_notes.specs.declared.note.Note.{Note}
use Rattle.gm_notes.specs.declared.note.Note.TheVariants as notes
use Rattle.gm_notes.specs.Settings.{Settings}
use Rattle.gm_notes.specs.Notes.{moment, takes_units}
use Rattle.gm_notes.specs.Jobs.{job_state, deadline, listeners, handle}
use Rattle.gm_notes.specs.JobStates.{JobState, is_running, is_waiting}
use Rattle.gm_notes.specs.JobStates as states
use Rattle.gm_notes.specs.Past.{Past, with_note, tell_all}
use Rattle.gm_notes.specs.Closings.{is_reached, expire_one, expire_each, rising, tick}
use Rattle.gm_notes.specs.Workers.{tell_work}
use Rattle.gm_notes.specs.Requests.{first, request, packet_of}
use Rattle.gm_notes.specs.Steps.{Step, Packet, Tick, step, run}
use Rattle.gm_history.specs.History.{Allowed, History}
use Rattle.gm_history.specs.Causes.{Caused, Ends, is_request, is_ending, is_grab, is_submission, is_close}
use Rattle.gm_laws.specs.Laws.{is_unheard, WorkersAndClocksEndJobs}
use Rattle.gm_history.proofs.Asking.{packet_does, asked_kind, asks_some, apart_requests, made_request}
use Rattle.gm_laws.proofs.JobLaws.{has_place, running_place}
use Rattle.gm_laws.proofs.Passing.{reports, end_reported, works_does}
use Rattle.gm_history.proofs.StepsKeep.{run_history}
use Rattle.gm_history.proofs.Caused.{note_law}
use Rattle.gm_laws.proofs.StepLaws.{taken_is}
use Rattle.gm_history.proofs.Keeping.{tell_all_notes}
use Rattle.gm_laws.proofs.Moving.{from, In, not_both, both_not, placed_rises}
use Rattle.gm_notes.proofs.Numbers.{same_number}
use Rattle.std.proofs.lemmas.Bool.{eqb-true}

-- ---- a tick

-- the job runs, and its deadline is reached
abbrev pub IsDue : ℕ → List Note → Type 0
IsDue n l = (is_running (job_state n l) && is_reached (deadline n l) (moment l)) ≡ true

-- it is due and stands in the list, or it has ended
abbrev EndsOf : ℕ → List ℕ → List Note → Type 0
EndsOf n jobs l = (IsDue n l × In n jobs) ⊎ (job_state n l ≡ states.Ended)

other_left : (n m : ℕ) (jobs : List ℕ) → (n == m) ≡ false → In n (m ∷ jobs) → In n jobs
other_left n m jobs other (inl same) = absurd (not_both n m same other)
other_left n m jobs other (inr there) = there

ended_more : (n m : ℕ) (jobs : List ℕ) (l : List Note) → EndsOf n (m ∷ jobs) l → EndsOf n jobs (notes.Ended m ∷ l)
ended_more n m jobs l e = by (n == m) refl e
  where
    by : (t : Bool) → (n == m) ≡ t → EndsOf n (m ∷ jobs) l → EndsOf n jobs (notes.Ended m ∷ l)
    by true is e = inr (rw is refl)
    by false is (inl h) = inl (rw is h.0, other_left n m jobs is h.1)
    by false is (inr h) = inr (rw is h)

expired_so : (k : Settings) (n m : ℕ) (jobs : List ℕ) (past : Past) (t : Bool) → (is_running (job_state m past.notes) && is_reached (deadline m past.notes) (moment past.notes)) ≡ t → EndsOf n (m ∷ jobs) past.notes
    → EndsOf n jobs (cond t (with_note (notes.Ended m) (tell_all (work_fail (handle k m)) (listeners m past.notes) past)) past).notes
expired_so k n m jobs past true is e =
    subst (λ l. EndsOf n jobs (notes.Ended m ∷ l)) (sym (tell_all_notes (work_fail (handle k m)) (listeners m past.notes) past)) (ended_more n m jobs past.notes e)
expired_so k n m jobs past false is (inr h) = inr h
expired_so k n m jobs past false is (inl h) =
    inl (h.0, from h.1 (λ same. absurd (both_not _ (subst (λ x. IsDue x past.notes) same h.0) is)) (λ there. there))

expired : (k : Settings) (n : ℕ) (jobs : List ℕ) (past : Past) → EndsOf n jobs past.notes → job_state n (expire_each k jobs past).notes ≡ states.Ended
expired k n [] past e = from e (λ h. absurd h.1) (λ h. h)
expired k n (m ∷ jobs) past e =
    expired k n jobs (expire_one k m past) (expired_so k n m jobs past (is_running (job_state m past.notes) && is_reached (deadline m past.notes) (moment past.notes)) refl e)

-- what is due once the moment has moved on ends in the tick
pub tick_ends : (k : Settings) (now : ℕ) (start : Past) (n : ℕ) → History k start.notes → has_place (job_state n start.notes) ≡ true → IsDue n (notes.Now (max now (moment start.notes)) ∷ start.notes)
    → job_state n (tick k now start).notes ≡ states.Ended
tick_ends k now start n h placed due =
    expired k n (rising start) (with_note (notes.Now (max now (moment start.notes))) start) (inl (due, placed_rises k start n h placed))

-- ---- steps

heard_takes : (t : Bool) → not t ≡ false → t ≡ true
heard_takes true e = refl
heard_takes false e = absurd cc

module _ (k : Settings) (start : Past) (history : History k start.notes) where
  pub worker_ends : (worker n : ℕ) (kind : Kind) (a : List (List ℕ)) (timeout : ℕ) → job_state n start.notes ≡ states.Running worker → is_ending k kind ≡ true → first a ≡ handle k n
      → job_state n (request k worker kind a timeout start).notes ≡ states.Ended
  worker_ends worker n kind a timeout runs e names =
      let report = end_reported k n true kind a e in
      let r = reports k n kind a report.0 report.1 in
      let over : job_state n (tell_work k r.packet n start).notes ≡ states.Ended = rw (r.ends, e, same_number n) refl in
      ap (λ (past : Past). job_state n past.notes) (r.does worker timeout start ∙ works_does k worker n start history runs r.packet (first a) names) ∙ over

  due_then : (now late : ℕ) (n : ℕ) → is_running (job_state n start.notes) ≡ true → deadline n start.notes ≡ Some late → late ≤ max now (moment start.notes)
      → IsDue n (notes.Now (max now (moment start.notes)) ∷ start.notes)
  due_then now late n runs is le =
      let reached : nat_le late (max now (moment start.notes)) ≡ true = grind (arith, nat_tests) in
      and_from (is_running (job_state n start.notes)) (is_reached (deadline n start.notes) (max now (moment start.notes))) runs (ap (λ d. is_reached d (max now (moment start.notes))) is ∙ reached)

  ends_it : (s : Step) (n : ℕ) → is_unheard s start.notes ≡ false → Ends k start.notes s n → job_state n (step k s start).notes ≡ states.Ended
  ends_it (Packet worker number bytes) n heard e =
      let asked = e.2.0 in
      ap (λ (past : Past). job_state n past.notes)
      (taken_is (takes_units worker start.notes) (packet_of k worker (kind_of number) bytes start) start (heard_takes (takes_units worker start.notes) heard) ∙ packet_does bytes asked k worker start (kind_of number) e.2.1)
      ∙ worker_ends worker n asked.kind asked.arguments asked.timeout e.1 (sym (asked_kind bytes asked (is_ending k) (kind_of number) e.2.1) ∙ e.0) e.2.2
  ends_it (Tick now) n heard e = tick_ends k now start n history (running_place (job_state n start.notes) e.0) (due_then now e.1 n e.0 e.2 e.3)
  ends_it other n heard e = absurd e

-- ---- deadlines

end_apart : (k : Settings) (kind : Kind) → is_ending k kind ≡ true → is_grab kind ≡ false
end_apart k WorkComplete e = refl
end_apart k WorkFail e = refl
end_apart k WorkException e = refl
end_apart k kind e = absurd cc

submission_apart : (kind : Kind) → is_submission kind ≡ true → is_grab kind ≡ false
submission_apart GrabJob e = absurd cc
submission_apart GrabJobUniq e = absurd cc
submission_apart kind e = refl

closing_apart : (s : Step) → is_close s ≡ true → is_request is_grab s ≡ false
closing_apart (Packet c number bytes) e = absurd cc
closing_apart other e = refl

module _ (k : Settings) (s : Step) (start : Past) (n c : ℕ) where
  -- the job runs at the slot with the deadline that it had, or it doesn't run there any more, and the step gives it to
  -- nobody
  abbrev RunsOn : List Note → Type 0
  RunsOn l =
      ((job_state n l ≡ states.Running c) × (deadline n l ≡ deadline n start.notes))
      ⊎ ((job_state n l ≡ states.Running c → ⊥) × (is_request is_grab s ≡ false))

  -- a note that takes job m from its slot
  gone_on : (m : ℕ) (new : JobState) (note : Note) (older : List Note) → ((t : Bool) → (n == m) ≡ t → job_state n (note ∷ older) ≡ unwrap_or (cond t (Some new) None) (job_state n older))
      → ((n == m) ≡ false → deadline n (note ∷ older) ≡ deadline n older) → (new ≡ states.Running c → ⊥) → is_request is_grab s ≡ false → RunsOn older → RunsOn (note ∷ older)
  gone_on m new note older states_are late_is other apart p = by (n == m) refl p
    where
      by : (t : Bool) → (n == m) ≡ t → RunsOn older → RunsOn (note ∷ older)
      by true is p = inr ((λ e. other (sym (states_are true is) ∙ e)), apart)
      by false is (inl h) = inl (states_are false is ∙ h.0, late_is is ∙ h.1)
      by false is (inr h) = inr ((λ e. h.0 (sym (states_are false is) ∙ e)), h.1)

  given_on : (m d : ℕ) (late : Option ℕ) (older : List Note) → is_waiting (job_state m older) ≡ true → is_request is_grab s ≡ true → RunsOn older → RunsOn (notes.Assigned m d late ∷ older)
  given_on m d late older waits grabs (inr h) = absurd (both_not (is_request is_grab s) grabs h.1)
  given_on m d late older waits grabs (inl h) = by (n == m) refl
    where
      by : (t : Bool) → (n == m) ≡ t → RunsOn (notes.Assigned m d late ∷ older)
      by true is =
          let runs : job_state m older ≡ states.Running c = subst (λ x. job_state x older ≡ states.Running c) (eqb-true n m is) h.0 in
          absurd (let bad : is_waiting (states.Running c) ≡ true = subst (λ x. is_waiting x ≡ true) runs waits in cc)
      by false is = inl (rw is h.0, rw is h.1)

  ends_apart : (m : ℕ) → Ends k start.notes s m → is_request is_grab s ≡ false
  ends_apart m e = by s e
    where
      by : (s : Step) → Ends k start.notes s m → is_request is_grab s ≡ false
      by (Packet d number bytes) e = apart_requests (is_ending k) is_grab (end_apart k) (Packet d number bytes) e.0
      by other e = refl

  runs_on : (note : Note) (older : List Note) → Allowed k note older → Caused k start.notes s note older → RunsOn older → RunsOn (note ∷ older)
  runs_on (notes.Made m f p u body) older allowed cause r =
      gone_on m states.Waiting (notes.Made m f p u body) older (λ t is. rw is refl) (λ is. rw is refl) (λ e. let bad : ⊥ = cc in bad)
      (apart_requests is_submission is_grab submission_apart s (made_request k start.notes s m f p u body older cause)) r
  runs_on (notes.Returned m) older allowed cause r =
      gone_on m states.Waiting (notes.Returned m) older (λ t is. rw is refl) (λ is. rw is refl) (λ e. let bad : ⊥ = cc in bad) (closing_apart s (ap is_close cause.1)) r
  runs_on (notes.Lost m) older allowed cause r =
      gone_on m states.Lost (notes.Lost m) older (λ t is. rw is refl) (λ is. rw is refl) (λ e. let bad : ⊥ = cc in bad) (closing_apart s (ap is_close cause.1)) r
  runs_on (notes.Ended m) older allowed cause r =
      gone_on m states.Ended (notes.Ended m) older (λ t is. rw is refl) (λ is. refl) (λ e. let bad : ⊥ = cc in bad) (ends_apart m cause) r
  runs_on (notes.Discarded m) older allowed cause r =
      gone_on m states.Discarded (notes.Discarded m) older (λ t is. rw is refl) (λ is. refl) (λ e. let bad : ⊥ = cc in bad) (closing_apart s cause) r
  runs_on (notes.Assigned m d late) older allowed cause r = given_on m d late older allowed.0 (asks_some is_grab d s cause.0) r
  runs_on note older allowed cause r = r

  stays_late : History k start.notes → job_state n start.notes ≡ states.Running c → job_state n (step k s start).notes ≡ states.Running c → deadline n (step k s start).notes ≡ deadline n start.notes
  stays_late history was runs =
      from (note_law k s start history RunsOn (λ note older allowed cause h p. runs_on note older allowed cause p) (inl (was, refl))) (λ h. h.1) (λ h. absurd (h.0 runs))

pub ends_so : (k : Settings) (steps : List Step) (s : Step) → WorkersAndClocksEndJobs k (run k steps) s (run k (s ∷ steps))
ends_so k steps s = (
  λ n heard e. ends_it k (run k steps) (run_history k steps) s n heard e,
  λ n c was runs. stays_late k s (run k steps) n c (run_history k steps) was runs,
)
