-- What a grab gets.
use Rattle.std.proofs.Common.{◌≡◌, ◌⊎◌, inl, inr, ℕ, zero, suc, Bool, true, false, cond, [], ◌∷◌, Option, Some, None}
use Rattle.std.proofs.Common.{refl, sym, ap, subst, ◌∙◌, arith}
use Rattle.std.specs.Prelude.{◌==◌}
use Rattle.std.proofs.lemmas.Bool.Decides.{nat_tests}
use Rattle.gm_packet.specs.declared.kind.Kind.{Kind}
use Rattle.gm_packet.specs.declared.kind.Kind.TheVariants.{GrabJob, GrabJobUniq}
use Rattle.gm_packet.specs.Kinds.{kind_of}
use Rattle.gm_packet.specs.Answers.{answer_packet, no_job}
use Rattle.gm_notes.specs.declared.note.Note.TheVariants as notes
use Rattle.gm_notes.specs.declared.states.Pick.{Pick}
use Rattle.gm_notes.specs.Settings.{Settings}
use Rattle.gm_notes.specs.Notes.{takes_units, phase, is_asleep, moment}
use Rattle.gm_notes.specs.Flow.{Queued}
use Rattle.gm_notes.specs.Jobs.{job_state, job, deadline, pick}
use Rattle.gm_notes.specs.JobStates as states
use Rattle.gm_notes.specs.Past.{Past, with_note}
use Rattle.gm_notes.specs.Workers.{wake_itself, deadline_after, give_out, grab}
use Rattle.gm_notes.specs.Requests.{packet_of}
use Rattle.gm_notes.specs.Steps.{run}
use Rattle.gm_history.specs.Causes.{is_one_of, is_grab}
use Rattle.gm_history.specs.History.{is_able_within}
use Rattle.gm_laws.specs.Waiting.{IsDeadline, HasNoWork, IsGiven, NoJobMeansNoWork}
use Rattle.gm_history.proofs.Finding.{pick_found, waiting_is, job_of}
use Rattle.gm_history.proofs.Keeping.{kept_if}
use Rattle.gm_laws.proofs.Moving.{both_not}
use Rattle.gm_laws.proofs.StepLaws.{assigned_notes, taken_is}
use Rattle.gm_laws.proofs.Waiting.{no_pick}
use Rattle.gm_notes.proofs.Numbers.{same_number}

-- a deadline is the moment plus the seconds
deadline_is : (now seconds : ℕ) → IsDeadline now seconds (deadline_after now seconds)
deadline_is now zero = refl
deadline_is now (suc seconds) = let some : (suc seconds == 0) ≡ false = grind (arith, nat_tests) in rw some refl

-- stirring changes no flow
pub stirred_flow : (c : ℕ) (past : Past) → (wake_itself c past).flow ≡ past.flow
stirred_flow c past = by (is_asleep (phase c past.notes))
  where
    by : (t : Bool) → (cond t (with_note (notes.Stirred c) past) past).flow ≡ past.flow
    by true = refl
    by false = refl

stirred_moment : (c : ℕ) (past : Past) → moment (wake_itself c past).notes ≡ moment past.notes
stirred_moment c past = kept_if (λ l. moment l ≡ moment past.notes) (is_asleep (phase c past.notes)) (with_note (notes.Stirred c) past) past refl refl

module _ (k : Settings) (c : ℕ) (start : Past) where
  given_here : (uniq : Bool) (found : Pick) (past : Past) → deadline found.job (give_out k c uniq (Some found) past).notes ≡ deadline_after (moment past.notes) found.timeout
  given_here uniq found past =
      let late = deadline_after (moment past.notes) found.timeout in
      let one = with_note (notes.Assigned found.job c late) past in
      let here : deadline found.job one.notes ≡ late = rw (same_number found.job) refl in
      ap (deadline found.job) (assigned_notes k c uniq found.job (job found.job past.notes) one) ∙ here

  runs_here : (uniq : Bool) (found : Pick) (past : Past) → job_state found.job (give_out k c uniq (Some found) past).notes ≡ states.Running c
  runs_here uniq found past =
      let one = with_note (notes.Assigned found.job c (deadline_after (moment past.notes) found.timeout)) past in
      let here : job_state found.job one.notes ≡ states.Running c = rw (same_number found.job) refl in
      ap (job_state found.job) (assigned_notes k c uniq found.job (job found.job past.notes) one) ∙ here

  grabs_so : (uniq : Bool) (o : Option Pick) → pick k c start.notes ≡ o → HasNoWork c start (give_out k c uniq o (wake_itself c start)) ⊎ IsGiven c start (give_out k c uniq o (wake_itself c start))
  grabs_so uniq None is = inl (
    ap (λ flow. Queued c (answer_packet no_job) ∷ flow) (stirred_flow c start),
    λ w. let bad = both_not _ w.4 (no_pick k c w.0 start.notes w.1 is w.2 w.3) in bad,
  )
  grabs_so uniq (Some found) is =
      let there = pick_found k c found start.notes is in
      let what = job_of there.0 (job found.job start.notes) there.1.1 in
      let past = wake_itself c start in
      inr (
        found.job,
        what.0,
        found.timeout,
        waiting_is (job_state found.job start.notes) there.1.0,
        what.1,
        subst (λ f. is_able_within c f found.timeout start.notes ≡ true) (sym what.2) there.2,
        runs_here uniq found past,
        subst (IsDeadline (moment start.notes) found.timeout) (ap (λ now. deadline_after now found.timeout) (sym (stirred_moment c start)) ∙ sym (given_here uniq found past)) (deadline_is (moment start.notes) found.timeout),
      )

-- a grab's packet grabs
grab_does : (k : Settings) (c : ℕ) (start : Past) (o : Option Kind) → is_one_of is_grab o ≡ true → (uniq : Bool) × (packet_of k c o [] start ≡ grab k c uniq start)
grab_does k c start None e = absurd cc
grab_does k c start (Some GrabJob) e = (false, refl)
grab_does k c start (Some GrabJobUniq) e = (true, refl)
grab_does k c start (Some kind) e = absurd cc

pub no_job_no_work : NoJobMeansNoWork
no_job_no_work k steps c number grabs takes =
    let start = run k steps in
    let does = grab_does k c start (kind_of number) grabs in
    subst (λ past. HasNoWork c start past ⊎ IsGiven c start past) (sym (taken_is (takes_units c start.notes) (packet_of k c (kind_of number) [] start) start takes ∙ does.1))
    (grabs_so k c start does.0 (pick k c start.notes) refl)
