-- What is refused has its reason, and each reason refuses.
use Rattle.std.proofs.Common.{◌≡◌, ◌⊎◌, inl, inr, ℕ, ◌+◌, ◌≤◌, ◌^◌, Bool, true, false, cond, not, ◌&&◌, ◌||◌, List, [], ◌∷◌, ◌++◌, length, filter}
use Rattle.std.proofs.Common.{Option, Some, None, Result, Ok, Err, refl, sym, ap, subst, ◌∙◌, arith, append_assoc}
use Rattle.std.specs.Option.{ok_or}
use Rattle.std.proofs.lemmas.Option.{same_Some}
use Rattle.std.specs.Prelude.{◌==◌, nat_le, nat_lt, codes}
use Rattle.std.specs.List.{list_any}
use Rattle.std.specs.Str.{bytes_eq}
use Rattle.std.proofs.lemmas.Bool.{or_left, or_right}
use Rattle.std.proofs.lemmas.Bool.Decides.{nat_tests}
use Rattle.std.proofs.lemmas.Slice.Eq.{bytes_eq-Decides}
use Rattle.gm_packet.specs.declared.kind.Kind.{Kind}
use Rattle.gm_packet.specs.declared.kind.Kind.TheVariants.{CanDo, CantDo, PreSleep, SubmitJob, GrabJob}
use Rattle.gm_packet.specs.declared.kind.Kind.TheVariants.{WorkStatus, WorkComplete, WorkFail, GetStatus, EchoReq, SubmitJobBg}
use Rattle.gm_packet.specs.declared.kind.Kind.TheVariants.{SubmitJobHigh, CanDoTimeout, WorkException}
use Rattle.gm_packet.specs.declared.kind.Kind.TheVariants.{OptionReq, WorkData, WorkWarning, GrabJobUniq, SubmitJobHighBg}
use Rattle.gm_packet.specs.declared.kind.Kind.TheVariants.{SubmitJobLow, SubmitJobLowBg}
use Rattle.gm_packet.specs.declared.request.RequestFault.TheVariants.{BadArguments}
use Rattle.gm_packet.specs.Kinds.{kind_of}
use Rattle.gm_packet.specs.Requests.{Asked, read_as, read_kind}
use Rattle.gm_packet.specs.Answers.{Answer, answer_packet, error, no_job, job_created, option_res, echo_res, status_res, work_status}
use Rattle.gm_packet.specs.Answers.{work_data, work_warning, work_exception, work_complete, work_fail}
use Rattle.gm_admin.specs.declared.fault.AdminFault.{AdminFault}
use Rattle.gm_admin.specs.declared.fault.AdminFault.TheVariants as faults
use Rattle.gm_admin.specs.declared.fault.AdminError.{AdminError}
use Rattle.gm_admin.specs.declared.fault.AdminError.TheVariants as errors
use Rattle.gm_admin.specs.Commands.{Commanded, MaxQueue, command_of}
use Rattle.gm_notes.specs.declared.states.Priority.{Priority}
use Rattle.gm_notes.specs.declared.states.Priority.TheVariants.{High, Normal, Low}
use Rattle.gm_notes.specs.declared.states.Pick.{Pick}
use Rattle.gm_notes.specs.declared.note.Note.TheVariants as notes
use Rattle.gm_notes.specs.Settings.{Settings}
use Rattle.gm_notes.specs.Notes.{takes_units, phase, is_asleep, is_awake}
use Rattle.gm_notes.specs.Flow.{Flow, Queued}
use Rattle.gm_notes.specs.Jobs.{Job, job, job_state, report, functions, limit, total, made, joins, joined, next_number, handle, job_of_handle, pick}
use Rattle.gm_notes.specs.Jobs.{is_empty, waiting_for, listeners}
use Rattle.gm_notes.specs.JobStates.{is_running_at, is_live, is_running}
use Rattle.gm_notes.specs.JobStates as states
use Rattle.gm_notes.specs.Past.{Past, with_note, with_output, give, refuse, with_mention, tell_all}
use Rattle.gm_notes.specs.Texts.{fault_text}
use Rattle.gm_notes.specs.declared.event.UnitFault.{UnitFault}
use Rattle.gm_notes.specs.declared.event.UnitFault.TheVariants.{BadMagic, PacketTooLarge, LineTooLong}
use Rattle.gm_notes.specs.Submissions.{Submission, max_name, is_bad_name, is_one_too_many, is_full, submit}
use Rattle.gm_notes.specs.Workers.{wake_if, add_ability, can_do, cant_do, sleep_beside, pre_sleep, wake_itself, assignment, tell_assigned, give_out, grab}
use Rattle.gm_notes.specs.Workers.{Work, keep_report, end_if, wants_exceptions, hearers, tell_others, tell_work, work_on, work}
use Rattle.gm_notes.specs.Requests.{first, second, third, submission, passing, ending, tell_status, set_option, request, request_if_read, packet_of}
use Rattle.gm_notes.specs.Lines.{is_bad_word, refuse_line, maxqueue, command}
use Rattle.gm_notes.specs.Steps.{Step, step, run}
use Rattle.gm_history.specs.History.{History}
use Rattle.gm_history.specs.Causes.{is_enabling, is_submission}
use Rattle.gm_history.proofs.Finding.{joined_is}
use Rattle.gm_history.proofs.Keeping.{handled_is, runs_there}
use Rattle.gm_history.proofs.StepsKeep.{run_history}
use Rattle.gm_laws.specs.Submitted.{JoinsNone, IsBadName}
use Rattle.gm_laws.specs.Refusals.{IsError, IsErr, IsBadWord, IsOneTooMany, IsAtLimit, names_function, names_run, BringsFunction}
use Rattle.gm_laws.specs.Refusals.{HasReason, IsUnserved, IsErroneous, IsToldOf, answers, AllAnswer, JustAnswers, RefusalsHaveTheirReason}
use Rattle.gm_laws.proofs.JobLaws.{has_place}
use Rattle.gm_laws.proofs.Created.{bad_name, too_many, full, joins_so, mention_flow, request_answered, Answered as SubmittedSo}
use Rattle.gm_laws.proofs.Handles.{handle_names}
use Rattle.gm_notes.proofs.Numbers.{same_number}
use Rattle.gm_laws.proofs.Moving.{both_not}
use Rattle.gm_laws.proofs.Grabs.{stirred_flow}
use Rattle.gm_laws.proofs.StepLaws.{taken_is}
use Rattle.gm_laws.proofs.Taken.{request_does}
use Rattle.std.proofs.lemmas.Bool.{false_from_ne_true}

-- ---- the tests and what they say

pub named_badly : (f : List ℕ) → IsBadName f → is_bad_name f ≡ true
named_badly f (inl none) = subst (λ g. is_bad_name g ≡ true) (sym none) refl
named_badly f (inr long) = or_right (length f == 0) (nat_lt max_name (length f)) (grind (arith, nat_tests))

pub named_well : (f : List ℕ) → (IsBadName f → ⊥) → is_bad_name f ≡ false
named_well f good = false_from_ne_true (is_bad_name f) (λ e. good (bad_name f e))

pub many_too : (k : Settings) (f : List ℕ) (past : Past) → IsOneTooMany k f past.notes → is_one_too_many k f past.notes ≡ true
many_too k f past m =
    let le : nat_le k.max_functions (length (functions past.notes)) ≡ true = let lt = m.1 in grind (arith, nat_tests) in
    rw (m.0, le) refl

pub word_badly : (f : List ℕ) → IsBadWord f → is_bad_word f ≡ true
word_badly f (inl long) = or_left (nat_lt max_name (length f)) (list_any (λ b. b == 0) f) (grind (arith, nat_tests))
word_badly f (inr nul) = or_right (nat_lt max_name (length f)) (list_any (λ b. b == 0) f) nul

pub bad_word : (f : List ℕ) → is_bad_word f ≡ true → IsBadWord f
bad_word f e = by (nat_lt max_name (length f)) (list_any (λ b. b == 0) f) refl refl e
  where
    by : (t u : Bool) → nat_lt max_name (length f) ≡ t → list_any (λ b. b == 0) f ≡ u → (t || u) ≡ true → IsBadWord f
    by true u long nul e = inl (grind (arith, nat_tests))
    by false true long nul e = inr nul
    by false false long nul e = absurd cc

pub word_well : (f : List ℕ) → (IsBadWord f → ⊥) → is_bad_word f ≡ false
word_well f good = false_from_ne_true (is_bad_word f) (λ e. good (bad_word f e))

few_still : (k : Settings) (f : List ℕ) (past : Past) → (IsOneTooMany k f past.notes → ⊥) → is_one_too_many k f past.notes ≡ false
few_still k f past few = false_from_ne_true (is_one_too_many k f past.notes) (λ e. few (too_many k f past.notes e))

full_so : (f : List ℕ) (past : Past) → IsAtLimit f past.notes → is_full f past.notes ≡ true
full_so f past m =
    let some : (limit f past.notes == 0) ≡ false = let lt = m.0 in grind (arith, nat_tests) in
    let le : nat_le (limit f past.notes) (total f past.notes) ≡ true = let less = m.1 in grind (arith, nat_tests) in
    rw (some, le) refl

room_so : (f : List ℕ) (past : Past) → (IsAtLimit f past.notes → ⊥) → is_full f past.notes ≡ false
room_so f past room = false_from_ne_true (is_full f past.notes) (λ e. room (full f past.notes e))

numberless : (k : Settings) (past : Past) → 2 ^ 64 ≤ k.first_job + length (made past.notes) → next_number k past.notes ≡ None
numberless k past most =
    let none : nat_lt (k.first_job + length (made past.notes)) (2 ^ 64) ≡ false = grind (arith, nat_tests) in
    rw none refl

-- nothing is there to be joined
none_joined : (asked : Asked) (past : Past) → JoinsNone asked past → joined (first asked.arguments) (second asked.arguments) past.notes ≡ None
none_joined asked past none = by (joined (first asked.arguments) (second asked.arguments) past.notes) refl
  where
    by : (o : Option ℕ) → joined (first asked.arguments) (second asked.arguments) past.notes ≡ o → o ≡ None
    by None is = refl
    by (Some n) is =
        let j = joined_is (first asked.arguments) (second asked.arguments) past.notes n is in
        let other = joins_so j.named.0.unique (ap joins (sym j.named.3) ∙ j.joins) in
        absurd (none n (j.named.0, j.named.1, j.lives, (j.named.2, j.named.3), other.0, other.1))

-- ---- requests that are refused

module _ (k : Settings) (c : ℕ) (start : Past) where
  error_is : (code : List ℕ) (after : Past) → after ≡ refuse c code start → IsError c code start after
  error_is code after is = subst (IsError c code start) (sym is) (refl, refl)

  -- a submission
  module _ (p : Priority) (background : Bool) (asked : Asked) where
    abbrev sub : Submission
    sub = submission p background asked.arguments

    abbrev f : List ℕ
    f = first asked.arguments

    submit_named : IsBadName f → submit k c sub start ≡ refuse c (codes "bad_function") start
    submit_named bad = rw (named_badly f bad) refl

    submit_many : (IsBadName f → ⊥) → JoinsNone asked start → IsOneTooMany k f start.notes → submit k c sub start ≡ refuse c (codes "too_many_functions") start
    submit_many good none many = rw (named_well f good, none_joined asked start none, many_too k f start many) refl

    submit_full : (IsBadName f → ⊥) → JoinsNone asked start → (IsOneTooMany k f start.notes → ⊥) → IsAtLimit f start.notes → submit k c sub start ≡ refuse c (codes "queue_full") start
    submit_full good none few fills = rw (named_well f good, none_joined asked start none, few_still k f start few, full_so f start fills) refl

    submit_last : (IsBadName f → ⊥) → JoinsNone asked start → (IsOneTooMany k f start.notes → ⊥) → (IsAtLimit f start.notes → ⊥) → 2 ^ 64 ≤ k.first_job + length (made start.notes)
        → submit k c sub start ≡ refuse c (codes "no_numbers") start
    submit_last good none few room most = rw (named_well f good, none_joined asked start none, few_still k f start few, room_so f start room, numberless k start most) refl

    submits : (code : List ℕ) → names_run asked.kind ≡ false → (asked.kind ≡ OptionReq → ⊥) → is_enabling asked.kind ≡ false → HasReason k c asked start code → IsError c code start (submit k c sub start)
    submits code runs chooses enables (inl (is, names, bad)) = subst (λ x. IsError c x start (submit k c sub start)) (sym is) (error_is (codes "bad_function") (submit k c sub start) (submit_named bad))
    submits code runs chooses enables (inr (inl (is, good, inl e, many))) = absurd (both_not (is_enabling asked.kind) e enables)
    submits code runs chooses enables (inr (inl (is, good, inr brings, many))) =
        subst (λ x. IsError c x start (submit k c sub start)) (sym is) (error_is (codes "too_many_functions") (submit k c sub start) (submit_many good brings.1 many))
    submits code runs chooses enables (inr (inr (inl (is, good, brings, fills)))) =
        subst (λ x. IsError c x start (submit k c sub start)) (sym is) (error_is (codes "queue_full") (submit k c sub start) (submit_full good brings.1 brings.2 fills))
    submits code runs chooses enables (inr (inr (inr (inl (is, good, brings, room, most))))) =
        subst (λ x. IsError c x start (submit k c sub start)) (sym is) (error_is (codes "no_numbers") (submit k c sub start) (submit_last good brings.1 brings.2 room most))
    submits code runs chooses enables (inr (inr (inr (inr (inl (is, e, none)))))) = absurd (both_not (names_run asked.kind) e runs)
    submits code runs chooses enables (inr (inr (inr (inr (inr (is, e, none)))))) = absurd (chooses e)

  -- a request of another sort
  module _ (asked : Asked) (code : List ℕ) (submits_not : is_submission asked.kind ≡ false) where
    enabling_refused : (t : ℕ) → names_run asked.kind ≡ false → (asked.kind ≡ OptionReq → ⊥) → HasReason k c asked start code → IsError c code start (can_do k c (first asked.arguments) t start)
    enabling_refused t runs chooses (inl (is, names, bad)) =
        subst (λ x. IsError c x start (can_do k c (first asked.arguments) t start)) (sym is) (error_is (codes "bad_function") (can_do k c (first asked.arguments) t start) (rw (named_badly (first asked.arguments) bad) refl))
    enabling_refused t runs chooses (inr (inl (is, good, brings, many))) =
        subst (λ x. IsError c x start (can_do k c (first asked.arguments) t start)) (sym is)
        (error_is (codes "too_many_functions") (can_do k c (first asked.arguments) t start) (rw (named_well (first asked.arguments) good, many_too k (first asked.arguments) start many) refl))
    enabling_refused t runs chooses (inr (inr (inl (is, good, brings, fills)))) = absurd (both_not (is_submission asked.kind) brings.0 submits_not)
    enabling_refused t runs chooses (inr (inr (inr (inl (is, good, brings, room, most))))) = absurd (both_not (is_submission asked.kind) brings.0 submits_not)
    enabling_refused t runs chooses (inr (inr (inr (inr (inl (is, e, none)))))) = absurd (both_not (names_run asked.kind) e runs)
    enabling_refused t runs chooses (inr (inr (inr (inr (inr (is, e, none)))))) = absurd (chooses e)

    module _ (enables : is_enabling asked.kind ≡ false) where
      brings_none : BringsFunction asked start → ⊥
      brings_none (inl e) = both_not (is_enabling asked.kind) e enables
      brings_none (inr e) = both_not (is_submission asked.kind) e.0 submits_not

      disabling_refused : names_run asked.kind ≡ false → (asked.kind ≡ OptionReq → ⊥) → HasReason k c asked start code → IsError c code start (cant_do c (first asked.arguments) start)
      disabling_refused runs chooses (inl (is, names, bad)) =
          subst (λ x. IsError c x start (cant_do c (first asked.arguments) start)) (sym is) (error_is (codes "bad_function") (cant_do c (first asked.arguments) start) (rw (named_badly (first asked.arguments) bad) refl))
      disabling_refused runs chooses (inr (inl (is, good, brings, many))) = absurd (brings_none brings)
      disabling_refused runs chooses (inr (inr (inl (is, good, brings, fills)))) = absurd (both_not (is_submission asked.kind) brings.0 submits_not)
      disabling_refused runs chooses (inr (inr (inr (inl (is, good, brings, room, most))))) = absurd (both_not (is_submission asked.kind) brings.0 submits_not)
      disabling_refused runs chooses (inr (inr (inr (inr (inl (is, e, none)))))) = absurd (both_not (names_run asked.kind) e runs)
      disabling_refused runs chooses (inr (inr (inr (inr (inr (is, e, none)))))) = absurd (chooses e)

      -- one that names no function
      module _ (names_not : names_function asked.kind ≡ false) where
        abbrev Later : Type 0
        Later =
            ((code ≡ codes "job_not_found") × (names_run asked.kind ≡ true) × ((n : ℕ) → job_state n start.notes ≡ states.Running c → first asked.arguments ≡ handle k n → ⊥))
            ⊎ ((code ≡ codes "unknown_option") × (asked.kind ≡ OptionReq) × (first asked.arguments ≡ codes "exceptions" → ⊥))

        later : HasReason k c asked start code → Later
        later (inl (is, names, bad)) = absurd (both_not (names_function asked.kind) names names_not)
        later (inr (inl (is, good, brings, many))) = absurd (brings_none brings)
        later (inr (inr (inl (is, good, brings, fills)))) = absurd (both_not (is_submission asked.kind) brings.0 submits_not)
        later (inr (inr (inr (inl (is, good, brings, room, most))))) = absurd (both_not (is_submission asked.kind) brings.0 submits_not)
        later (inr (inr (inr (inr l)))) = l

        found_not : (w : Work) → ((n : ℕ) → job_state n start.notes ≡ states.Running c → first asked.arguments ≡ handle k n → ⊥) → work k c (first asked.arguments) w start ≡ refuse c (codes "job_not_found") start
        found_not w none = by (job_of_handle k (first asked.arguments) start.notes) refl
          where
            by : (o : Option ℕ) → job_of_handle k (first asked.arguments) start.notes ≡ o → work_on k c w o start ≡ refuse c (codes "job_not_found") start
            by None is = refl
            by (Some n) is = at (is_running_at c (job_state n start.notes)) refl
              where
                at : (t : Bool) → is_running_at c (job_state n start.notes) ≡ t → cond t (tell_work k w n start) (refuse c (codes "job_not_found") start) ≡ refuse c (codes "job_not_found") start
                at true here = absurd (none n (runs_there c (job_state n start.notes) here) (handled_is k (first asked.arguments) start.notes n is))
                at false here = refl

        working_refused : (w : Work) → (asked.kind ≡ OptionReq → ⊥) → HasReason k c asked start code → IsError c code start (work k c (first asked.arguments) w start)
        working_refused w chooses r = by (later r)
          where
            by : Later → IsError c code start (work k c (first asked.arguments) w start)
            by (inl (is, e, none)) = subst (λ x. IsError c x start (work k c (first asked.arguments) w start)) (sym is) (error_is (codes "job_not_found") (work k c (first asked.arguments) w start) (found_not w none))
            by (inr (is, e, none)) = absurd (chooses e)

        option_refused : names_run asked.kind ≡ false → HasReason k c asked start code → IsError c code start (set_option c (first asked.arguments) start)
        option_refused runs r = by (later r)
          where
            other : (first asked.arguments ≡ codes "exceptions" → ⊥) → bytes_eq (first asked.arguments) (codes "exceptions") ≡ false
            other none = false_from_ne_true (bytes_eq (first asked.arguments) (codes "exceptions")) (λ e. none ((bytes_eq-Decides (first asked.arguments) (codes "exceptions")).0 e))

            by : Later → IsError c code start (set_option c (first asked.arguments) start)
            by (inl (is, e, none)) = absurd (both_not (names_run asked.kind) e runs)
            by (inr (is, e, none)) =
                subst (λ x. IsError c x start (set_option c (first asked.arguments) start)) (sym is) (error_is (codes "unknown_option") (set_option c (first asked.arguments) start) (rw (other none) refl))

        never_refused : {X : Type 0} → names_run asked.kind ≡ false → (asked.kind ≡ OptionReq → ⊥) → HasReason k c asked start code → X
        never_refused runs chooses r = by (later r)
          where
            by : {X : Type 0} → Later → X
            by (inl (is, e, none)) = absurd (both_not (names_run asked.kind) e runs)
            by (inr (is, e, none)) = absurd (chooses e)

  module _ (a : List (List ℕ)) (timeout : ℕ) where
    abbrev asks_for : Kind → Asked
    asks_for kind = record { kind = kind; arguments = a; timeout = timeout }

    refused : (kind : Kind) (code : List ℕ) → HasReason k c (asks_for kind) start code → IsError c code start (request k c kind a timeout start)
    refused CanDo code r = enabling_refused (asks_for CanDo) code refl 0 refl (λ e. let bad : ⊥ = cc in bad) r
    refused CanDoTimeout code r = enabling_refused (asks_for CanDoTimeout) code refl timeout refl (λ e. let bad : ⊥ = cc in bad) r
    refused CantDo code r = disabling_refused (asks_for CantDo) code refl refl refl (λ e. let bad : ⊥ = cc in bad) r
    refused SubmitJob code r = submits Normal false (asks_for SubmitJob) code refl (λ e. let bad : ⊥ = cc in bad) refl r
    refused SubmitJobBg code r = submits Normal true (asks_for SubmitJobBg) code refl (λ e. let bad : ⊥ = cc in bad) refl r
    refused SubmitJobHigh code r = submits High false (asks_for SubmitJobHigh) code refl (λ e. let bad : ⊥ = cc in bad) refl r
    refused SubmitJobHighBg code r = submits High true (asks_for SubmitJobHighBg) code refl (λ e. let bad : ⊥ = cc in bad) refl r
    refused SubmitJobLow code r = submits Low false (asks_for SubmitJobLow) code refl (λ e. let bad : ⊥ = cc in bad) refl r
    refused SubmitJobLowBg code r = submits Low true (asks_for SubmitJobLowBg) code refl (λ e. let bad : ⊥ = cc in bad) refl r
    refused WorkStatus code r = working_refused (asks_for WorkStatus) code refl refl refl (record (passing (work_status (first a) (second a) (third a))) { report = Some (second a, third a) }) (λ e. let bad : ⊥ = cc in bad) r
    refused WorkData code r = working_refused (asks_for WorkData) code refl refl refl (passing (work_data (first a) (second a))) (λ e. let bad : ⊥ = cc in bad) r
    refused WorkWarning code r = working_refused (asks_for WorkWarning) code refl refl refl (passing (work_warning (first a) (second a))) (λ e. let bad : ⊥ = cc in bad) r
    refused WorkException code r = working_refused (asks_for WorkException) code refl refl refl (record (passing (work_exception (first a) (second a))) { exceptions_only = true; ends = k.as_gearmand }) (λ e. let bad : ⊥ = cc in bad) r
    refused WorkComplete code r = working_refused (asks_for WorkComplete) code refl refl refl (ending (work_complete (first a) (second a))) (λ e. let bad : ⊥ = cc in bad) r
    refused WorkFail code r = working_refused (asks_for WorkFail) code refl refl refl (ending (work_fail (first a))) (λ e. let bad : ⊥ = cc in bad) r
    refused OptionReq code r = option_refused (asks_for OptionReq) code refl refl refl refl r
    refused kind code r = never_refused (asks_for kind) code refl refl refl refl (λ e. let bad : ⊥ = cc in bad) r

-- a packet that asks nothing, or what is refused
unserved : (k : Settings) (c : ℕ) (start : Past) (bytes code : List ℕ) (o : Option Kind) → IsUnserved k c (read_kind o bytes) start code → IsError c code start (packet_of k c o bytes start)
unserved k c start bytes code None is = subst (λ x. IsError c x start (packet_of k c None bytes start)) (sym is) (error_is k c start (codes "unknown_command") (packet_of k c None bytes start) refl)
unserved k c start bytes code (Some kind) is = by (read_as kind bytes) is
  where
    by : (o : Option Asked) → IsUnserved k c (ok_or o BadArguments) start code → IsError c code start (request_if_read k c o start)
    by None is = subst (λ x. IsError c x start (refuse c (codes "bad_arguments") start)) (sym is) (error_is k c start (codes "bad_arguments") (refuse c (codes "bad_arguments") start) refl)
    by (Some asked) is = refused k c start asked.arguments asked.timeout asked.kind code is

-- ---- what a request is answered with

module _ (k : Settings) (kind : Kind) where
  quiet : (start after : Past) → after.flow ≡ start.flow → JustAnswers k kind start after
  quiet start after e = ([], e, tt)

  says : (c : ℕ) (answer : Answer) (start after : Past) → answers k kind answer.kind ≡ true → after.flow ≡ Queued c (answer_packet answer) ∷ start.flow → JustAnswers k kind start after
  says c answer start after is e = (Queued c (answer_packet answer) ∷ [], e, ((answer, refl, is), tt))

  both_answer : (newer older : List Flow) → AllAnswer k kind newer → AllAnswer k kind older → AllAnswer k kind (newer ++ older)
  both_answer [] older a b = b
  both_answer (Queued c bytes ∷ newer) older a b = (a.0, both_answer newer older a.1 b)
  both_answer (other ∷ newer) older a b = absurd a

  further : (start between after : Past) → JustAnswers k kind start between → JustAnswers k kind between after → JustAnswers k kind start after
  further start between after a b =
      (b.0 ++ a.0, b.1 ∙ (ap (λ l. b.0 ++ l) a.1 ∙ sym (append_assoc b.0 a.0 start.flow)), both_answer b.0 a.0 b.2 a.2)

  tells : (answer : Answer) → answers k kind answer.kind ≡ true → (slots : List ℕ) (past : Past) → JustAnswers k kind past (tell_all answer slots past)
  tells answer is [] past = quiet past past refl
  tells answer is (c ∷ slots) past = further past (give c answer past) (tell_all answer slots (give c answer past)) (says c answer past (give c answer past) is refl) (tells answer is slots (give c answer past))

module _ (k : Settings) (c : ℕ) (start : Past) (history : History k start.notes) (a : List (List ℕ)) (timeout : ℕ) where
  abbrev asked : Kind → Asked
  asked kind = record { kind = kind; arguments = a; timeout = timeout }

  abbrev Answered : Kind → Past → Type 0
  Answered kind after = ((code : List ℕ) × HasReason k c (asked kind) start code) ⊎ JustAnswers k kind start after

  enabled : (kind : Kind) → is_enabling kind ≡ true → names_function kind ≡ true → (t : ℕ) → Answered kind (can_do k c (first a) t start)
  enabled kind enables names t = by (is_bad_name (first a)) (is_one_too_many k (first a) start.notes) refl refl
    where
      woken : (u : Bool) → (wake_if u c (with_note (notes.Can c (first a) t) (with_mention (first a) start))).flow ≡ start.flow
      woken true = mention_flow (first a) start
      woken false = mention_flow (first a) start

      by : (u v : Bool) → is_bad_name (first a) ≡ u → is_one_too_many k (first a) start.notes ≡ v
          → Answered kind (cond u (refuse c (codes "bad_function") start) (cond v (refuse c (codes "too_many_functions") start) (add_ability c (first a) t start)))
      by true v bad many = inl (codes "bad_function", inl (refl, names, bad_name (first a) bad))
      by false true bad many = inl (codes "too_many_functions", inr (inl (refl, (λ b. both_not (is_bad_name (first a)) (named_badly (first a) b) bad), inl enables, too_many k (first a) start.notes many)))
      by false false bad many = inr ([], woken (is_asleep (phase c start.notes) && not (is_empty (waiting_for (first a) start.notes))), tt)

  disabled : Answered CantDo (cant_do c (first a) start)
  disabled = by (is_bad_name (first a)) refl
    where
      by : (u : Bool) → is_bad_name (first a) ≡ u → Answered CantDo (cond u (refuse c (codes "bad_function") start) (with_note (notes.Cant c (first a)) start))
      by true bad = inl (codes "bad_function", inl (refl, refl, bad_name (first a) bad))
      by false bad = inr ([], refl, tt)

  slept : Answered PreSleep (pre_sleep k c start)
  slept = inr (quiet k PreSleep start (pre_sleep k c start) (by (is_awake (phase c start.notes)) (pick k c start.notes)))
    where
      by : (t : Bool) (o : Option Pick) → (cond t (sleep_beside o c (with_note (notes.Slept c) start)) start).flow ≡ start.flow
      by true None = refl
      by true (Some found) = refl
      by false o = refl

  grabbed : (kind : Kind) (uniq : Bool) → answers k kind 10 ≡ true → answers k kind (cond uniq 31 11) ≡ true → Answered kind (grab k c uniq start)
  grabbed kind uniq none some = inr (by (pick k c start.notes))
    where
      told : (n : ℕ) (o : Option Job) (past : Past) → past.flow ≡ start.flow → JustAnswers k kind start (tell_assigned k c uniq n o past)
      told n None past same = quiet k kind start past same
      told n (Some job) past same = says k kind c (assignment k uniq n job) start (give c (assignment k uniq n job) past) (is uniq some) (ap (λ flow. Queued c (answer_packet (assignment k uniq n job)) ∷ flow) same)
        where
          is : (u : Bool) → answers k kind (cond u 31 11) ≡ true → answers k kind (assignment k u n job).kind ≡ true
          is true e = e
          is false e = e

      by : (o : Option Pick) → JustAnswers k kind start (give_out k c uniq o (wake_itself c start))
      by None = says k kind c no_job start (give c no_job (wake_itself c start)) none (ap (λ flow. Queued c (answer_packet no_job) ∷ flow) (stirred_flow c start))
      by (Some found) = told found.job (job found.job (wake_itself c start).notes) _ (stirred_flow c start)

  -- a submission
  module _ (kind : Kind) (submits : is_submission kind ≡ true) (names : names_function kind ≡ true) (created : answers k kind 8 ≡ true) (good : IsBadName (first a) → ⊥) where
    module _ (none : JoinsNone (asked kind) start) where
      many_then : IsOneTooMany k (first a) start.notes → Answered kind (request k c kind a timeout start)
      many_then many = inl (codes "too_many_functions", inr (inl (refl, good, inr (submits, none), many)))

      fills_then : IsAtLimit (first a) start.notes → Answered kind (request k c kind a timeout start)
      fills_then fills = by (is_one_too_many k (first a) start.notes) refl
        where
          by : (t : Bool) → is_one_too_many k (first a) start.notes ≡ t → Answered kind (request k c kind a timeout start)
          by true many = many_then (too_many k (first a) start.notes many)
          by false few = inl (codes "queue_full", inr (inr (inl (refl, good, (submits, none, (λ many. both_not (is_one_too_many k (first a) start.notes) (many_too k (first a) start many) few)), fills))))

      last_then : 2 ^ 64 ≤ k.first_job + length (made start.notes) → Answered kind (request k c kind a timeout start)
      last_then most = by (is_one_too_many k (first a) start.notes) (is_full (first a) start.notes) refl refl
        where
          by : (t u : Bool) → is_one_too_many k (first a) start.notes ≡ t → is_full (first a) start.notes ≡ u → Answered kind (request k c kind a timeout start)
          by true u many fills = many_then (too_many k (first a) start.notes many)
          by false true few fills = fills_then (full (first a) start.notes fills)
          by false false few fills = inl (
            codes "no_numbers",
            inr (inr (inr (inl (
              refl,
              good,
              (submits, none, (λ many. both_not (is_one_too_many k (first a) start.notes) (many_too k (first a) start many) few)),
              (λ f. both_not (is_full (first a) start.notes) (full_so (first a) start f) fills),
              most,
            )))),
          )

    answered_so : SubmittedSo k c (asked kind) start (request k c kind a timeout start) → Answered kind (request k c kind a timeout start)
    answered_so (inl r) = inr (says k kind c (job_created (handle k r.n)) start (request k c kind a timeout start) created r.queued)
    answered_so (inr (code, text, queued, same, inl bad)) = absurd (good bad.1)
    answered_so (inr (code, text, queued, same, inr (none, inl many))) = many_then none (many.1, many.2)
    answered_so (inr (code, text, queued, same, inr (none, inr (inl fills)))) = fills_then none (fills.1, fills.2)
    answered_so (inr (code, text, queued, same, inr (none, inr (inr most)))) = last_then none most.1

  submitted : (kind : Kind) → is_submission kind ≡ true → names_function kind ≡ true → answers k kind 8 ≡ true → Answered kind (request k c kind a timeout start)
  submitted kind submits names created = by (is_bad_name (first a)) refl
    where
      by : (t : Bool) → is_bad_name (first a) ≡ t → Answered kind (request k c kind a timeout start)
      by true bad = inl (codes "bad_function", inl (refl, names, bad_name (first a) bad))
      by false good = answered_so kind submits names created (λ bad. both_not (is_bad_name (first a)) (named_badly (first a) bad) good) (request_answered k c start history kind a timeout submits)

  -- a report
  worked : (kind : Kind) → names_run kind ≡ true → (w : Work) → answers k kind w.answer.kind ≡ true → ((w.exceptions_only && w.ends) ≡ true → answers k kind 14 ≡ true) → Answered kind (work k c (first a) w start)
  worked kind runs w is fails = by (job_of_handle k (first a) start.notes) refl
    where
      same_job : (n m : ℕ) → job_of_handle k (first a) start.notes ≡ Some n → job_state m start.notes ≡ states.Running c → first a ≡ handle k m → n ≡ m
      same_job n m found here names =
          same_Some n m (sym found ∙ (ap (λ text. job_of_handle k text start.notes) names ∙ handle_names k start.notes m history (ap has_place here)))

      none_found : (n : ℕ) → job_of_handle k (first a) start.notes ≡ None → job_state n start.notes ≡ states.Running c → first a ≡ handle k n → ⊥
      none_found n none here names =
          let there : job_of_handle k (first a) start.notes ≡ Some n = ap (λ text. job_of_handle k text start.notes) names ∙ handle_names k start.notes n history (ap has_place here) in
          let bad : None ≡ Some n = sym none ∙ there in let worse : ⊥ = cc in worse

      passed : (n : ℕ) → JustAnswers k kind start (tell_work k w n start)
      passed n =
          let slots = listeners n start.notes in
          let one = keep_report n w.report start in
          let two = tell_all w.answer (hearers w.exceptions_only slots start.notes) one in
          let three = tell_others (w.exceptions_only && w.ends) (work_fail (handle k n)) slots start.notes two in
          let told = tells k kind w.answer is (hearers w.exceptions_only slots start.notes) one in
          let first_told : JustAnswers k kind start two = (told.0, told.1 ∙ ap (λ flow. told.0 ++ flow) (reported w.report), told.2) in
          let all = further k kind start two three first_told (others (w.exceptions_only && w.ends) fails two) in
          (all.0, ended w.ends three ∙ all.1, all.2)
        where
          others : (t : Bool) → (t ≡ true → answers k kind 14 ≡ true) → (past : Past) → JustAnswers k kind past (tell_others t (work_fail (handle k n)) (listeners n start.notes) start.notes past)
          others true may past = tells k kind (work_fail (handle k n)) (may refl) (filter (λ d. not (wants_exceptions d start.notes)) (listeners n start.notes)) past
          others false may past = quiet k kind past past refl

          ended : (t : Bool) (past : Past) → (end_if t n past).flow ≡ past.flow
          ended true past = refl
          ended false past = refl

          reported : (o : Option (List ℕ × List ℕ)) → (keep_report n o start).flow ≡ start.flow
          reported None = refl
          reported (Some numbers) = refl

      by : (o : Option ℕ) → job_of_handle k (first a) start.notes ≡ o → Answered kind (work_on k c w o start)
      by None none = inl (codes "job_not_found", inr (inr (inr (inr (inl (refl, runs, λ n here names. none_found n none here names))))))
      by (Some n) found = at (is_running_at c (job_state n start.notes)) refl
        where
          at : (t : Bool) → is_running_at c (job_state n start.notes) ≡ t → Answered kind (cond t (tell_work k w n start) (refuse c (codes "job_not_found") start))
          at true here = inr (passed n)
          at false other = inl (
            codes "job_not_found",
            inr (inr (inr (inr (inl (
              refl,
              runs,
              λ m here names.
                  let there : is_running_at c (job_state n start.notes) ≡ true = ap (λ x. is_running_at c (job_state x start.notes)) (same_job n m found here names) ∙ (ap (is_running_at c) here ∙ same_number c) in
                  both_not (is_running_at c (job_state n start.notes)) there other,
            ))))),
          )

  known : (answer : Answer) → answers k GetStatus answer.kind ≡ true → JustAnswers k GetStatus start (give c answer start)
  known answer is = says k GetStatus c answer start (give c answer start) is refl

  told_status : Answered GetStatus (tell_status k c (first a) (job_of_handle k (first a) start.notes) start)
  told_status = inr (by (job_of_handle k (first a) start.notes))
    where
      by : (o : Option ℕ) → JustAnswers k GetStatus start (tell_status k c (first a) o start)
      by None = known (status_res (first a) false false (codes "0") (codes "0")) refl
      by (Some n) = at (is_live (job_state n start.notes))
        where
          at : (t : Bool) → JustAnswers k GetStatus start (cond t (give c (status_res (first a) true (is_running (job_state n start.notes)) (report n start.notes).0 (report n start.notes).1) start) (give c (status_res (first a) false false (codes "0") (codes "0")) start))
          at true = known (status_res (first a) true (is_running (job_state n start.notes)) (report n start.notes).0 (report n start.notes).1) refl
          at false = known (status_res (first a) false false (codes "0") (codes "0")) refl

  chosen : Answered OptionReq (set_option c (first a) start)
  chosen = by (bytes_eq (first a) (codes "exceptions")) refl
    where
      by : (t : Bool) → bytes_eq (first a) (codes "exceptions") ≡ t → Answered OptionReq (cond t (give c (option_res (first a)) (with_note (notes.OptionSet c) start)) (refuse c (codes "unknown_option") start))
      by true is = inr (says k OptionReq c (option_res (first a)) start (give c (option_res (first a)) (with_note (notes.OptionSet c) start)) refl refl)
      by false other = inl (
        codes "unknown_option",
        inr (inr (inr (inr (inr (refl, refl, λ e. both_not (bytes_eq (first a) (codes "exceptions")) ((bytes_eq-Decides (first a) (codes "exceptions")).1 e) other))))),
      )

  answered : (kind : Kind) → Answered kind (request k c kind a timeout start)
  answered CanDo = enabled CanDo refl refl 0
  answered CanDoTimeout = enabled CanDoTimeout refl refl timeout
  answered CantDo = disabled
  answered PreSleep = slept
  answered GrabJob = grabbed GrabJob false refl refl
  answered GrabJobUniq = grabbed GrabJobUniq true refl refl
  answered SubmitJob = submitted SubmitJob refl refl refl
  answered SubmitJobBg = submitted SubmitJobBg refl refl refl
  answered SubmitJobHigh = submitted SubmitJobHigh refl refl refl
  answered SubmitJobHighBg = submitted SubmitJobHighBg refl refl refl
  answered SubmitJobLow = submitted SubmitJobLow refl refl refl
  answered SubmitJobLowBg = submitted SubmitJobLowBg refl refl refl
  answered WorkStatus = worked WorkStatus refl (record (passing (work_status (first a) (second a) (third a))) { report = Some (second a, third a) }) refl (λ e. absurd cc)
  answered WorkData = worked WorkData refl (passing (work_data (first a) (second a))) refl (λ e. absurd cc)
  answered WorkWarning = worked WorkWarning refl (passing (work_warning (first a) (second a))) refl (λ e. absurd cc)
  answered WorkException = worked WorkException refl (record (passing (work_exception (first a) (second a))) { exceptions_only = true; ends = k.as_gearmand }) refl (λ e. rw e refl)
  answered WorkComplete = worked WorkComplete refl (ending (work_complete (first a) (second a))) refl (λ e. absurd cc)
  answered WorkFail = worked WorkFail refl (ending (work_fail (first a))) refl (λ e. absurd cc)
  answered GetStatus = told_status
  answered EchoReq = inr (says k EchoReq c (echo_res (first a)) start (give c (echo_res (first a)) start) refl refl)
  answered OptionReq = chosen
  answered kind = inr (quiet k kind start (request k c kind a timeout start) refl)

-- ---- text lines

module _ (k : Settings) (c : ℕ) (start : Past) where
  erroneous : (r : Result Commanded AdminFault) (error : AdminError) → IsErroneous k r start error → IsErr c error start (command k c r start)
  erroneous (Err faults.UnknownCommand) error is = subst (λ x. IsErr c x start (refuse_line c errors.UnknownCommand start)) (sym is) (refl, refl)
  erroneous (Err faults.MissingName) error is = subst (λ x. IsErr c x start (refuse_line c errors.MissingName start)) (sym is) (refl, refl)
  erroneous (Err faults.BadSize) error is = subst (λ x. IsErr c x start (refuse_line c errors.BadSize start)) (sym is) (refl, refl)
  erroneous (Ok (MaxQueue f size)) error (inl (is, bad)) = subst (λ x. IsErr c x start (maxqueue k c f size start)) (sym is) (rw (word_badly f bad) (refl, refl))
  erroneous (Ok (MaxQueue f size)) error (inr (is, good, many)) = subst (λ x. IsErr c x start (maxqueue k c f size start)) (sym is) (rw (word_well f good, many_too k f start many) (refl, refl))
  erroneous (Ok command) error is = absurd is

told_of : (c : ℕ) (fault : UnitFault) (start : Past) → IsToldOf c fault start (with_note (notes.Shut c) (with_output c (fault_text fault) start))
told_of c BadMagic start = refl
told_of c PacketTooLarge start = refl
told_of c LineTooLong start = refl

pub refusals : (k : Settings) (steps : List Step) (s : Step) → RefusalsHaveTheirReason k (run k steps) s (run k (s ∷ steps))
refusals k steps s c takes =
    let start = run k steps in (
      (λ number bytes code is why.
          subst (IsError c code start) (sym (ap (λ x. step k x start) is ∙ taken_is (takes_units c start.notes) (packet_of k c (kind_of number) bytes start) start takes)) (unserved k c start bytes code (kind_of number) why)),
      (λ line error is why.
          subst (IsErr c error start) (sym (ap (λ x. step k x start) is ∙ taken_is (takes_units c start.notes) (command k c (command_of line) start) start takes)) (erroneous k c start (command_of line) error why)),
      (λ fault is.
          subst (IsToldOf c fault start) (sym (ap (λ x. step k x start) is ∙ taken_is (takes_units c start.notes) (with_note (notes.Shut c) (with_output c (fault_text fault) start)) start takes)) (told_of c fault start)),
      λ asked asks.
          subst (λ after. ((code : List ℕ) × HasReason k c asked start code) ⊎ JustAnswers k asked.kind start after) (sym (request_does k s start c asked takes asks))
          (answered k c start (run_history k steps) asked.arguments asked.timeout asked.kind),
    )
