-- Whatever each small change keeps, each step keeps.
use Rattle.std.proofs.Common.{◌≡◌, inl, inr, ℕ, ◌<◌, ◌≤◌, Bool, true, false, cond, not, ◌&&◌, List, [], ◌∷◌, Option, Some, None, Result, Ok, Err}
use Rattle.std.proofs.Common.{refl, sym, ap, subst, ◌∙◌, arith, max}
use Rattle.std.specs.Prelude.{codes, ◌==◌, ◌||◌, unwrap_or}
use Rattle.std.specs.Str.{bytes_eq}
use Rattle.std.specs.Option.{ok_or}
use Rattle.std.proofs.lemmas.Bool.{and_parts, or_left, or_right}
use Rattle.std.proofs.lemmas.Bool.Decides.{nat_tests}
use Rattle.std.proofs.lemmas.Option.{same_Some}
use Rattle.std.proofs.lemmas.Slice.Eq.{bytes_eq-Decides}
use Rattle.gm_packet.specs.declared.kind.Kind.{Kind}
use Rattle.gm_packet.specs.declared.kind.Kind.TheVariants.{CanDo, CantDo, ResetAbilities, PreSleep, SubmitJob, GrabJob}
use Rattle.gm_packet.specs.declared.kind.Kind.TheVariants.{WorkStatus, WorkComplete, WorkFail, GetStatus, EchoReq, SubmitJobBg}
use Rattle.gm_packet.specs.declared.kind.Kind.TheVariants.{SubmitJobHigh, SetClientId, CanDoTimeout, AllYours, WorkException}
use Rattle.gm_packet.specs.declared.kind.Kind.TheVariants.{OptionReq, WorkData, WorkWarning, GrabJobUniq, SubmitJobHighBg}
use Rattle.gm_packet.specs.declared.kind.Kind.TheVariants.{SubmitJobLow, SubmitJobLowBg}
use Rattle.gm_packet.specs.Kinds.{kind_of}
use Rattle.gm_packet.specs.Requests.{Asked, read_as, read_kind, request_of}
use Rattle.gm_packet.specs.declared.request.RequestFault.TheVariants.{BadArguments}
use Rattle.gm_packet.specs.Answers.{Answer, answer_packet, status_res, echo_res, work_status, work_data, work_warning}
use Rattle.gm_packet.specs.Answers.{work_exception, work_complete, work_fail, option_res}
use Rattle.gm_notes.specs.declared.states.Priority.{Priority}
use Rattle.gm_notes.specs.declared.states.Priority.TheVariants.{High, Normal, Low}
use Rattle.gm_admin.specs.declared.fault.AdminFault.{AdminFault}
use Rattle.gm_admin.specs.declared.fault.AdminError.{AdminError}
use Rattle.gm_admin.specs.declared.fault.AdminError.TheVariants as errors
use Rattle.gm_admin.specs.Commands.{Commanded, Status, Workers, MaxQueue, Version, Shutdown, command_of}
use Rattle.gm_admin.specs.Answers.{ok_text, version_text, error_text, status_text, workers_text}
use Rattle.gm_notes.specs.declared.states.Mode.{Mode}
use Rattle.gm_notes.specs.declared.states.Mode.TheVariants as modes
use Rattle.gm_notes.specs.declared.event.ApplyError.{ApplyError}
use Rattle.gm_notes.specs.declared.event.ApplyError.TheVariants.{NotOpen, NotOwed}
use Rattle.gm_notes.specs.declared.note.Note.{Note}
use Rattle.gm_notes.specs.declared.note.Note.TheVariants as notes
use Rattle.gm_notes.specs.Settings.{Settings}
use Rattle.gm_notes.specs.Notes.{is_open, is_shut, takes_units, phase, is_asleep, is_owed, moment, mode, slots_from}
use Rattle.gm_notes.specs.Jobs.{Job, job_state, job, is_wanted, is_last_try, is_mentioned, report, listeners, deadline, handle, job_of_handle}
use Rattle.gm_notes.specs.JobStates.{JobState, is_waiting, is_running, is_running_at, is_live}
use Rattle.gm_notes.specs.JobStates as states
use Rattle.gm_notes.specs.Past.{Past, with_note, with_flow, with_output, give, refuse, with_mention, tell_all}
use Rattle.gm_notes.specs.Submissions.{is_one_too_many}
use Rattle.gm_notes.specs.Texts.{fault_text}
use Rattle.gm_notes.specs.Flow.{Drained}
use Rattle.gm_notes.specs.Submissions.{submit}
use Rattle.gm_notes.specs.Workers.{wake_itself, can_do, wants_exceptions, work}
use Rattle.gm_notes.specs.Requests.{packet_of, first, second, third, submission, passing, ending, tell_status, set_option}
use Rattle.gm_notes.specs.Requests.{request, request_if_read}
use Rattle.gm_notes.specs.Lines.{refuse_line, fault_error, status_rows, worker_rows, is_bad_word, maxqueue, shut_one}
use Rattle.gm_notes.specs.Lines.{shut_each, go_graceful, shutdown, command}
use Rattle.gm_notes.specs.Closings.{discard_one, discard_each, wake_for, return_or_lose, give_back_one, give_back_each, disconnect, rising}
use Rattle.gm_notes.specs.Closings.{close, is_reached, expire_one, expire_each, tick}
use Rattle.gm_notes.specs.Steps.{Step, Open, Packet, Line, Fault, Close, Tick, Took, Withdrew, Drain, free_slot, opening}
use Rattle.gm_notes.specs.Steps.{refusal, unless_not_open, unless, add, step, run}
use Rattle.gm_notes.proofs.FreeSlots.{free_is}
use Rattle.gm_history.specs.History.{runs_at_a_slot, progress, Allowed, History}
use Rattle.gm_history.specs.Causes.{is_one_of, asks, is_request, is_submission, is_foreground, is_background, is_enabling}
use Rattle.gm_history.specs.Causes.{is_sleeping, is_grab, is_ending, is_close, closes}
use Rattle.gm_history.specs.Causes.{priority_of, job_seconds, Commands, Ends}
use Rattle.gm_history.specs.Hearing.{listens, passed_on, MayGet}
use Rattle.gm_history.proofs.Asking.{kind_read, request_asks, slot_asks, enabling_kind}
use Rattle.gm_history.proofs.Listeners.{listeners_open}
use Rattle.gm_history.proofs.Sayings.{Another, GivesNone, Other, fail_another, status_other, complete_another, data_other, warning_other}
use Rattle.gm_history.proofs.Sayings.{exception_another, exception_ends}
use Rattle.gm_history.proofs.Sayings.{echo_other, option_other, known_other, ok_other, version_other, refusal_other, fault_other}
use Rattle.gm_history.proofs.Sayings.{list_other, rows_other}
use Rattle.gm_history.proofs.Keeping.{Keeps, Held, MayQueue, IsHome, not_said, kept_if, held_if, note_keeps, says_keeps, gives_keeps, refuses_keeps}
use Rattle.gm_history.proofs.Keeping.{tells_keeps, wake_keeps, mentions_keeps, mentioned, submit_keeps, can_do_keeps, cant_do_keeps}
use Rattle.gm_history.proofs.Keeping.{pre_sleep_keeps, stir_keeps, grab_keeps, works_keeps, tell_all_notes, runs_somewhere, counted}
use Rattle.gm_notes.proofs.Numbers.{same_number}
use Rattle.std.proofs.lemmas.Bool.{not-true}

-- ---- requests

module _ {k : Settings} {I : Past → Type 0} (start : Past) (c number : ℕ) (bytes : List ℕ) (K : Keeps k start.notes (Packet c number bytes) I) (opened : is_open c start.notes ≡ true) (h : Held k I start) where
  abbrev the_step : Step
  the_step = Packet c number bytes

  home : IsHome k start.notes the_step c
  home out = inl refl

  tells_status : (text : List ℕ) (o : Option ℕ) → Held k I (tell_status k c text o start)
  tells_status text None = gives_keeps K c home (status_res text false false (codes "0") (codes "0")) start opened (known_other text false false (codes "0") (codes "0")) h
  tells_status text (Some n) =
      held_if K (is_live (job_state n start.notes)) _ _
      (λ e. gives_keeps K c home (status_res text true (is_running (job_state n start.notes)) (report n start.notes).0 (report n start.notes).1) start opened (known_other text true (is_running (job_state n start.notes)) (report n start.notes).0 (report n start.notes).1) h)
      (λ e. gives_keeps K c home (status_res text false false (codes "0") (codes "0")) start opened (known_other text false false (codes "0") (codes "0")) h)

  -- what is asked
  module _ (asked : Asked) (reads : request_of number bytes ≡ Ok asked) where
    by_kind : (kinds : Kind → Bool) → kinds asked.kind ≡ true → is_one_of kinds (kind_of number) ≡ true
    by_kind kinds e = request_asks kinds c the_step asked (refl, reads) e

    by_slot : (kinds : Kind → Bool) → kinds asked.kind ≡ true → asks kinds c the_step ≡ true
    by_slot kinds e = slot_asks kinds c the_step asked (refl, reads) e

    enables : (t : ℕ) → job_seconds asked.kind asked.timeout ≡ Some t → Held k I (can_do k c (first asked.arguments) t start)
    enables t seconds =
        let kind = enabling_kind asked.kind asked.timeout t seconds in
        can_do_keeps K c home (first asked.arguments) t start (by_slot is_enabling kind)
        (inl (c, asked, (refl, reads), or_right (is_submission asked.kind) (is_enabling asked.kind) kind, refl)) (asked, (refl, reads), seconds, refl) opened h

    submits : (p : Priority) (background : Bool) → priority_of asked.kind ≡ Some p → (background ≡ true → is_background asked.kind ≡ true) → (background ≡ false → is_foreground asked.kind ≡ true)
        → Held k I (submit k c (submission p background asked.arguments) start)
    submits p background priority kept heard =
        submit_keeps K c home (submission p background asked.arguments)
        (record { asked = asked; asks = (refl, reads); priority = priority; function = refl; unique = refl; body = refl; keeps = kept; hears = heard })
        start opened h

    -- what is passed on
    gets : (n : ℕ) (answer passed : Answer) → job_state n start.notes ≡ states.Running c → first asked.arguments ≡ handle k n → (d : ℕ) → passed_on k (wants_exceptions d start.notes) n asked.kind asked.arguments ≡ Some passed
        → answer_packet answer ≡ answer_packet passed → 0 < listens d n start.notes → MayGet k start.notes the_step d (answer_packet answer)
    gets n answer passed runs names d is same lt = inr (n, asked, passed, (refl, reads), runs, names, is, same, lt)

    -- what doesn't end the job
    passes : (answer : Answer) (to : List ℕ → Answer) → ((n : ℕ) (wants : Bool) → passed_on k wants n asked.kind asked.arguments ≡ Some (to (handle k n))) → to (first asked.arguments) ≡ answer → Other (answer_packet answer)
        → Held k I (work k c (first asked.arguments) (passing answer) start)
    passes answer to passed is other =
        works_keeps K c home (first asked.arguments) (passing answer) start
        (λ n runs names. record {
          tells = λ d lt wants.
              not_said K d (answer_packet answer) other
              (gets n answer (to (handle k n)) runs names d (passed n (wants_exceptions d start.notes)) (ap answer_packet (sym is) ∙ ap (λ h. answer_packet (to h)) names) lt);
          tells_others = λ d lt e. absurd cc;
          reports = λ a b e. absurd cc;
          ends = λ e. absurd cc;
        }) opened h

    -- what tells of an end is said, where the request ends the job that it names
    says_end : (d : ℕ) (out : List ℕ) → is_ending k asked.kind ≡ true → Another out × GivesNone out → MayGet k start.notes the_step d out → MayQueue k start.notes the_step d out
    says_end d out may other gets =
        ((λ e. absurd (other.0 e)), (λ x y e. or_left (is_one_of (is_ending k) (kind_of number)) false (by_kind (is_ending k) may)), gets, (λ x y e. absurd (other.1 x y e)))

    ends_with : (answer : Answer) (to : List ℕ → Answer) → ((n : ℕ) (wants : Bool) → passed_on k wants n asked.kind asked.arguments ≡ Some (to (handle k n))) → to (first asked.arguments) ≡ answer → is_ending k asked.kind ≡ true → Another (answer_packet answer) × GivesNone (answer_packet answer)
        → Held k I (work k c (first asked.arguments) (ending answer) start)
    ends_with answer to passed is may other =
        works_keeps K c home (first asked.arguments) (ending answer) start
        (λ n runs names. record {
          tells = λ d lt wants.
              says_end d (answer_packet answer) may other
              (gets n answer (to (handle k n)) runs names d (passed n (wants_exceptions d start.notes)) (ap answer_packet (sym is) ∙ ap (λ h. answer_packet (to h)) names) lt);
          tells_others = λ d lt e. absurd cc;
          reports = λ a b e. absurd cc;
          ends = λ e. (by_kind (is_ending k) may, runs, (asked, reads, names));
        }) opened h

  module _ (a : List (List ℕ)) (timeout : ℕ) where
    abbrev asks_for : Kind → Asked
    asks_for kind = record { kind = kind; arguments = a; timeout = timeout }

    abbrev Reads : Kind → Type 0
    Reads kind = request_of number bytes ≡ Ok (asks_for kind)

    reports_status : Reads WorkStatus → Held k I (work k c (first a) (record (passing (work_status (first a) (second a) (third a))) { report = Some (second a, third a) }) start)
    reports_status reads =
        let answer = work_status (first a) (second a) (third a) in
        works_keeps K c home (first a) (record (passing answer) { report = Some (second a, third a) }) start
        (λ n runs names. record {
          tells = λ d lt wants. not_said K d (answer_packet answer) (status_other (first a) (second a) (third a))
              (gets (asks_for WorkStatus) reads n answer (work_status (handle k n) (second a) (third a)) runs names d refl (ap (λ h. answer_packet (work_status h (second a) (third a))) names) lt);
          tells_others = λ d lt e. absurd cc;
          reports = λ x y e.
              let same : (second a, third a) ≡ (x, y) = same_Some (second a, third a) (x, y) e in
              (c, asks_for WorkStatus, (refl, reads), refl, runs, names, ap (λ (p : List ℕ × List ℕ). p.0) same, ap (λ (p : List ℕ × List ℕ). p.1) same);
          ends = λ e. absurd cc;
        }) opened h

    -- an exception goes to whom wants it; where it ends the job, the others are told so
    raises : Reads WorkException → Held k I (work k c (first a) (record (passing (work_exception (first a) (second a))) { exceptions_only = true; ends = k.as_gearmand }) start)
    raises reads =
        let asked = asks_for WorkException in
        let answer = work_exception (first a) (second a) in
        let other = exception_another (first a) (second a) in
        works_keeps K c home (first a) (record (passing answer) { exceptions_only = true; ends = k.as_gearmand }) start
        (λ n runs names. record {
          tells = λ d lt wants. (
            (λ e. absurd (other.0 e)),
            (λ x y e. or_left (is_one_of (is_ending k) (kind_of number)) false (by_kind asked reads (is_ending k) (exception_ends (first a) (second a) k x y e))),
            gets asked reads n answer (work_exception (handle k n) (second a)) runs names d (rw (wants refl) refl) (ap (λ h. answer_packet (work_exception h (second a))) names) lt,
            (λ x y e. absurd (other.1 x y e)),
          );
          tells_others = λ d lt set wants.
              says_end asked reads d (answer_packet (work_fail (handle k n))) set (fail_another (handle k n)) (gets asked reads n (work_fail (handle k n)) (work_fail (handle k n)) runs names d (rw (wants, set) refl) refl lt);
          reports = λ x y e. absurd cc;
          ends = λ e. (by_kind asked reads (is_ending k) e, runs, (asked, reads, names));
        }) opened h

    chooses : Reads OptionReq → Held k I (set_option c (first a) start)
    chooses reads =
        held_if K (bytes_eq (first a) (codes "exceptions")) (give c (option_res (first a)) (with_note (notes.OptionSet c) start)) (refuse c (codes "unknown_option") start)
        (λ e. gives_keeps K c home (option_res (first a)) (with_note (notes.OptionSet c) start) opened (option_other (first a))
        (note_keeps K (notes.OptionSet c) start refl opened (asks_for OptionReq, (refl, reads), refl, (bytes_eq-Decides (first a) (codes "exceptions")).0 e) h))
        (λ e. refuses_keeps K c home (codes "unknown_option") start opened h)

    pub request_keeps : (kind : Kind) → Reads kind → Held k I (request k c kind a timeout start)
    request_keeps CanDo reads = enables (asks_for CanDo) reads 0 refl
    request_keeps CanDoTimeout reads = enables (asks_for CanDoTimeout) reads timeout refl
    request_keeps CantDo reads = cant_do_keeps K c home (first a) start (asks_for CantDo, (refl, reads), refl, refl) opened h
    request_keeps ResetAbilities reads = note_keeps K (notes.Reset c) start refl opened (asks_for ResetAbilities, (refl, reads), refl) h
    request_keeps PreSleep reads = pre_sleep_keeps K c home start (by_slot (asks_for PreSleep) reads is_sleeping refl) opened h
    request_keeps GrabJob reads = grab_keeps K c home false start (by_slot (asks_for GrabJob) reads is_grab refl) refl opened h
    request_keeps GrabJobUniq reads = grab_keeps K c home true start (by_slot (asks_for GrabJobUniq) reads is_grab refl) refl opened h
    request_keeps SubmitJob reads = submits (asks_for SubmitJob) reads Normal false refl (λ e. absurd cc) (λ e. refl)
    request_keeps SubmitJobBg reads = submits (asks_for SubmitJobBg) reads Normal true refl (λ e. refl) (λ e. absurd cc)
    request_keeps SubmitJobHigh reads = submits (asks_for SubmitJobHigh) reads High false refl (λ e. absurd cc) (λ e. refl)
    request_keeps SubmitJobHighBg reads = submits (asks_for SubmitJobHighBg) reads High true refl (λ e. refl) (λ e. absurd cc)
    request_keeps SubmitJobLow reads = submits (asks_for SubmitJobLow) reads Low false refl (λ e. absurd cc) (λ e. refl)
    request_keeps SubmitJobLowBg reads = submits (asks_for SubmitJobLowBg) reads Low true refl (λ e. refl) (λ e. absurd cc)
    request_keeps WorkStatus reads = reports_status reads
    request_keeps WorkData reads = passes (asks_for WorkData) reads (work_data (first a) (second a)) (λ h. work_data h (second a)) (λ n wants. refl) refl (data_other (first a) (second a))
    request_keeps WorkWarning reads = passes (asks_for WorkWarning) reads (work_warning (first a) (second a)) (λ h. work_warning h (second a)) (λ n wants. refl) refl (warning_other (first a) (second a))
    request_keeps WorkException reads = raises reads
    request_keeps WorkComplete reads = ends_with (asks_for WorkComplete) reads (work_complete (first a) (second a)) (λ h. work_complete h (second a)) (λ n wants. refl) refl refl (complete_another (first a) (second a))
    request_keeps WorkFail reads = ends_with (asks_for WorkFail) reads (work_fail (first a)) (λ h. work_fail h) (λ n wants. refl) refl refl (fail_another (first a))
    request_keeps GetStatus reads = tells_status (first a) (job_of_handle k (first a) start.notes)
    request_keeps EchoReq reads = gives_keeps K c home (echo_res (first a)) start opened (echo_other (first a)) h
    request_keeps SetClientId reads = note_keeps K (notes.Named c (first a)) start refl opened (asks_for SetClientId, (refl, reads), refl, refl) h
    request_keeps OptionReq reads = chooses reads
    request_keeps AllYours reads = h

  read_keeps : (kind : Kind) (o : Option Asked) → kind_of number ≡ Some kind → (o ≡ read_as kind bytes) → Held k I (request_if_read k c o start)
  read_keeps kind None is read = refuses_keeps K c home (codes "bad_arguments") start opened h
  read_keeps kind (Some asked) is read = request_keeps asked.arguments asked.timeout asked.kind (ap (λ o. read_kind o bytes) is ∙ ap (λ o. ok_or o BadArguments) (sym read))

  pub packet_keeps : (o : Option Kind) → kind_of number ≡ o → Held k I (packet_of k c o bytes start)
  packet_keeps None is = refuses_keeps K c home (codes "unknown_command") start opened h
  packet_keeps (Some kind) is =
      read_keeps kind (read_as kind bytes) is refl

-- a packet whose kind is one of these, by what its request does
pub packet_of_kinds : (P : List Note → Type 0) (k : Settings) (c : ℕ) (kinds : Kind → Bool) (bytes : List ℕ) (start : Past) → P start.notes
    → ((kind : Kind) (a : List (List ℕ)) (timeout : ℕ) → kinds kind ≡ true → P (request k c kind a timeout start).notes)
    → (o : Option Kind) → is_one_of kinds o ≡ true → P (packet_of k c o bytes start).notes
packet_of_kinds P k c kinds bytes start p more None e = absurd cc
packet_of_kinds P k c kinds bytes start p more (Some kind) e =
    read_of_kind (read_as kind bytes) refl
  where
    read_of_kind : (o : Option Asked) → o ≡ read_as kind bytes → P (request_if_read k c o start).notes
    read_of_kind None is = p
    read_of_kind (Some asked) is = more asked.kind asked.arguments asked.timeout (ap kinds (kind_read kind bytes asked (sym is)) ∙ e)

-- ---- lines

module _ {k : Settings} {before : List Note} {s : Step} {I : Past → Type 0} (K : Keeps k before s I) (c : ℕ) (home : IsHome k before s c) where
  says : (text : List ℕ) (past : Past) → is_open c past.notes ≡ true → Other text → Held k I past → Held k I (with_output c text past)
  says text past opened other h = says_keeps K c text past opened (not_said K c text other (home text)) h

  shut_one_keeps : (d : ℕ) (past : Past) → Commands s (Shutdown false) → Held k I past → Held k I (shut_one d past)
  shut_one_keeps d past may h =
      held_if K (is_open d past.notes && not (is_shut d past.notes)) (with_note (notes.Shut d) past) past
      (λ e. note_keeps K (notes.Shut d) past refl (and_parts (is_open d past.notes) (not (is_shut d past.notes)) e).0 (inr may) h) (λ e. h)

  shut_each_keeps : (slots : List ℕ) (past : Past) → Commands s (Shutdown false) → Held k I past → Held k I (shut_each slots past)
  shut_each_keeps [] past may h = h
  shut_each_keeps (d ∷ slots) past may h = shut_each_keeps slots (shut_one d past) may (shut_one_keeps d past may h)

  went_keeps : (m : Mode) (past : Past) → mode past.notes ≡ m → Commands s (Shutdown true) → Held k I past → Held k I (go_graceful m past)
  went_keeps modes.Running past is may h = note_keeps K (notes.Went modes.Graceful) past refl (subst (λ m. progress m ≤ 1) (sym is) (omega arith)) may h
  went_keeps modes.Graceful past is may h = h
  went_keeps modes.Stopped past is may h = h

  went_open : (m : Mode) (past : Past) → is_open c past.notes ≡ true → is_open c (go_graceful m past).notes ≡ true
  went_open modes.Running past opened = opened
  went_open modes.Graceful past opened = opened
  went_open modes.Stopped past opened = opened

  most_progress : (m : Mode) → progress m ≤ 2
  most_progress modes.Running = omega arith
  most_progress modes.Graceful = omega arith
  most_progress modes.Stopped = omega arith

  shutdown_keeps : (graceful : Bool) (past : Past) → Commands s (Shutdown graceful) → is_open c past.notes ≡ true → Held k I past → Held k I (shutdown k c graceful past)
  shutdown_keeps true past may opened h = says ok_text (go_graceful (mode past.notes) past) (went_open (mode past.notes) past opened) ok_other (went_keeps (mode past.notes) past refl may h)
  shutdown_keeps false past may opened h =
      shut_each_keeps (slots_from 0 k.slots) (with_output c ok_text (with_note (notes.Went modes.Stopped) past)) may
      (says ok_text (with_note (notes.Went modes.Stopped) past) opened ok_other (note_keeps K (notes.Went modes.Stopped) past refl (most_progress (mode past.notes)) may h))

  refuses_line : (error : AdminError) (past : Past) → is_open c past.notes ≡ true → Held k I past → Held k I (refuse_line c error past)
  refuses_line error past opened h = says (error_text error) past opened (refusal_other error) h

  maxqueue_keeps : (f : List ℕ) (size : ℕ) (past : Past) → Commands s (MaxQueue f size) → is_open c past.notes ≡ true → Held k I past → Held k I (maxqueue k c f size past)
  maxqueue_keeps f size past may opened h =
      held_if K (is_bad_word f) (refuse_line c errors.BadFunction past) _ (λ e. refuses_line errors.BadFunction past opened h)
      (λ e. held_if K (is_one_too_many k f past.notes) (refuse_line c errors.TooManyFunctions past) _ (λ g. refuses_line errors.TooManyFunctions past opened h)
      (λ g. says ok_text (with_note (notes.Limit f size) (with_mention f past))
      (kept_if (λ l. is_open c l ≡ true) (is_mentioned f past.notes) past (with_note (notes.Mention f) past) opened opened) ok_other
      (note_keeps K (notes.Limit f size) (with_mention f past) refl (mentioned f past) may (mentions_keeps K f past (inr (size, may)) g h))))

  pub command_keeps : (r : Result Commanded AdminFault) (past : Past) → ((asked : Commanded) → r ≡ Ok asked → Commands s asked) → is_open c past.notes ≡ true → Held k I past → Held k I (command k c r past)
  command_keeps (Err fault) past may opened h = refuses_line (fault_error fault) past opened h
  command_keeps (Ok Status) past may opened h = says (status_text (status_rows k past.notes)) past opened (list_other (status_rows k past.notes)) h
  command_keeps (Ok Workers) past may opened h = says (workers_text (worker_rows k past.notes)) past opened (rows_other (worker_rows k past.notes)) h
  command_keeps (Ok (MaxQueue f size)) past may opened h = maxqueue_keeps f size past (may (MaxQueue f size) refl) opened h
  command_keeps (Ok Version) past may opened h = says version_text past opened version_other h
  command_keeps (Ok (Shutdown graceful)) past may opened h = shutdown_keeps graceful past (may (Shutdown graceful) refl) opened h

-- ---- closings and ticks

module _ {k : Settings} {before : List Note} {c : ℕ} {I : Past → Type 0} (K : Keeps k before (Close c) I) where
  discard_one_keeps : (n : ℕ) (past : Past) → Held k I past → Held k I (discard_one n past)
  discard_one_keeps n past h =
      held_if K (is_waiting (job_state n past.notes) && not (is_wanted n past.notes)) (with_note (notes.Discarded n) past) past
      (λ e. let p = and_parts (is_waiting (job_state n past.notes)) (not (is_wanted n past.notes)) e in
      note_keeps K (notes.Discarded n) past refl (or_left (is_waiting (job_state n past.notes)) (runs_at_a_slot (job_state n past.notes)) p.0, not-true (is_wanted n past.notes) p.1) refl h)
      (λ e. h)

  pub discard_each_keeps : (jobs : List ℕ) (past : Past) → Held k I past → Held k I (discard_each jobs past)
  discard_each_keeps [] past h = h
  discard_each_keeps (n ∷ jobs) past h = discard_each_keeps jobs (discard_one n past) (discard_one_keeps n past h)

  wakes_for_keeps : (o : Option Job) (n : ℕ) (past : Past) → job n past.notes ≡ o → job_state n past.notes ≡ states.Waiting → Held k I past → Held k I (wake_for k o past)
  wakes_for_keeps None n past is waits h = h
  wakes_for_keeps (Some job) n past is waits h =
      wake_keeps K job.function past (λ d older. or_right (is_request is_submission (Close c) || asks is_enabling d (Close c) || asks is_sleeping d (Close c)) (is_close (Close c)) refl) (n, job, waits, is, refl) h

  return_or_lose_keeps : (n : ℕ) (past : Past) → is_running_at c (job_state n past.notes) ≡ true → is_wanted n past.notes ≡ true → Held k I past → Held k I (return_or_lose k n past)
  return_or_lose_keeps n past e w h =
      let runs = runs_somewhere c (job_state n past.notes) e in
      held_if K (is_last_try k n past.notes) (with_note (notes.Lost n) past) (wake_for k (job n past.notes) (with_note (notes.Returned n) past))
      (λ l. note_keeps K (notes.Lost n) past refl (runs, w, l) (c, refl, e) h)
      (λ l. let waits : job_state n (notes.Returned n ∷ past.notes) ≡ states.Waiting = rw (same_number n) refl in
      wakes_for_keeps (job n past.notes) n (with_note (notes.Returned n) past) refl waits (note_keeps K (notes.Returned n) past refl (runs, w, l) (c, refl, e) h))

  give_back_one_keeps : (n : ℕ) (past : Past) → Held k I past → Held k I (give_back_one k c n past)
  give_back_one_keeps n past h =
      held_if K (is_running_at c (job_state n past.notes)) _ past
      (λ e. held_if K (is_wanted n past.notes) (return_or_lose k n past) (with_note (notes.Discarded n) past)
      (λ w. return_or_lose_keeps n past e w h)
      (λ w. note_keeps K (notes.Discarded n) past refl (or_right (is_waiting (job_state n past.notes)) (runs_at_a_slot (job_state n past.notes)) (runs_somewhere c (job_state n past.notes) e), w) refl h))
      (λ e. h)

  pub give_back_each_keeps : (jobs : List ℕ) (past : Past) → Held k I past → Held k I (give_back_each k c jobs past)
  give_back_each_keeps [] past h = h
  give_back_each_keeps (n ∷ jobs) past h = give_back_each_keeps jobs (give_back_one k c n past) (give_back_one_keeps n past h)

  pub gone_keeps : (past : Past) → is_open c past.notes ≡ true → Held k I past → Held k I (disconnect c past)
  gone_keeps past opened h =
      let one = wake_itself c past in
      let opened_one = kept_if (λ l. is_open c l ≡ true) (is_asleep (phase c past.notes)) (with_note (notes.Stirred c) past) past opened opened in
      let held_one = stir_keeps K c past (or_right (asks is_grab c (Close c)) (closes c (Close c)) (same_number c)) h in
      ((opened_one, held_one.0), K.by_closing c one opened_one refl held_one.0 held_one.1)

  pub close_keeps : (past : Past) → is_open c past.notes ≡ true → Held k I past → Held k I (close k c past)
  close_keeps past opened h =
      give_back_each_keeps (rising past) (discard_each (rising past) (disconnect c past)) (discard_each_keeps (rising past) (disconnect c past) (gone_keeps past opened h))

-- past is after start in a tick at now: the deadlines and the listeners are the same, and what runs ran
record Ticked (start past : Past) (now : ℕ) : Type 0 where
  deadlines : (n : ℕ) → deadline n past.notes ≡ deadline n start.notes
  moment_is : moment past.notes ≡ max now (moment start.notes)
  heard : (n : ℕ) → listeners n past.notes ≡ listeners n start.notes
  ran : (n : ℕ) → is_running (job_state n past.notes) ≡ true → is_running (job_state n start.notes) ≡ true

ran_before : (t : Bool) (old : JobState) → is_running (unwrap_or (cond t (Some states.Ended) None) old) ≡ true → is_running old ≡ true
ran_before true old e = absurd cc
ran_before false old e = e

-- the deadline that is reached
late_is : (o : Option ℕ) (now : ℕ) → is_reached o now ≡ true → (late : ℕ) × (o ≡ Some late) × (late ≤ now)
late_is None now e = absurd cc
late_is (Some late) now e = (late, refl, grind (arith, nat_tests))

module _ {k : Settings} {I : Past → Type 0} (start : Past) (now : ℕ) (K : Keeps k start.notes (Tick now) I) where
  expires : (n : ℕ) (past : Past) → Ticked start past now → is_running (job_state n past.notes) ≡ true → is_reached (deadline n past.notes) (moment past.notes) ≡ true → Ends k start.notes (Tick now) n
  expires n past t runs reached =
      let there = late_is (deadline n past.notes) (moment past.notes) reached in
      (t.ran n runs, there.0, sym (t.deadlines n) ∙ there.1, subst (λ m. there.0 ≤ m) t.moment_is there.2)

  expire_one_keeps : (n : ℕ) (past : Past) → Ticked start past now → Held k I past → Held k I (expire_one k n past)
  expire_one_keeps n past t h =
      let told = tell_all (work_fail (handle k n)) (listeners n past.notes) past in
      let same = tell_all_notes (work_fail (handle k n)) (listeners n past.notes) past in
      held_if K (is_running (job_state n past.notes) && is_reached (deadline n past.notes) (moment past.notes)) (with_note (notes.Ended n) told) past
      (λ e. let p = and_parts (is_running (job_state n past.notes)) (is_reached (deadline n past.notes) (moment past.notes)) e in
      let ends = expires n past t p.0 p.1 in
      note_keeps K (notes.Ended n) told refl (subst (λ l. is_running (job_state n l) ≡ true) (sym same) p.0) ends
      (tells_keeps K (work_fail (handle k n)) (listeners n past.notes) past
      (λ d lt. ((λ x. absurd ((fail_another (handle k n)).0 x)), (λ x y z. refl), (n, ends, refl, subst (λ l. 0 < counted d l) (t.heard n) lt), (λ x y z. absurd ((fail_another (handle k n)).1 x y z)))) (listeners_open k past.notes h.0 n) h))
      (λ e. h)

  expired_ticked : (n : ℕ) (past : Past) → Ticked start past now → Ticked start (expire_one k n past) now
  expired_ticked n past t =
      let told = tell_all (work_fail (handle k n)) (listeners n past.notes) past in
      let same = tell_all_notes (work_fail (handle k n)) (listeners n past.notes) past in
      let runs = is_running (job_state n past.notes) && is_reached (deadline n past.notes) (moment past.notes) in
      record {
        deadlines = λ m. kept_if (λ l. deadline m l ≡ deadline m start.notes) runs (with_note (notes.Ended n) told) past (ap (deadline m) same ∙ t.deadlines m) (t.deadlines m);
        moment_is = kept_if (λ l. moment l ≡ max now (moment start.notes)) runs (with_note (notes.Ended n) told) past (ap moment same ∙ t.moment_is) t.moment_is;
        heard = λ m. kept_if (λ l. listeners m l ≡ listeners m start.notes) runs (with_note (notes.Ended n) told) past (ap (listeners m) same ∙ t.heard m) (t.heard m);
        ran = λ m. kept_if (λ l. is_running (job_state m l) ≡ true → is_running (job_state m start.notes) ≡ true) runs (with_note (notes.Ended n) told) past
            (λ e. t.ran m (ran_before (m == n) (job_state m past.notes) (subst (λ l. is_running (job_state m (notes.Ended n ∷ l)) ≡ true) same e))) (t.ran m);
      }

  expire_each_keeps : (jobs : List ℕ) (past : Past) → Ticked start past now → Held k I past → Held k I (expire_each k jobs past)
  expire_each_keeps [] past t h = h
  expire_each_keeps (n ∷ jobs) past t h = expire_each_keeps jobs (expire_one k n past) (expired_ticked n past t) (expire_one_keeps n past t h)

  pub tick_keeps : Held k I start → Held k I (tick k now start)
  tick_keeps h =
      expire_each_keeps (rising start) (with_note (notes.Now (max now (moment start.notes))) start)
      (record { deadlines = λ n. refl; moment_is = refl; heard = λ n. refl; ran = λ n e. e })
      (note_keeps K (notes.Now (max now (moment start.notes))) start refl (omega arith) (now, refl, refl) h)

-- ---- steps

pub takes_open : (t : Bool) → unless_not_open t ≡ None → t ≡ true
takes_open true e = refl
takes_open false e = absurd cc

pub units_open : (c : ℕ) (l : List Note) → unless_not_open (takes_units c l) ≡ None → is_open c l ≡ true
units_open c l e = (and_parts (is_open c l) (not (is_shut c l)) (takes_open (takes_units c l) e)).0

owed_is : (t u : Bool) → cond t (cond {A = Option ApplyError} u None (Some NotOwed)) (Some NotOpen) ≡ None → u ≡ true
owed_is true true e = refl
owed_is true false e = absurd cc
owed_is false u e = absurd cc

pub taken_or_not : (I : Past → Type 0) (o : Option ApplyError) (after before : Past) → (o ≡ None → I after) → I before → I (unless o after before)
taken_or_not I None after before p h = p refl
taken_or_not I (Some refused) after before p h = h

module _ {k : Settings} {I : Past → Type 0} (start : Past) where
  opening_keeps : (addr : List ℕ) → Keeps k start.notes (Open addr) I → (o : Option ℕ) → free_slot k start ≡ o → Held k I start → Held k I (opening o addr start)
  opening_keeps addr K None is h = h
  opening_keeps addr K (Some c) is h =
      let f = free_is 0 k.slots start.notes c is in
      let allowed : Allowed k (notes.Opened c addr) start.notes = (f.1, omega (arith, f.0)) in
      ((allowed, h.0), K.by_opening c addr start allowed refl h.0 h.1)

  -- what each small change keeps, a step that is taken keeps, if drains do
  pub add_keeps : (s : Step) → Keeps k start.notes s I → ((c : ℕ) → s ≡ Drain c → History k start.notes → I start → I (with_flow (Drained c) start)) → refusal k s start ≡ None → Held k I start → Held k I (add k s start)
  add_keeps (Open addr) K drains taken h = opening_keeps addr K (free_slot k start) refl h
  add_keeps (Packet c number bytes) K drains taken h = packet_keeps start c number bytes K (units_open c start.notes taken) h (kind_of number) refl
  add_keeps (Line c bytes) K drains taken h = command_keeps K c (λ text. refl) (command_of bytes) start (λ asked e. e) (units_open c start.notes taken) h
  add_keeps (Fault c fault) K drains taken h =
      let opened = units_open c start.notes taken in
      note_keeps K (notes.Shut c) (with_output c (fault_text fault) start) refl opened (inl (same_number c)) (says_keeps K c (fault_text fault) start opened (not_said K c (fault_text fault) (fault_other fault) refl) h)
  add_keeps (Close c) K drains taken h = close_keeps K start (takes_open (is_open c start.notes) taken) h
  add_keeps (Tick now) K drains taken h = tick_keeps start now K h
  add_keeps (Took c) K drains taken h = note_keeps K (notes.Took c) start refl (owed_is (is_open c start.notes) (is_owed (phase c start.notes)) taken) refl h
  add_keeps (Withdrew c) K drains taken h = note_keeps K (notes.Withdrew c) start refl (owed_is (is_open c start.notes) (is_owed (phase c start.notes)) taken) refl h
  add_keeps (Drain c) K drains taken h = (h.0, drains c refl h.0 h.1)

  pub step_keeps : (s : Step) → Keeps k start.notes s I → ((c : ℕ) → s ≡ Drain c → History k start.notes → I start → I (with_flow (Drained c) start)) → Held k I start → Held k I (step k s start)
  step_keeps s K drains h = taken_or_not (Held k I) (refusal k s start) (add k s start) start (λ taken. add_keeps s K drains taken h) h

-- every note of every run was allowed
pub step_history : (k : Settings) (s : Step) (start : Past) → History k start.notes → History k (step k s start).notes
step_history k s start h =
    (step_keeps {k = k} {I = λ past. Unit {0}} start s
    (record { by_note = λ note past i a w h u. tt; by_opening = λ c addr past a w h u. tt; by_closing = λ c past o w h u. tt; by_saying = λ c bytes past o m h u. tt })
    (λ c e h u. tt) (h, tt)).0

pub run_history : (k : Settings) (steps : List Step) → History k (run k steps).notes
run_history k [] = tt
run_history k (s ∷ steps) = step_history k s (run k steps) (run_history k steps)
