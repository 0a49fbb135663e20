-- What workers say of their jobs is passed on.
use Rattle.std.proofs.Common.{◌≡◌, ℕ, suc, Bool, true, false, cond, not, ◌&&◌, List, [], ◌∷◌, ◌++◌, length, filter, replicate, Option}
use Rattle.std.proofs.Common.{Some, None, Ok, refl, sym, ap, subst, ◌∙◌, append_assoc}
use Rattle.std.specs.Prelude.{◌==◌}
use Rattle.std.proofs.lemmas.Option.{same_Some}
use Rattle.std.proofs.lemmas.List.{append-nil}
use Rattle.gm_packet.specs.declared.kind.Kind.{Kind}
use Rattle.gm_packet.specs.declared.kind.Kind.TheVariants.{WorkStatus, WorkComplete, WorkFail, WorkException, WorkData, WorkWarning}
use Rattle.gm_packet.specs.Kinds.{kind_of}
use Rattle.gm_packet.specs.Requests.{Asked, request_of}
use Rattle.gm_packet.specs.Answers.{Answer, answer_packet, work_status, work_complete, work_fail, work_data, work_warning}
use Rattle.gm_packet.specs.Answers.{work_exception}
use Rattle.gm_notes.specs.declared.note.Note.{Note}
use Rattle.gm_notes.specs.Flow.{Flow, Queued}
use Rattle.gm_notes.specs.Settings.{Settings}
use Rattle.gm_notes.specs.Notes.{takes_units}
use Rattle.gm_notes.specs.Jobs.{job_state, listeners, handle, job_of_handle}
use Rattle.gm_notes.specs.JobStates.{JobState, is_running_at}
use Rattle.gm_notes.specs.JobStates as states
use Rattle.gm_notes.specs.Past.{Past, give, tell_all}
use Rattle.gm_notes.specs.Workers.{Work, keep_report, end_if, wants_exceptions, hearers, tell_others, tell_work, work_on, work}
use Rattle.gm_notes.specs.Requests.{packet_of, first, second, third, passing, ending, request}
use Rattle.gm_notes.specs.Steps.{Packet, run, step}
use Rattle.gm_history.specs.History.{History}
use Rattle.gm_history.specs.Causes.{is_ending}
use Rattle.gm_laws.specs.Listeners.{outputs, Queues, heard, slots_told, told_in_order, AreToldInOrder, WhatWorkersSayIsPassedOn}
use Rattle.gm_history.specs.Hearing.{listens, passed_on}
use Rattle.gm_laws.proofs.JobLaws.{has_place}
use Rattle.gm_laws.proofs.Handles.{handle_names}
use Rattle.gm_laws.proofs.Outputs.{told}
use Rattle.gm_laws.proofs.StepLaws.{taken_is}
use Rattle.gm_history.proofs.StepsKeep.{run_history}
use Rattle.gm_history.proofs.Asking.{packet_does}
use Rattle.gm_notes.proofs.Numbers.{same_number}
use Rattle.std.proofs.lemmas.Bool.{eqb-true}

-- ---- who hears

module _ (c : ℕ) where
  abbrev counted : List ℕ → ℕ
  counted slots = length (filter (λ d. c == d) slots)

  none_at : (t : Bool) → counted [] ≡ cond t (counted []) 0
  none_at true = refl
  none_at false = refl

  -- of some slots, slot c stands among those that pass a test as often as before, or never
  counted_passing : (test : ℕ → Bool) (slots : List ℕ) → counted (filter test slots) ≡ cond (test c) (counted slots) 0
  counted_passing test [] = none_at (test c)
  counted_passing test (d ∷ slots) = by (test d) (c == d) refl refl (counted_passing test slots)
    where
      by : (t same : Bool) → test d ≡ t → (c == d) ≡ same → counted (filter test slots) ≡ cond (test c) (counted slots) 0
          → counted (cond t (d ∷ filter test slots) (filter test slots)) ≡ cond (test c) (length (cond same (d ∷ filter (λ e. c == e) slots) (filter (λ e. c == e) slots))) 0
      by true true passes is rest =
          let here : test c ≡ true = ap test (eqb-true c d is) ∙ passes in
          let both : counted (filter test slots) ≡ counted slots = rest ∙ ap (λ u. cond u (counted slots) 0) here in
          rw (is, here) (ap suc both)
      by true false passes is rest = rw is rest
      by false true passes is rest =
          let here : test c ≡ false = ap test (eqb-true c d is) ∙ passes in
          let none : counted (filter test slots) ≡ 0 = rest ∙ ap (λ u. cond u (counted slots) 0) here in
          rw here none
      by false false passes is rest = rest

-- ---- what is said of a job

ended_queues : (t : Bool) (c n : ℕ) (past : Past) → outputs c (end_if t n past).flow ≡ outputs c past.flow
ended_queues true c n past = refl
ended_queues false c n past = refl

reported_queues : (o : Option (List ℕ × List ℕ)) (c n : ℕ) (past : Past) → outputs c (keep_report n o past).flow ≡ outputs c past.flow
reported_queues None c n past = refl
reported_queues (Some numbers) c n past = refl

-- what a slot gets of a WORK packet, by whether it gets exceptions
abbrev pub says_to : Settings → Work → ℕ → Bool → Option Answer
says_to k w n wants = cond w.exceptions_only (cond wants (Some w.answer) (cond w.ends (Some (work_fail (handle k n))) None)) (Some w.answer)

module _ (k : Settings) (w : Work) (n : ℕ) (start : Past) (c : ℕ) where
  abbrev all : List ℕ
  all = listeners n start.notes

  abbrev wants : ℕ → Bool
  wants d = wants_exceptions d start.notes

  abbrev fails : Answer
  fails = work_fail (handle k n)

  -- what those get who don't get the packet
  abbrev others : Bool → List (List ℕ)
  others t = cond t (replicate (counted c (filter (λ d. not (wants d)) all)) (answer_packet fails)) []

  others_told : (t : Bool) (past : Past) → Queues c (others t) past (tell_others t fails all start.notes past)
  others_told true past = told c fails (filter (λ d. not (wants d)) all) past
  others_told false past = sym (append-nil (outputs c past.flow))

  heard_so : replicate (counted c (hearers w.exceptions_only all start.notes)) (answer_packet w.answer) ++ others (w.exceptions_only && w.ends) ≡ heard (says_to k w n (wants c)) (listens c n start.notes)
  heard_so = by w.exceptions_only w.ends (wants c) (counted_passing c wants all) (counted_passing c (λ d. not (wants d)) all)
    where
      by : (only ends want : Bool) → counted c (filter (λ d. wants d) all) ≡ cond want (counted c all) 0 → counted c (filter (λ d. not (wants d)) all) ≡ cond (not want) (counted c all) 0
          → replicate (counted c (hearers only all start.notes)) (answer_packet w.answer) ++ others (only && ends)
          ≡ heard (cond only (cond want (Some w.answer) (cond ends (Some fails) None)) (Some w.answer)) (listens c n start.notes)
      by false ends want here there = append-nil (replicate (counted c all) (answer_packet w.answer))
      by true true true here there = rw (here, there) (append-nil (replicate (counted c all) (answer_packet w.answer)))
      by true true false here there = rw (here, there) refl
      by true false true here there = rw here (append-nil (replicate (counted c all) (answer_packet w.answer)))
      by true false false here there = rw here refl

  -- a WORK packet is passed on so
  pub tells : Queues c (heard (says_to k w n (wants c)) (listens c n start.notes)) start (tell_work k w n start)
  tells =
      let slots = hearers w.exceptions_only all start.notes in
      let one = keep_report n w.report start in
      let two = tell_all w.answer slots one in
      let three = tell_others (w.exceptions_only && w.ends) fails all start.notes two in
      let first_told = replicate (counted c slots) (answer_packet w.answer) in
      ended_queues w.ends c n three
      ∙ (others_told (w.exceptions_only && w.ends) two
      ∙ (ap (λ l. l ++ others (w.exceptions_only && w.ends)) (told c w.answer slots one ∙ ap (λ l. l ++ first_told) (reported_queues w.report c n start))
      ∙ (append_assoc (outputs c start.flow) first_told (others (w.exceptions_only && w.ends)) ∙ ap (λ l. outputs c start.flow ++ l) heard_so)))

-- ---- in which order

slots_append : (newer older : List Flow) → slots_told (newer ++ older) ≡ slots_told older ++ slots_told newer
slots_append [] older = sym (append-nil (slots_told older))
slots_append (Queued d bytes ∷ newer) older = ap (λ l. l ++ d ∷ []) (slots_append newer older) ∙ append_assoc (slots_told older) (slots_told newer) (d ∷ [])
slots_append (one ∷ newer) older = slots_append newer older

-- from one past to the other these slots are told, in this order
abbrev ToldSo : List ℕ → Past → Past → Type 0
ToldSo slots before after = (newer : List Flow) × (after.flow ≡ newer ++ before.flow) × (slots_told newer ≡ slots)

all_in_order : (answer : Answer) (slots : List ℕ) (past : Past) → ToldSo slots past (tell_all answer slots past)
all_in_order answer [] past = ([], refl, refl)
all_in_order answer (d ∷ slots) past =
    let one : List Flow = Queued d (answer_packet answer) ∷ [] in
    let rest = all_in_order answer slots (give d answer past) in
    (rest.0 ++ one, rest.1 ∙ sym (append_assoc rest.0 one past.flow), slots_append rest.0 one ∙ ap (λ l. d ∷ l) rest.2)

-- those who don't get exceptions
abbrev without : Bool → List ℕ → List Note → List ℕ
without t slots l = cond t (filter (λ d. not (wants_exceptions d l)) slots) []

others_in_order : (t : Bool) (answer : Answer) (slots : List ℕ) (l : List Note) (past : Past) → ToldSo (without t slots l) past (tell_others t answer slots l past)
others_in_order true answer slots l past = all_in_order answer (filter (λ d. not (wants_exceptions d l)) slots) past
others_in_order false answer slots l past = ([], refl, refl)

reported_flow : (o : Option (List ℕ × List ℕ)) (n : ℕ) (past : Past) → (keep_report n o past).flow ≡ past.flow
reported_flow None n past = refl
reported_flow (Some numbers) n past = refl

ended_flow : (t : Bool) (n : ℕ) (past : Past) → (end_if t n past).flow ≡ past.flow
ended_flow true n past = refl
ended_flow false n past = refl

module _ (k : Settings) (w : Work) (n : ℕ) (start : Past) where
  abbrev gets : List ℕ
  gets = hearers w.exceptions_only (listeners n start.notes) start.notes

  abbrev gets_not : List ℕ
  gets_not = without (w.exceptions_only && w.ends) (listeners n start.notes) start.notes

  in_order : ToldSo (gets ++ gets_not) start (tell_work k w n start)
  in_order =
      let one = keep_report n w.report start in
      let two = tell_all w.answer gets one in
      let three = tell_others (w.exceptions_only && w.ends) (work_fail (handle k n)) (listeners n start.notes) start.notes two in
      let a = all_in_order w.answer gets one in
      let b = others_in_order (w.exceptions_only && w.ends) (work_fail (handle k n)) (listeners n start.notes) start.notes two in (
        b.0 ++ a.0,
        ended_flow w.ends n three
            ∙ (b.1 ∙ (ap (λ l. b.0 ++ l) (a.1 ∙ ap (λ l. a.0 ++ l) (reported_flow w.report n start)) ∙ sym (append_assoc b.0 a.0 start.flow))),
        slots_append b.0 a.0 ∙ (ap (λ l. l ++ slots_told b.0) a.2 ∙ ap (λ l. gets ++ l) b.2),
      )

-- ---- reports

-- a report is a WORK packet, and each slot is to get what is passed on to it
pub record Reports (k : Settings) (kind : Kind) (a : List (List ℕ)) : Type 0 where
  pub packet : Work
  pub does : (c timeout : ℕ) (past : Past) → request k c kind a timeout past ≡ work k c (first a) packet past
  pub says : (n : ℕ) (wants : Bool) → first a ≡ handle k n → says_to k packet n wants ≡ passed_on k wants n kind a
  pub ends : packet.ends ≡ is_ending k kind
  pub order : (slots : List ℕ) (l : List Note) → hearers packet.exceptions_only slots l ++ without (packet.exceptions_only && packet.ends) slots l ≡ told_in_order k kind slots l

pub reports : (k : Settings) (n : ℕ) (kind : Kind) (a : List (List ℕ)) (report : Answer) → passed_on k true n kind a ≡ Some report → Reports k kind a
reports k n WorkStatus a report e = record {
  packet = record (passing (work_status (first a) (second a) (third a))) { report = Some (second a, third a) };
  does = λ c timeout past. refl;
  says = λ n wants names. ap (λ h. Some (work_status h (second a) (third a))) names;
  ends = refl;
  order = λ slots l. append-nil slots;
}
reports k n WorkData a report e = record {
  packet = passing (work_data (first a) (second a));
  does = λ c timeout past. refl;
  says = λ n wants names. ap (λ h. Some (work_data h (second a))) names;
  ends = refl;
  order = λ slots l. append-nil slots;
}
reports k n WorkWarning a report e = record {
  packet = passing (work_warning (first a) (second a));
  does = λ c timeout past. refl;
  says = λ n wants names. ap (λ h. Some (work_warning h (second a))) names;
  ends = refl;
  order = λ slots l. append-nil slots;
}
reports k n WorkException a report e = record {
  packet = record (passing (work_exception (first a) (second a))) { exceptions_only = true; ends = k.as_gearmand };
  does = λ c timeout past. refl;
  says = λ n wants names. ap (λ h. cond wants (Some (work_exception h (second a))) (cond k.as_gearmand (Some (work_fail (handle k n))) None)) names;
  ends = refl;
  order = λ slots l. refl;
}
reports k n WorkComplete a report e = record {
  packet = ending (work_complete (first a) (second a));
  does = λ c timeout past. refl;
  says = λ n wants names. ap (λ h. Some (work_complete h (second a))) names;
  ends = refl;
  order = λ slots l. append-nil slots;
}
reports k n WorkFail a report e = record {
  packet = ending (work_fail (first a));
  does = λ c timeout past. refl;
  says = λ n wants names. ap (λ h. Some (work_fail h)) names;
  ends = refl;
  order = λ slots l. append-nil slots;
}
reports k n kind a report e = absurd cc

-- what ends a job is a report
pub end_reported : (k : Settings) (n : ℕ) (wants : Bool) (kind : Kind) (a : List (List ℕ)) → is_ending k kind ≡ true → (answer : Answer) × (passed_on k wants n kind a ≡ Some answer)
end_reported k n wants WorkComplete a e = (work_complete (handle k n) (second a), refl)
end_reported k n wants WorkFail a e = (work_fail (handle k n), refl)
end_reported k n true WorkException a e = (work_exception (handle k n) (second a), refl)
end_reported k n false WorkException a e = (work_fail (handle k n), rw e refl)
end_reported k n wants kind a e = absurd cc

module _ (k : Settings) (worker n : ℕ) (start : Past) (history : History k start.notes) (runs : job_state n start.notes ≡ states.Running worker) where
  works_at : (w : Work) (o : Option ℕ) → o ≡ Some n → is_running_at worker (job_state n start.notes) ≡ true → work_on k worker w o start ≡ tell_work k w n start
  works_at w None e here = absurd cc
  works_at w (Some m) e here =
      let same : m ≡ n = same_Some m n e in
      rw (same, here) refl

  here : is_running_at worker (job_state n start.notes) ≡ true
  here = ap (is_running_at worker) runs ∙ same_number worker

  -- what the job's worker reports with its handle is said of the job
  pub works_does : (w : Work) (text : List ℕ) → text ≡ handle k n → work k worker text w start ≡ tell_work k w n start
  works_does w text names =
      let found : job_of_handle k text start.notes ≡ Some n = ap (λ x. job_of_handle k x start.notes) names ∙ handle_names k start.notes n history (ap has_place runs) in
      works_at w (job_of_handle k text start.notes) found here

  pub asks : (kind : Kind) (a : List (List ℕ)) (timeout : ℕ) → Reports k kind a → first a ≡ handle k n → (c : ℕ)
      → Queues c (heard (passed_on k (wants_exceptions c start.notes) n kind a) (listens c n start.notes)) start (request k worker kind a timeout start)
  asks kind a timeout r names c =
      ap (λ (past : Past). outputs c past.flow) (r.does worker timeout start ∙ works_does r.packet (first a) names)
      ∙ (tells k r.packet n start c ∙ ap (λ o. outputs c start.flow ++ heard o (listens c n start.notes)) (r.says n (wants_exceptions c start.notes) names))

  asks_in_order : (kind : Kind) (a : List (List ℕ)) (timeout : ℕ) → Reports k kind a → first a ≡ handle k n → AreToldInOrder k kind n start (request k worker kind a timeout start)
  asks_in_order kind a timeout r names =
      let so = in_order k r.packet n start in
      (so.0, ap (λ (past : Past). past.flow) (r.does worker timeout start ∙ works_does r.packet (first a) names) ∙ so.1, so.2 ∙ r.order (listeners n start.notes) start.notes)

-- ---- packets

pub passed : (k : Settings) (start : Past) → History k start.notes → (worker n number : ℕ) (bytes : List ℕ) (asked : Asked) (report : Answer)
    → takes_units worker start.notes ≡ true → job_state n start.notes ≡ states.Running worker
    → request_of number bytes ≡ Ok asked → first asked.arguments ≡ handle k n → passed_on k true n asked.kind asked.arguments ≡ Some report
    → (c : ℕ) → Queues c (heard (passed_on k (wants_exceptions c start.notes) n asked.kind asked.arguments) (listens c n start.notes)) start (step k (Packet worker number bytes) start)
passed k start history worker n number bytes asked report takes runs reads names is c =
    ap (λ (past : Past). outputs c past.flow)
    (taken_is (takes_units worker start.notes) (packet_of k worker (kind_of number) bytes start) start takes ∙ packet_does bytes asked k worker start (kind_of number) reads)
    ∙ asks k worker n start history runs asked.kind asked.arguments asked.timeout (reports k n asked.kind asked.arguments report is) names c

passed_in_order : (k : Settings) (start : Past) → History k start.notes → (worker n number : ℕ) (bytes : List ℕ) (asked : Asked) (report : Answer)
    → takes_units worker start.notes ≡ true → job_state n start.notes ≡ states.Running worker
    → request_of number bytes ≡ Ok asked → first asked.arguments ≡ handle k n → passed_on k true n asked.kind asked.arguments ≡ Some report
    → AreToldInOrder k asked.kind n start (step k (Packet worker number bytes) start)
passed_in_order k start history worker n number bytes asked report takes runs reads names is =
    subst (AreToldInOrder k asked.kind n start)
    (sym (taken_is (takes_units worker start.notes) (packet_of k worker (kind_of number) bytes start) start takes ∙ packet_does bytes asked k worker start (kind_of number) reads))
    (asks_in_order k worker n start history runs asked.kind asked.arguments asked.timeout (reports k n asked.kind asked.arguments report is) names)

pub all_passed : WhatWorkersSayIsPassedOn
all_passed k steps worker n number bytes asked report takes runs reads names is = (
  (λ c. passed k (run k steps) (run_history k steps) worker n number bytes asked report takes runs reads names is c),
  passed_in_order k (run k steps) (run_history k steps) worker n number bytes asked report takes runs reads names is,
)
