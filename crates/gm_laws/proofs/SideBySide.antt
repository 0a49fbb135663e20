-- Two pasts side by side: a step adds the same to both, if what it asks of both is answered alike.
use Rattle.std.proofs.Common.{◌≡◌, ℕ, Bool, true, false, cond, not, ◌&&◌, List, [], ◌∷◌, ◌++◌, filter, Option, Some, None, Result, Ok, Err, refl}
use Rattle.std.proofs.Common.{sym, ap, subst, ◌∙◌, max, reverse}
use Rattle.std.specs.Prelude.{codes, unwrap_or}
use Rattle.std.specs.Str.{bytes_eq}
use Rattle.gm_packet.specs.declared.kind.Kind.{Kind}
use Rattle.gm_packet.specs.declared.kind.Kind.TheVariants.{CanDo, CantDo, ResetAbilities, PreSleep, SubmitJob, GrabJob}
use Rattle.gm_packet.specs.declared.kind.Kind.TheVariants.{WorkStatus, WorkComplete, WorkFail, GetStatus, EchoReq, SubmitJobBg}
use Rattle.gm_packet.specs.declared.kind.Kind.TheVariants.{SubmitJobHigh, SetClientId, CanDoTimeout, AllYours, WorkException}
use Rattle.gm_packet.specs.declared.kind.Kind.TheVariants.{OptionReq, WorkData, WorkWarning, GrabJobUniq, SubmitJobHighBg}
use Rattle.gm_packet.specs.declared.kind.Kind.TheVariants.{SubmitJobLow, SubmitJobLowBg}
use Rattle.gm_packet.specs.Kinds.{kind_of}
use Rattle.gm_packet.specs.Requests.{Asked, read_as}
use Rattle.gm_packet.specs.Answers.{Answer, status_res, echo_res, option_res, work_status, work_complete, work_fail, work_data}
use Rattle.gm_packet.specs.Answers.{work_warning, work_exception, job_created, no_job}
use Rattle.gm_admin.specs.declared.fault.AdminFault.{AdminFault}
use Rattle.gm_admin.specs.Commands.{Commanded, Status, Workers, MaxQueue, Version, Shutdown, command_of}
use Rattle.gm_admin.specs.Answers.{status_text, workers_text}
use Rattle.gm_notes.specs.declared.states.Priority.TheVariants.{High, Normal, Low}
use Rattle.gm_notes.specs.declared.states.Mode.{Mode}
use Rattle.gm_notes.specs.declared.states.Mode.TheVariants as modes
use Rattle.gm_notes.specs.declared.event.ApplyError.{ApplyError}
use Rattle.gm_notes.specs.declared.note.Note.{Note}
use Rattle.gm_notes.specs.declared.note.Note.TheVariants as notes
use Rattle.gm_notes.specs.Settings.{Settings}
use Rattle.gm_notes.specs.Notes.{phase, says_phase, is_awake, moment, mode, slots_from}
use Rattle.gm_notes.specs.Flow.{Flow, Began, Queued, Drained, Emptied}
use Rattle.gm_notes.specs.Jobs.{Job, job_state, job, listeners, report, pick, joined, next_number, handle, job_of_handle}
use Rattle.gm_notes.specs.declared.states.Pick.{Pick}
use Rattle.gm_notes.specs.JobStates.{is_live, is_running, is_running_at}
use Rattle.gm_notes.specs.Past.{Past, with_note, with_flow, with_output, give, with_mention, tell_all, wake_one, wake_each, wake}
use Rattle.gm_notes.specs.Texts.{fault_text}
use Rattle.gm_notes.specs.Submissions.{Submission, is_bad_name, keep_or_listen, make, join_or_make, submit}
use Rattle.gm_notes.specs.Workers.{wake_if, can_do, cant_do, sleep_beside, pre_sleep, wake_itself, deadline_after, assignment}
use Rattle.gm_notes.specs.Workers.{tell_assigned, give_out, grab, Work, keep_report, end_if, wants_exceptions, hearers, tell_others}
use Rattle.gm_notes.specs.Workers.{tell_work, work_on, work}
use Rattle.gm_notes.specs.Requests.{first, second, third, submission, passing, ending, tell_status, set_option, request}
use Rattle.gm_notes.specs.Requests.{request_if_read, packet_of}
use Rattle.gm_notes.specs.Lines.{is_bad_word, maxqueue, shut_each, go_graceful, shutdown, command}
use Rattle.gm_notes.specs.Closings.{discard_each, wake_for, give_back_one, give_back_each, disconnect, rising, close, expire_each, tick}
use Rattle.gm_notes.specs.Steps.{Step, Open, Packet, Line, Fault, Close, Tick, Took, Withdrew, Drain, free_slot, opening, add}
use Rattle.gm_notes.specs.Steps.{refusal, unless_not_open, if_owed, unless, step, done, given_slot}
use Rattle.gm_history.specs.Causes.{is_one_of, is_sleeping}
use Rattle.gm_laws.specs.Laws.{GoesAlike}
use Rattle.gm_laws.proofs.Alike.{Alike, alike_on, units_alike, wanted_alike, last_try_alike, mentioned_alike, many_alike, unwanted_alike}
use Rattle.gm_laws.proofs.Alike.{waked_alike, hearers_alike, others_alike, expired_alike, full_alike, joined_alike, next_alike}
use Rattle.gm_laws.proofs.Alike.{handled_alike, enabled_alike, pick_alike, statuses_alike, workers_alike, free_alike}
use Rattle.gm_history.proofs.Asking.{kind_read}
use Rattle.gm_history.proofs.StepsKeep.{}

-- these notes and this flow were added to the past
abbrev onto : List Note → List Flow → Past → Past
onto notes flow past = record { notes = notes ++ past.notes; flow = flow ++ past.flow }

-- the same was added to a and to b
record Same (a b p q : Past) : Type 0 where
  notes : List Note
  flow : List Flow
  left : p ≡ onto notes flow a
  right : q ≡ onto notes flow b

module _ (a b : Past) (base : Alike a.notes b.notes) where
  start : Same a b a b
  start = record { notes = []; flow = []; left = refl; right = refl }

  seen : {p q : Past} → Same a b p q → Alike p.notes q.notes
  seen {q = q} s =
      subst (λ l. Alike l q.notes) (sym (ap (λ (t : Past). t.notes) s.left))
      (subst (λ m. Alike (s.notes ++ a.notes) m) (sym (ap (λ (t : Past). t.notes) s.right)) (alike_on s.notes a.notes b.notes base))

  -- ---- small changes

  note_both : (note : Note) {p q : Past} → Same a b p q → Same a b (with_note note p) (with_note note q)
  note_both note s = record { notes = note ∷ s.notes; flow = s.flow; left = ap (with_note note) s.left; right = ap (with_note note) s.right }

  flow_both : (what : Flow) {p q : Past} → Same a b p q → Same a b (with_flow what p) (with_flow what q)
  flow_both what s = record { notes = s.notes; flow = what ∷ s.flow; left = ap (with_flow what) s.left; right = ap (with_flow what) s.right }

  give_both : (c : ℕ) (answer : Answer) {p q : Past} → Same a b p q → Same a b (give c answer p) (give c answer q)
  give_both c answer s = flow_both _ s

  if_both : {t u : Bool} {p q p' q' : Past} → t ≡ u → Same a b p q → Same a b p' q' → Same a b (cond t p p') (cond u q q')
  if_both {t = true} {u = true} e s s' = s
  if_both {t = true} {u = false} e s s' = absurd cc
  if_both {t = false} {u = true} e s s' = absurd cc
  if_both {t = false} {u = false} e s s' = s'

  -- what both are asked first is the same
  at_both : {X : Type 0} (g : X → Past → Past) (p q : Past) {x y : X} → x ≡ y → Same a b (g x p) (g x q) → Same a b (g x p) (g y q)
  at_both g p q {x = x} e s = subst (λ z. Same a b (g x p) (g z q)) e s

  tell_both : (answer : Answer) (slots : List ℕ) {p q : Past} → Same a b p q → Same a b (tell_all answer slots p) (tell_all answer slots q)
  tell_both answer [] s = s
  tell_both answer (c ∷ slots) s = tell_both answer slots (give_both c answer s)

  mention_both : (f : List ℕ) {p q : Past} → Same a b p q → Same a b (with_mention f p) (with_mention f q)
  mention_both f s = if_both (mentioned_alike (seen s) f) s (note_both (notes.Mention f) s)

  wake_one_both : (f : List ℕ) (c : ℕ) {p q : Past} → Same a b p q → Same a b (wake_one f c p) (wake_one f c q)
  wake_one_both f c s = if_both (waked_alike (seen s) c f) (note_both (notes.Woken c) s) s

  wake_each_both : (f : List ℕ) (slots : List ℕ) {p q : Past} → Same a b p q → Same a b (wake_each f slots p) (wake_each f slots q)
  wake_each_both f [] s = s
  wake_each_both f (c ∷ slots) s = wake_each_both f slots (wake_one_both f c s)

  wake_both : (k : Settings) (f : List ℕ) {p q : Past} → Same a b p q → Same a b (wake k f p) (wake k f q)
  wake_both k f s = wake_each_both f (slots_from 0 k.slots) s

  -- ---- submissions

  module _ (k : Settings) (c : ℕ) (sub : Submission) where
    wanted_both : (n : ℕ) {p q : Past} → Same a b p q → Same a b (keep_or_listen c sub n p) (keep_or_listen c sub n q)
    wanted_both n s = if_both {t = sub.background} refl (note_both (notes.Kept n) s) (note_both (notes.Listens n c) s)

    make_both : (o : Option ℕ) {p q : Past} → Same a b p q → Same a b (make k c sub o p) (make k c sub o q)
    make_both None s = flow_both _ s
    make_both (Some n) s =
        wake_both k sub.function
        (give_both c (job_created (handle k n))
        (wanted_both n (note_both (notes.Made n sub.function sub.priority sub.unique sub.body) (mention_both sub.function s))))

    join_both : (o : Option ℕ) {p q : Past} → Same a b p q → Same a b (join_or_make k c sub o p) (join_or_make k c sub o q)
    join_both (Some n) s = give_both c (job_created (handle k n)) (wanted_both n s)
    join_both None {p = p} {q = q} s =
        let v = seen s in
        if_both (many_alike v k sub.function) (flow_both _ s)
        (if_both (full_alike v sub.function) (flow_both _ s)
        (at_both (make k c sub) p q (next_alike v k) (make_both (next_number k p.notes) s)))

    submit_both : {p q : Past} → Same a b p q → Same a b (submit k c sub p) (submit k c sub q)
    submit_both {p = p} {q = q} s =
        if_both {t = is_bad_name sub.function} refl (flow_both _ s)
        (at_both (join_or_make k c sub) p q (joined_alike (seen s) sub.function sub.unique) (join_both (joined sub.function sub.unique p.notes) s))

  -- ---- workers

  woken_both : (c : ℕ) {t u : Bool} {p q : Past} → t ≡ u → Same a b p q → Same a b (wake_if t c p) (wake_if u c q)
  woken_both c {t = true} {u = true} e s = note_both (notes.Woken c) s
  woken_both c {t = true} {u = false} e s = absurd cc
  woken_both c {t = false} {u = true} e s = absurd cc
  woken_both c {t = false} {u = false} e s = s

  can_do_both : (k : Settings) (c : ℕ) (f : List ℕ) (t : ℕ) {p q : Past} → Same a b p q → Same a b (can_do k c f t p) (can_do k c f t q)
  can_do_both k c f t s =
      if_both {t = is_bad_name f} refl (flow_both _ s)
      (if_both (many_alike (seen s) k f) (flow_both _ s)
      (woken_both c (enabled_alike (seen s) c f) (note_both (notes.Can c f t) (mention_both f s))))

  cant_do_both : (c : ℕ) (f : List ℕ) {p q : Past} → Same a b p q → Same a b (cant_do c f p) (cant_do c f q)
  cant_do_both c f s = if_both {t = is_bad_name f} refl (flow_both _ s) (note_both (notes.Cant c f) s)

  sleep_beside_both : (o : Option Pick) (c : ℕ) {p q : Past} → Same a b p q → Same a b (sleep_beside o c p) (sleep_beside o c q)
  sleep_beside_both None c s = s
  sleep_beside_both (Some found) c s = note_both (notes.Woken c) s

  pre_sleep_both : (k : Settings) (c : ℕ) {p q : Past} → phase c p.notes ≡ phase c q.notes → Same a b p q → Same a b (pre_sleep k c p) (pre_sleep k c q)
  pre_sleep_both k c {p = p} {q = q} e s =
      if_both (ap is_awake e)
      (at_both (λ o past. sleep_beside o c past) (with_note (notes.Slept c) p) (with_note (notes.Slept c) q) (pick_alike (seen s) k c)
      (sleep_beside_both (pick k c p.notes) c (note_both (notes.Slept c) s)))
      s

  stir_both : (c : ℕ) {p q : Past} → Same a b p q → Same a b (wake_itself c p) (wake_itself c q)
  stir_both c s = if_both ((seen s).asleep c) (note_both (notes.Stirred c) s) s

  assigned_both : (k : Settings) (c : ℕ) (uniq : Bool) (n : ℕ) (o : Option Job) {p q : Past} → Same a b p q → Same a b (tell_assigned k c uniq n o p) (tell_assigned k c uniq n o q)
  assigned_both k c uniq n None s = s
  assigned_both k c uniq n (Some job) s = give_both c (assignment k uniq n job) s

  give_out_both : (k : Settings) (c : ℕ) (uniq : Bool) (o : Option Pick) {p q : Past} → Same a b p q → Same a b (give_out k c uniq o p) (give_out k c uniq o q)
  give_out_both k c uniq None s = give_both c no_job s
  give_out_both k c uniq (Some found) {p = p} {q = q} s =
      let n = found.job in
      let late = λ (past : Past). deadline_after (moment past.notes) found.timeout in
      let one = at_both (λ late past. with_note (notes.Assigned n c late) past) p q (ap (λ m. deadline_after m found.timeout) (seen s).now) (note_both (notes.Assigned n c (late p)) s) in
      at_both (tell_assigned k c uniq n) (with_note (notes.Assigned n c (late p)) p) (with_note (notes.Assigned n c (late q)) q) ((seen s).what n)
      (assigned_both k c uniq n (job n p.notes) one)

  grab_both : (k : Settings) (c : ℕ) (uniq : Bool) {p q : Past} → Same a b p q → Same a b (grab k c uniq p) (grab k c uniq q)
  grab_both k c uniq {p = p} {q = q} s = at_both (give_out k c uniq) (wake_itself c p) (wake_itself c q) (pick_alike (seen s) k c) (give_out_both k c uniq (pick k c p.notes) (stir_both c s))

  -- ---- work

  report_both : (n : ℕ) (o : Option (List ℕ × List ℕ)) {p q : Past} → Same a b p q → Same a b (keep_report n o p) (keep_report n o q)
  report_both n None s = s
  report_both n (Some numbers) s = note_both (notes.Report n numbers.0 numbers.1) s

  ended_both : (t : Bool) (n : ℕ) {p q : Past} → Same a b p q → Same a b (end_if t n p) (end_if t n q)
  ended_both true n s = note_both (notes.Ended n) s
  ended_both false n s = s

  others_both : (t : Bool) (answer : Answer) (n : ℕ) {p q r v : Past} → Same a b p q → Same a b r v → Same a b (tell_others t answer (listeners n p.notes) p.notes r) (tell_others t answer (listeners n q.notes) q.notes v)
  others_both true answer n {p = p} {r = r} {v = v} s t =
      at_both (tell_all answer) r v (others_alike (seen s) n) (tell_both answer (filter (λ c. not (wants_exceptions c p.notes)) (listeners n p.notes)) t)
  others_both false answer n s t = t

  tell_work_both : (k : Settings) (w : Work) (n : ℕ) {p q : Past} → Same a b p q → Same a b (tell_work k w n p) (tell_work k w n q)
  tell_work_both k w n {p = p} {q = q} s =
      ended_both w.ends n
      (others_both (w.exceptions_only && w.ends) (work_fail (handle k n)) n s
      (at_both (tell_all w.answer) (keep_report n w.report p) (keep_report n w.report q) (hearers_alike (seen s) w.exceptions_only n)
      (tell_both w.answer (hearers w.exceptions_only (listeners n p.notes) p.notes) (report_both n w.report s))))

  work_on_both : (k : Settings) (c : ℕ) (w : Work) (o : Option ℕ) {p q : Past} → Same a b p q → Same a b (work_on k c w o p) (work_on k c w o q)
  work_on_both k c w None s = flow_both _ s
  work_on_both k c w (Some n) s = if_both (ap (is_running_at c) ((seen s).place n)) (tell_work_both k w n s) (flow_both _ s)

  work_both : (k : Settings) (c : ℕ) (text : List ℕ) (w : Work) {p q : Past} → Same a b p q → Same a b (work k c text w p) (work k c text w q)
  work_both k c text w {p = p} {q = q} s = at_both (work_on k c w) p q (handled_alike (seen s) k text) (work_on_both k c w (job_of_handle k text p.notes) s)

  -- ---- requests

  status_both : (k : Settings) (c : ℕ) (text : List ℕ) (o : Option ℕ) {p q : Past} → Same a b p q → Same a b (tell_status k c text o p) (tell_status k c text o q)
  status_both k c text None s = flow_both _ s
  status_both k c text (Some n) {p = p} {q = q} s =
      let v = seen s in
      let told = λ (past : Past). status_res text true (is_running (job_state n past.notes)) (report n past.notes).0 (report n past.notes).1 in
      if_both (ap is_live (v.place n)) (at_both (give c) p q {x = told p} {y = told q} (simp (v.place, v.progress)) (give_both c (told p) s)) (flow_both _ s)

  option_both : (c : ℕ) (name : List ℕ) {p q : Past} → Same a b p q → Same a b (set_option c name p) (set_option c name q)
  option_both c name s = if_both {t = bytes_eq name (codes "exceptions")} refl (give_both c (option_res name) (note_both (notes.OptionSet c) s)) (flow_both _ s)

  request_both : (k : Settings) (c : ℕ) (kind : Kind) (x : List (List ℕ)) (timeout : ℕ) {p q : Past} → (is_sleeping kind ≡ true → phase c p.notes ≡ phase c q.notes) → Same a b p q
      → Same a b (request k c kind x timeout p) (request k c kind x timeout q)
  request_both k c CanDo x timeout e s = can_do_both k c (first x) 0 s
  request_both k c CanDoTimeout x timeout e s = can_do_both k c (first x) timeout s
  request_both k c CantDo x timeout e s = cant_do_both c (first x) s
  request_both k c ResetAbilities x timeout e s = note_both (notes.Reset c) s
  request_both k c PreSleep x timeout e s = pre_sleep_both k c (e refl) s
  request_both k c GrabJob x timeout e s = grab_both k c false s
  request_both k c GrabJobUniq x timeout e s = grab_both k c true s
  request_both k c SubmitJob x timeout e s = submit_both k c (submission Normal false x) s
  request_both k c SubmitJobBg x timeout e s = submit_both k c (submission Normal true x) s
  request_both k c SubmitJobHigh x timeout e s = submit_both k c (submission High false x) s
  request_both k c SubmitJobHighBg x timeout e s = submit_both k c (submission High true x) s
  request_both k c SubmitJobLow x timeout e s = submit_both k c (submission Low false x) s
  request_both k c SubmitJobLowBg x timeout e s = submit_both k c (submission Low true x) s
  request_both k c WorkStatus x timeout e s = work_both k c (first x) (record (passing (work_status (first x) (second x) (third x))) { report = Some (second x, third x) }) s
  request_both k c WorkData x timeout e s = work_both k c (first x) (passing (work_data (first x) (second x))) s
  request_both k c WorkWarning x timeout e s = work_both k c (first x) (passing (work_warning (first x) (second x))) s
  request_both k c WorkException x timeout e s = work_both k c (first x) (record (passing (work_exception (first x) (second x))) { exceptions_only = true; ends = k.as_gearmand }) s
  request_both k c WorkComplete x timeout e s = work_both k c (first x) (ending (work_complete (first x) (second x))) s
  request_both k c WorkFail x timeout e s = work_both k c (first x) (ending (work_fail (first x))) s
  request_both k c GetStatus x timeout {p = p} {q = q} e s = at_both (tell_status k c (first x)) p q (handled_alike (seen s) k (first x)) (status_both k c (first x) (job_of_handle k (first x) p.notes) s)
  request_both k c EchoReq x timeout e s = give_both c (echo_res (first x)) s
  request_both k c SetClientId x timeout e s = note_both (notes.Named c (first x)) s
  request_both k c OptionReq x timeout e s = option_both c (first x) s
  request_both k c AllYours x timeout e s = s

  read_both : (k : Settings) (c : ℕ) (kind : Kind) (bytes : List ℕ) (o : Option Asked) {p q : Past} → read_as kind bytes ≡ o → (is_sleeping kind ≡ true → phase c p.notes ≡ phase c q.notes) → Same a b p q
      → Same a b (request_if_read k c o p) (request_if_read k c o q)
  read_both k c kind bytes None is e s = flow_both _ s
  read_both k c kind bytes (Some asked) is e s = request_both k c asked.kind asked.arguments asked.timeout (λ sleeps. e (ap is_sleeping (sym (kind_read kind bytes asked is)) ∙ sleeps)) s

  packet_both : (k : Settings) (c : ℕ) (o : Option Kind) (bytes : List ℕ) {p q : Past} → (is_one_of is_sleeping o ≡ true → phase c p.notes ≡ phase c q.notes) → Same a b p q
      → Same a b (packet_of k c o bytes p) (packet_of k c o bytes q)
  packet_both k c None bytes e s = flow_both _ s
  packet_both k c (Some kind) bytes e s = read_both k c kind bytes (read_as kind bytes) refl e s

  -- ---- lines

  print_both : (c : ℕ) {x y : List ℕ} {p q : Past} → x ≡ y → Same a b p q → Same a b (with_output c x p) (with_output c y q)
  print_both c {x = x} {p = p} {q = q} e s = at_both (with_output c) p q e (flow_both (Queued c x) s)

  maxqueue_both : (k : Settings) (c : ℕ) (f : List ℕ) (size : ℕ) {p q : Past} → Same a b p q → Same a b (maxqueue k c f size p) (maxqueue k c f size q)
  maxqueue_both k c f size s =
      if_both {t = is_bad_word f} refl (flow_both _ s)
      (if_both (many_alike (seen s) k f) (flow_both _ s) (flow_both _ (note_both (notes.Limit f size) (mention_both f s))))

  shut_each_both : (slots : List ℕ) {p q : Past} → Same a b p q → Same a b (shut_each slots p) (shut_each slots q)
  shut_each_both [] s = s
  shut_each_both (c ∷ slots) s = shut_each_both slots (if_both (units_alike (seen s) c) (note_both (notes.Shut c) s) s)

  went_both : (m : Mode) {p q : Past} → Same a b p q → Same a b (go_graceful m p) (go_graceful m q)
  went_both modes.Running s = note_both (notes.Went modes.Graceful) s
  went_both modes.Graceful s = s
  went_both modes.Stopped s = s

  shutdown_both : (k : Settings) (c : ℕ) (graceful : Bool) {p q : Past} → Same a b p q → Same a b (shutdown k c graceful p) (shutdown k c graceful q)
  shutdown_both k c true {p = p} {q = q} s = flow_both _ (at_both go_graceful p q (seen s).mode_is (went_both (mode p.notes) s))
  shutdown_both k c false s = shut_each_both (slots_from 0 k.slots) (flow_both _ (note_both (notes.Went modes.Stopped) s))

  command_both : (k : Settings) (c : ℕ) (r : Result Commanded AdminFault) {p q : Past} → Same a b p q → Same a b (command k c r p) (command k c r q)
  command_both k c (Err fault) s = flow_both _ s
  command_both k c (Ok Status) s = print_both c (ap status_text (statuses_alike (seen s) k)) s
  command_both k c (Ok Workers) s = print_both c (ap workers_text (workers_alike (seen s) k)) s
  command_both k c (Ok (MaxQueue f size)) s = maxqueue_both k c f size s
  command_both k c (Ok Version) s = flow_both _ s
  command_both k c (Ok (Shutdown graceful)) s = shutdown_both k c graceful s

  -- ---- closings and ticks

  discard_each_both : (jobs : List ℕ) {p q : Past} → Same a b p q → Same a b (discard_each jobs p) (discard_each jobs q)
  discard_each_both [] s = s
  discard_each_both (n ∷ jobs) s = discard_each_both jobs (if_both (unwanted_alike (seen s) n) (note_both (notes.Discarded n) s) s)

  wake_for_both : (k : Settings) (o : Option Job) {p q : Past} → Same a b p q → Same a b (wake_for k o p) (wake_for k o q)
  wake_for_both k None s = s
  wake_for_both k (Some job) s = wake_both k job.function s

  give_back_both : (k : Settings) (c n : ℕ) {p q : Past} → Same a b p q → Same a b (give_back_one k c n p) (give_back_one k c n q)
  give_back_both k c n {p = p} {q = q} s =
      let v = seen s in
      if_both (ap (is_running_at c) (v.place n))
      (if_both (wanted_alike v n)
      (if_both (last_try_alike v k n) (note_both (notes.Lost n) s)
      (at_both (wake_for k) (with_note (notes.Returned n) p) (with_note (notes.Returned n) q) (v.what n) (wake_for_both k (job n p.notes) (note_both (notes.Returned n) s))))
      (note_both (notes.Discarded n) s))
      s

  give_back_each_both : (k : Settings) (c : ℕ) (jobs : List ℕ) {p q : Past} → Same a b p q → Same a b (give_back_each k c jobs p) (give_back_each k c jobs q)
  give_back_each_both k c [] s = s
  give_back_each_both k c (n ∷ jobs) s = give_back_each_both k c jobs (give_back_both k c n s)

  close_both : (k : Settings) (c : ℕ) {p q : Past} → Same a b p q → Same a b (close k c p) (close k c q)
  close_both k c {p = p} {q = q} s =
      let jobs = ap reverse (seen s).numbers in
      let left = at_both discard_each (disconnect c p) (disconnect c q) jobs (discard_each_both (rising p) (flow_both (Emptied c) (note_both (notes.Closed c) (stir_both c s)))) in
      at_both (give_back_each k c) (discard_each (rising p) (disconnect c p)) (discard_each (rising q) (disconnect c q)) jobs (give_back_each_both k c (rising p) left)

  expire_each_both : (k : Settings) (jobs : List ℕ) {p q : Past} → Same a b p q → Same a b (expire_each k jobs p) (expire_each k jobs q)
  expire_each_both k [] s = s
  expire_each_both k (n ∷ jobs) {p = p} {q = q} s =
      expire_each_both k jobs
      (if_both (expired_alike (seen s) n)
      (note_both (notes.Ended n) (at_both (tell_all (work_fail (handle k n))) p q ((seen s).hear n) (tell_both (work_fail (handle k n)) (listeners n p.notes) s)))
      s)

  tick_both : (k : Settings) (now : ℕ) {p q : Past} → Same a b p q → Same a b (tick k now p) (tick k now q)
  tick_both k now {p = p} {q = q} s =
      let at = λ (past : Past). with_note (notes.Now (max now (moment past.notes))) past in
      let one = at_both (λ m past. with_note (notes.Now (max now m)) past) p q (seen s).now (note_both (notes.Now (max now (moment p.notes))) s) in
      at_both (expire_each k) (at p) (at q) (ap reverse (seen s).numbers) (expire_each_both k (rising p) one)

  -- ---- steps

  opening_both : (o : Option ℕ) (addr : List ℕ) {p q : Past} → Same a b p q → Same a b (opening o addr p) (opening o addr q)
  opening_both None addr s = s
  opening_both (Some c) addr s = flow_both (Began c) (note_both (notes.Opened c addr) s)

phase_on : (d : ℕ) (newer l m : List Note) → phase d l ≡ phase d m → phase d (newer ++ l) ≡ phase d (newer ++ m)
phase_on d [] l m e = e
phase_on d (note ∷ newer) l m e = ap (unwrap_or (says_phase d note)) (phase_on d newer l m e)

-- where it matters to a step whether a slot is awake or owed a NOOP, both say the same
abbrev pub PhasesFor : Step → Past → Past → Type 0
PhasesFor (Packet c number bytes) a b = is_one_of is_sleeping (kind_of number) ≡ true → phase c a.notes ≡ phase c b.notes
PhasesFor (Took c) a b = phase c a.notes ≡ phase c b.notes
PhasesFor (Withdrew c) a b = phase c a.notes ≡ phase c b.notes
PhasesFor other a b = Unit {0}

module _ (k : Settings) (a b : Past) (base : Alike a.notes b.notes) where
  add_both : (s : Step) → PhasesFor s a b → Same a b (add k s a) (add k s b)
  add_both (Open addr) e = at_both a b base (λ o past. opening o addr past) a b (free_alike base 0 k.slots) (opening_both a b base (free_slot k a) addr (start a b base))
  add_both (Packet c number bytes) e = packet_both a b base k c (kind_of number) bytes e (start a b base)
  add_both (Line c bytes) e = command_both a b base k c (command_of bytes) (start a b base)
  add_both (Fault c fault) e = note_both a b base (notes.Shut c) (flow_both a b base (Queued c (fault_text fault)) (start a b base))
  add_both (Close c) e = close_both a b base k c (start a b base)
  add_both (Tick now) e = tick_both a b base k now (start a b base)
  add_both (Took c) e = note_both a b base (notes.Took c) (start a b base)
  add_both (Withdrew c) e = note_both a b base (notes.Withdrew c) (start a b base)
  add_both (Drain c) e = flow_both a b base (Drained c) (start a b base)

  owed_both : (c : ℕ) → phase c a.notes ≡ phase c b.notes → if_owed c a.notes ≡ if_owed c b.notes
  owed_both c e = simp (base.opened, e)

  refusal_both : (s : Step) → PhasesFor s a b → refusal k s a ≡ refusal k s b
  refusal_both (Open addr) e = let mode_is = base.mode_is in let free = free_alike base 0 k.slots in cc
  refusal_both (Packet c number bytes) e = ap unless_not_open (units_alike base c)
  refusal_both (Line c bytes) e = ap unless_not_open (units_alike base c)
  refusal_both (Fault c fault) e = ap unless_not_open (units_alike base c)
  refusal_both (Close c) e = ap unless_not_open (base.opened c)
  refusal_both (Tick now) e = refl
  refusal_both (Took c) e = owed_both c e
  refusal_both (Withdrew c) e = owed_both c e
  refusal_both (Drain c) e = refl

  given_both : (s : Step) → given_slot k s a ≡ given_slot k s b
  given_both (Open addr) = free_alike base 0 k.slots
  given_both other = refl

  done_both : (s : Step) → PhasesFor s a b → done k s a ≡ done k s b
  done_both s e =
      let given = given_both s in
      let before = base.numbers in
      let after = (seen a b base (add_both s e)).numbers in
      cc

  step_both : (s : Step) → PhasesFor s a b → Same a b (step k s a) (step k s b)
  step_both s e = at_refusal (refusal k s a) (refusal k s b) (refusal_both s e)
    where
      at_refusal : (o u : Option ApplyError) → o ≡ u → Same a b (unless o (add k s a) a) (unless u (add k s b) b)
      at_refusal None None i = add_both s e
      at_refusal (Some x) (Some y) i = start a b base
      at_refusal None (Some y) i = absurd cc
      at_refusal (Some x) None i = absurd cc

  pub steps_alike : (s : Step) → PhasesFor s a b → Alike (step k s a).notes (step k s b).notes
  steps_alike s e = seen a b base (step_both s e)

  pub phases_after : (s : Step) → PhasesFor s a b → (d : ℕ) → phase d a.notes ≡ phase d b.notes → phase d (step k s a).notes ≡ phase d (step k s b).notes
  phases_after s e d same =
      let both = step_both s e in
      ap (λ (t : Past). phase d t.notes) both.left ∙ phase_on d both.notes a.notes b.notes same ∙ sym (ap (λ (t : Past). phase d t.notes) both.right)

  pub flows_after : (s : Step) → PhasesFor s a b → a.flow ≡ b.flow → (step k s a).flow ≡ (step k s b).flow
  flows_after s e same =
      let both = step_both s e in
      ap (λ (t : Past). t.flow) both.left ∙ ap (λ l. both.flow ++ l) same ∙ sym (ap (λ (t : Past). t.flow) both.right)

  pub goes_alike : (s : Step) → PhasesFor s a b → a.flow ≡ b.flow → GoesAlike k s a b
  goes_alike s e same =
      let both = step_both s e in
      (refusal_both s e, done_both s e, flows_after s e same, both.notes, ap (λ (t : Past). t.notes) both.left, ap (λ (t : Past). t.notes) both.right)
