-- No packet opens, closes or shuts a slot.
use Rattle.std.proofs.Common.{◌≡◌, ℕ, Bool, true, false, List, [], ◌∷◌, Option, Some, None, refl, ◌∙◌}
use Rattle.std.specs.Prelude.{not, ◌&&◌, ◌==◌, filter, if◌then◌else◌}
use Rattle.std.specs.Str.{bytes_eq}
use Rattle.std.proofs.Common.{codes}
use Rattle.gm_packet.specs.declared.kind.Kind.{Kind}
use Rattle.gm_packet.specs.declared.kind.Kind.TheVariants.{CanDo, CantDo, ResetAbilities, PreSleep, SubmitJob, GrabJob}
use Rattle.gm_packet.specs.declared.kind.Kind.TheVariants.{WorkStatus, WorkComplete, WorkFail, GetStatus, EchoReq, SubmitJobBg}
use Rattle.gm_packet.specs.declared.kind.Kind.TheVariants.{SubmitJobHigh, SetClientId, CanDoTimeout, AllYours, WorkException}
use Rattle.gm_packet.specs.declared.kind.Kind.TheVariants.{OptionReq, WorkData, WorkWarning, GrabJobUniq, SubmitJobHighBg}
use Rattle.gm_packet.specs.declared.kind.Kind.TheVariants.{SubmitJobLow, SubmitJobLowBg}
use Rattle.gm_packet.specs.Requests.{Asked, read_as}
use Rattle.gm_packet.specs.Answers.{Answer, work_status, work_complete, work_fail, work_data, work_warning, work_exception}
use Rattle.gm_notes.specs.declared.states.Priority.TheVariants.{High, Normal, Low}
use Rattle.gm_notes.specs.declared.note.Note.{Note}
use Rattle.gm_notes.specs.Settings.{Settings}
use Rattle.gm_notes.specs.Notes.{is_open, is_shut, phase, is_asleep, is_awake, slots_from}
use Rattle.gm_notes.specs.Jobs.{Job, job, job_state, is_wanted, is_last_try, is_mentioned, is_able, listeners, joined, job_of_handle}
use Rattle.gm_notes.specs.Jobs.{next_number, pick, waiting_for, is_empty, handle}
use Rattle.gm_notes.specs.declared.states.Pick.{Pick}
use Rattle.gm_notes.specs.JobStates.{is_live, is_waiting, is_running_at}
use Rattle.gm_notes.specs.Past.{Past, with_note, give, with_mention, tell_all, wake_one, wake_each}
use Rattle.gm_notes.specs.Submissions.{Submission, is_bad_name, is_one_too_many, is_full, keep_or_listen, make, join_or_make, submit}
use Rattle.gm_notes.specs.Workers.{Work, wake_if, add_ability, can_do, cant_do, sleep_beside, pre_sleep, wake_itself}
use Rattle.gm_notes.specs.Workers.{tell_assigned, give_out, grab, keep_report, end_if, hearers, wants_exceptions, tell_others, tell_work, work_on, work}
use Rattle.gm_notes.specs.declared.note.Note.TheVariants.{Returned, Lost}
use Rattle.gm_notes.specs.Closings.{discard_one, discard_each, wake_for, return_or_lose, give_back_one, give_back_each, disconnect, rising, close}
use Rattle.gm_notes.specs.Requests.{first, second, third, submission, passing, ending, tell_status, set_option, request}
use Rattle.gm_notes.specs.Requests.{request_if_read, packet_of}

-- the same slots are open, and the same are shut
pub record Stays (before after : List Note) : Type 0 where
  pub opens : (c : ℕ) → is_open c after ≡ is_open c before
  pub shuts : (c : ℕ) → is_shut c after ≡ is_shut c before

pub stays_here : (notes : List Note) → Stays notes notes
stays_here notes = record { opens = λ c. refl; shuts = λ c. refl }

pub stays_then : (a b c : List Note) → Stays a b → Stays b c → Stays a c
stays_then a b c first second =
    record { opens = λ d. second.opens d ∙ first.opens d; shuts = λ d. second.shuts d ∙ first.shuts d }

either : (t : Bool) (notes : List Note) (yes_past no_past : Past) → Stays notes yes_past.notes → Stays notes no_past.notes → Stays notes (if t then yes_past else no_past).notes
either true notes yes_past no_past y n = y
either false notes yes_past no_past y n = n

-- ---- what steps do, part by part

mention_stays : (f : List ℕ) (past : Past) → Stays past.notes (with_mention f past).notes
mention_stays f past = either (is_mentioned f past.notes) past.notes past _ (stays_here past.notes) (record { opens = λ c. refl; shuts = λ c. refl })

wake_one_stays : (f : List ℕ) (c : ℕ) (past : Past) → Stays past.notes (wake_one f c past).notes
wake_one_stays f c past =
    either (is_open c past.notes && is_asleep (phase c past.notes) && is_able c f past.notes) past.notes _ past (record { opens = λ d. refl; shuts = λ d. refl }) (stays_here past.notes)

wake_stays : (f : List ℕ) (slots : List ℕ) (past : Past) → Stays past.notes (wake_each f slots past).notes
wake_stays f [] past = stays_here past.notes
wake_stays f (c ∷ slots) past =
    stays_then past.notes (wake_one f c past).notes (wake_each f slots (wake_one f c past)).notes (wake_one_stays f c past) (wake_stays f slots (wake_one f c past))

wanted_stays : (c : ℕ) (s : Submission) (n : ℕ) (past : Past) → Stays past.notes (keep_or_listen c s n past).notes
wanted_stays c s n past = either s.background past.notes _ _ (record { opens = λ d. refl; shuts = λ d. refl }) (record { opens = λ d. refl; shuts = λ d. refl })

made_stays : (c : ℕ) (s : Submission) (n : ℕ) (note : Note) (past : Past) → Stays past.notes (note ∷ past.notes) → Stays past.notes (keep_or_listen c s n (with_note note past)).notes
made_stays c s n note past silent = stays_then past.notes (note ∷ past.notes) (keep_or_listen c s n (with_note note past)).notes silent (wanted_stays c s n (with_note note past))

make_stays : (k : Settings) (c : ℕ) (s : Submission) (number : Option ℕ) (past : Past) → Stays past.notes (make k c s number past).notes
make_stays k c s None past = stays_here past.notes
make_stays k c s (Some n) past =
    let known = with_mention s.function past in
    let here = keep_or_listen c s n (with_note _ known) in
    stays_then past.notes known.notes _ (mention_stays s.function past)
    (stays_then known.notes here.notes _ (made_stays c s n _ known (record { opens = λ d. refl; shuts = λ d. refl })) (wake_stays s.function (slots_from 0 k.slots) _))

join_stays : (k : Settings) (c : ℕ) (s : Submission) (found : Option ℕ) (past : Past) → Stays past.notes (join_or_make k c s found past).notes
join_stays k c s (Some n) past = wanted_stays c s n past
join_stays k c s None past =
    either (is_one_too_many k s.function past.notes) past.notes _ _ (stays_here past.notes)
    (either (is_full s.function past.notes) past.notes _ _ (stays_here past.notes) (make_stays k c s (next_number k past.notes) past))

submit_stays : (k : Settings) (c : ℕ) (s : Submission) (past : Past) → Stays past.notes (submit k c s past).notes
submit_stays k c s past =
    either (is_bad_name s.function) past.notes _ _ (stays_here past.notes) (join_stays k c s (joined s.function s.unique past.notes) past)

woken_stays : (t : Bool) (c : ℕ) (past : Past) → Stays past.notes (wake_if t c past).notes
woken_stays true c past = record { opens = λ d. refl; shuts = λ d. refl }
woken_stays false c past = stays_here past.notes

able_stays : (c : ℕ) (f : List ℕ) (t : ℕ) (past : Past) → Stays past.notes (add_ability c f t past).notes
able_stays c f t past =
    let known = with_mention f past in
    stays_then past.notes known.notes _ (mention_stays f past)
    (stays_then known.notes _ _ (record { opens = λ d. refl; shuts = λ d. refl })
    (woken_stays (is_asleep (phase c past.notes) && not (is_empty (waiting_for f past.notes))) c _))

can_stays : (k : Settings) (c : ℕ) (f : List ℕ) (t : ℕ) (past : Past) → Stays past.notes (can_do k c f t past).notes
can_stays k c f t past =
    either (is_bad_name f) past.notes _ _ (stays_here past.notes)
    (either (is_one_too_many k f past.notes) past.notes _ _ (stays_here past.notes) (able_stays c f t past))

cant_stays : (c : ℕ) (f : List ℕ) (past : Past) → Stays past.notes (cant_do c f past).notes
cant_stays c f past = either (is_bad_name f) past.notes _ _ (stays_here past.notes) (record { opens = λ d. refl; shuts = λ d. refl })

beside_stays : (found : Option Pick) (c : ℕ) (past : Past) → Stays past.notes (sleep_beside found c past).notes
beside_stays None c past = stays_here past.notes
beside_stays (Some found) c past = record { opens = λ d. refl; shuts = λ d. refl }

sleep_stays : (k : Settings) (c : ℕ) (past : Past) → Stays past.notes (pre_sleep k c past).notes
sleep_stays k c past =
    either (is_awake (phase c past.notes)) past.notes _ past
    (stays_then past.notes _ _ (record { opens = λ d. refl; shuts = λ d. refl }) (beside_stays (pick k c past.notes) c _)) (stays_here past.notes)

stir_stays : (c : ℕ) (past : Past) → Stays past.notes (wake_itself c past).notes
stir_stays c past = either (is_asleep (phase c past.notes)) past.notes _ past (record { opens = λ d. refl; shuts = λ d. refl }) (stays_here past.notes)

told_stays : (k : Settings) (c : ℕ) (uniq : Bool) (n : ℕ) (found : Option Job) (past : Past) → Stays past.notes (tell_assigned k c uniq n found past).notes
told_stays k c uniq n None past = stays_here past.notes
told_stays k c uniq n (Some found) past = stays_here past.notes

given_stays : (k : Settings) (c : ℕ) (uniq : Bool) (found : Option Pick) (past : Past) → Stays past.notes (give_out k c uniq found past).notes
given_stays k c uniq None past = stays_here past.notes
given_stays k c uniq (Some found) past =
    stays_then past.notes _ _ (record { opens = λ d. refl; shuts = λ d. refl }) (told_stays k c uniq found.job (job found.job past.notes) _)

grab_stays : (k : Settings) (c : ℕ) (uniq : Bool) (past : Past) → Stays past.notes (grab k c uniq past).notes
grab_stays k c uniq past = stays_then past.notes (wake_itself c past).notes _ (stir_stays c past) (given_stays k c uniq (pick k c past.notes) (wake_itself c past))

tell_stays : (answer : Answer) (slots : List ℕ) (past : Past) → Stays past.notes (tell_all answer slots past).notes
tell_stays answer [] past = stays_here past.notes
tell_stays answer (c ∷ slots) past = tell_stays answer slots (give c answer past)

report_stays : (n : ℕ) (numbers : Option (List ℕ × List ℕ)) (past : Past) → Stays past.notes (keep_report n numbers past).notes
report_stays n None past = stays_here past.notes
report_stays n (Some numbers) past = record { opens = λ d. refl; shuts = λ d. refl }

ended_stays : (t : Bool) (n : ℕ) (past : Past) → Stays past.notes (end_if t n past).notes
ended_stays true n past = record { opens = λ d. refl; shuts = λ d. refl }
ended_stays false n past = stays_here past.notes

others_stay : (t : Bool) (answer : Answer) (slots : List ℕ) (notes : List Note) (past : Past) → Stays past.notes (tell_others t answer slots notes past).notes
others_stay true answer slots notes past = tell_stays answer (filter (λ c. not (wants_exceptions c notes)) slots) past
others_stay false answer slots notes past = stays_here past.notes

work_told : (k : Settings) (w : Work) (n : ℕ) (past : Past) → Stays past.notes (tell_work k w n past).notes
work_told k w n past =
    let slots = listeners n past.notes in
    let kept = keep_report n w.report past in
    let told = tell_all w.answer (hearers w.exceptions_only slots past.notes) kept in
    let others = tell_others (w.exceptions_only && w.ends) (work_fail (handle k n)) slots past.notes told in
    stays_then past.notes kept.notes _ (report_stays n w.report past)
    (stays_then kept.notes told.notes _ (tell_stays w.answer (hearers w.exceptions_only slots past.notes) kept)
    (stays_then told.notes others.notes _ (others_stay (w.exceptions_only && w.ends) (work_fail (handle k n)) slots past.notes told) (ended_stays w.ends n others)))

work_on_stays : (k : Settings) (c : ℕ) (w : Work) (found : Option ℕ) (past : Past) → Stays past.notes (work_on k c w found past).notes
work_on_stays k c w None past = stays_here past.notes
work_on_stays k c w (Some n) past = either (is_running_at c (job_state n past.notes)) past.notes _ _ (work_told k w n past) (stays_here past.notes)

work_stays : (k : Settings) (c : ℕ) (text : List ℕ) (w : Work) (past : Past) → Stays past.notes (work k c text w past).notes
work_stays k c text w past = work_on_stays k c w (job_of_handle k text past.notes) past

status_stays : (k : Settings) (c : ℕ) (text : List ℕ) (found : Option ℕ) (past : Past) → Stays past.notes (tell_status k c text found past).notes
status_stays k c text None past = stays_here past.notes
status_stays k c text (Some n) past = either (is_live (job_state n past.notes)) past.notes _ _ (stays_here past.notes) (stays_here past.notes)

option_stays : (c : ℕ) (name : List ℕ) (past : Past) → Stays past.notes (set_option c name past).notes
option_stays c name past =
    either (bytes_eq name (codes "exceptions")) past.notes _ _ (record { opens = λ d. refl; shuts = λ d. refl }) (stays_here past.notes)

request_stays : (k : Settings) (c : ℕ) (kind : Kind) (a : List (List ℕ)) (timeout : ℕ) (past : Past) → Stays past.notes (request k c kind a timeout past).notes
request_stays k c CanDo a timeout past = can_stays k c (first a) 0 past
request_stays k c CanDoTimeout a timeout past = can_stays k c (first a) timeout past
request_stays k c CantDo a timeout past = cant_stays c (first a) past
request_stays k c ResetAbilities a timeout past = record { opens = λ d. refl; shuts = λ d. refl }
request_stays k c PreSleep a timeout past = sleep_stays k c past
request_stays k c GrabJob a timeout past = grab_stays k c false past
request_stays k c GrabJobUniq a timeout past = grab_stays k c true past
request_stays k c SubmitJob a timeout past = submit_stays k c (submission Normal false a) past
request_stays k c SubmitJobBg a timeout past = submit_stays k c (submission Normal true a) past
request_stays k c SubmitJobHigh a timeout past = submit_stays k c (submission High false a) past
request_stays k c SubmitJobHighBg a timeout past = submit_stays k c (submission High true a) past
request_stays k c SubmitJobLow a timeout past = submit_stays k c (submission Low false a) past
request_stays k c SubmitJobLowBg a timeout past = submit_stays k c (submission Low true a) past
request_stays k c WorkStatus a timeout past =
    work_stays k c (first a) (record (passing (work_status (first a) (second a) (third a))) { report = Some (second a, third a) }) past
request_stays k c WorkData a timeout past = work_stays k c (first a) (passing (work_data (first a) (second a))) past
request_stays k c WorkWarning a timeout past = work_stays k c (first a) (passing (work_warning (first a) (second a))) past
request_stays k c WorkException a timeout past = work_stays k c (first a) (record (passing (work_exception (first a) (second a))) { exceptions_only = true; ends = k.as_gearmand }) past
request_stays k c WorkComplete a timeout past = work_stays k c (first a) (ending (work_complete (first a) (second a))) past
request_stays k c WorkFail a timeout past = work_stays k c (first a) (ending (work_fail (first a))) past
request_stays k c GetStatus a timeout past = status_stays k c (first a) (job_of_handle k (first a) past.notes) past
request_stays k c EchoReq a timeout past = stays_here past.notes
request_stays k c SetClientId a timeout past = record { opens = λ d. refl; shuts = λ d. refl }
request_stays k c OptionReq a timeout past = option_stays c (first a) past
request_stays k c AllYours a timeout past = stays_here past.notes

read_stays : (k : Settings) (c : ℕ) (asked : Option Asked) (past : Past) → Stays past.notes (request_if_read k c asked past).notes
read_stays k c None past = stays_here past.notes
read_stays k c (Some asked) past = request_stays k c asked.kind asked.arguments asked.timeout past

-- whatever a packet does, the same slots are open, and the same are shut
pub packet_stays : (k : Settings) (c : ℕ) (known : Option Kind) (bytes : List ℕ) (past : Past) → Stays past.notes (packet_of k c known bytes past).notes
packet_stays k c None bytes past = stays_here past.notes
packet_stays k c (Some kind) bytes past = read_stays k c (read_as kind bytes) past

-- ---- a closing closes its slot alone

discard_stays : (n : ℕ) (past : Past) → Stays past.notes (discard_one n past).notes
discard_stays n past =
    either (is_waiting (job_state n past.notes) && not (is_wanted n past.notes)) past.notes _ past (record { opens = λ d. refl; shuts = λ d. refl }) (stays_here past.notes)

discards_stay : (jobs : List ℕ) (past : Past) → Stays past.notes (discard_each jobs past).notes
discards_stay [] past = stays_here past.notes
discards_stay (n ∷ jobs) past =
    stays_then past.notes (discard_one n past).notes (discard_each jobs (discard_one n past)).notes (discard_stays n past) (discards_stay jobs (discard_one n past))

wake_for_stays : (k : Settings) (o : Option Job) (past : Past) → Stays past.notes (wake_for k o past).notes
wake_for_stays k None past = stays_here past.notes
wake_for_stays k (Some job) past = wake_stays job.function (slots_from 0 k.slots) past

return_or_lose_stays : (k : Settings) (n : ℕ) (past : Past) → Stays past.notes (return_or_lose k n past).notes
return_or_lose_stays k n past =
    either (is_last_try k n past.notes) past.notes (with_note (Lost n) past) (wake_for k (job n past.notes) (with_note (Returned n) past))
    (record { opens = λ d. refl; shuts = λ d. refl })
    (stays_then past.notes (Returned n ∷ past.notes) _ (record { opens = λ d. refl; shuts = λ d. refl }) (wake_for_stays k (job n past.notes) (with_note (Returned n) past)))

give_back_stays : (k : Settings) (c n : ℕ) (past : Past) → Stays past.notes (give_back_one k c n past).notes
give_back_stays k c n past =
    either (is_running_at c (job_state n past.notes)) past.notes _ past
    (either (is_wanted n past.notes) past.notes _ _ (return_or_lose_stays k n past) (record { opens = λ d. refl; shuts = λ d. refl }))
    (stays_here past.notes)

give_backs_stay : (k : Settings) (c : ℕ) (jobs : List ℕ) (past : Past) → Stays past.notes (give_back_each k c jobs past).notes
give_backs_stay k c [] past = stays_here past.notes
give_backs_stay k c (n ∷ jobs) past =
    stays_then past.notes (give_back_one k c n past).notes (give_back_each k c jobs (give_back_one k c n past)).notes (give_back_stays k c n past)
    (give_backs_stay k c jobs (give_back_one k c n past))

close_stays : (k : Settings) (c : ℕ) (past : Past) → Stays (disconnect c past).notes (close k c past).notes
close_stays k c past =
    let left = disconnect c past in
    stays_then left.notes (discard_each (rising past) left).notes (close k c past).notes (discards_stay (rising past) left)
    (give_backs_stay k c (rising past) (discard_each (rising past) left))

-- another slot is open or shut as before
pub close_keeps : (k : Settings) (c d : ℕ) (past : Past) → (d == c) ≡ false
    → (is_open d (close k c past).notes ≡ is_open d past.notes) × (is_shut d (close k c past).notes ≡ is_shut d past.notes)
close_keeps k c d past other =
    let stirred = stir_stays c past in
    let closed = close_stays k c past in
    let opens : is_open d (disconnect c past).notes ≡ is_open d (wake_itself c past).notes = rw other refl in
    (closed.opens d ∙ (opens ∙ stirred.opens d), closed.shuts d ∙ stirred.shuts d)

-- and this one is closed
pub close_closes : (k : Settings) (c : ℕ) (past : Past) → (c == c) ≡ true → is_open c (close k c past).notes ≡ false
close_closes k c past same =
    let here : is_open c (disconnect c past).notes ≡ false = rw same refl in
    (close_stays k c past).opens c ∙ here
