-- The effect of each request: the table of effects.
use Rattle.std.specs.Prelude.{ℕ, Bool, true, false, if◌then◌else◌, List, [], ◌∷◌, codes, Option, Some, None}
use Rattle.std.specs.Str.{bytes_eq}
use Rattle.gm_packet.specs.declared.kind.Kind.{Kind}
use Rattle.gm_packet.specs.declared.kind.Kind.TheVariants.{CanDo, CantDo, ResetAbilities, PreSleep, SubmitJob, GrabJob}
use Rattle.gm_packet.specs.declared.kind.Kind.TheVariants.{WorkStatus, WorkComplete, WorkFail, GetStatus, EchoReq, SubmitJobBg}
use Rattle.gm_packet.specs.declared.kind.Kind.TheVariants.{SubmitJobHigh, SetClientId, CanDoTimeout, AllYours, WorkException}
use Rattle.gm_packet.specs.declared.kind.Kind.TheVariants.{OptionReq, WorkData, WorkWarning, GrabJobUniq, SubmitJobHighBg}
use Rattle.gm_packet.specs.declared.kind.Kind.TheVariants.{SubmitJobLow, SubmitJobLowBg}
use Rattle.gm_packet.specs.Requests.{Asked, read_as}
use Rattle.gm_packet.specs.Answers.{Answer, echo_res, option_res, status_res, work_status, work_complete, work_fail, work_data}
use Rattle.gm_packet.specs.Answers.{work_warning, work_exception}
use Rattle.gm_notes.specs.declared.states.Priority.{Priority}
use Rattle.gm_notes.specs.declared.states.Priority.TheVariants.{High, Normal, Low}
use Rattle.gm_notes.specs.declared.note.Note.TheVariants.{Named, OptionSet, Reset}
use Rattle.gm_notes.specs.Settings.{Settings}
use Rattle.gm_notes.specs.Jobs.{job_state, report, job_of_handle}
use Rattle.gm_notes.specs.JobStates.{is_live, is_running}
use Rattle.gm_notes.specs.Past.{Past, with_note, give, refuse}
use Rattle.gm_notes.specs.Submissions.{Submission, submit}
use Rattle.gm_notes.specs.Workers.{Work, can_do, cant_do, pre_sleep, grab, work}

-- the arguments, in order; each request has as many as it takes
abbrev pub first : List (List ℕ) → List ℕ
first [] = []
first (a ∷ arguments) = a

abbrev pub second : List (List ℕ) → List ℕ
second [] = []
second (a ∷ arguments) = first arguments

abbrev pub third : List (List ℕ) → List ℕ
third [] = []
third (a ∷ arguments) = second arguments

-- a submission's function, unique id and body
abbrev pub submission : Priority → Bool → List (List ℕ) → Submission
submission p background a = record { function = first a; unique = second a; body = third a; priority = p; background = background }

-- a packet that is passed on, and doesn't end the job
abbrev pub passing : Answer → Work
passing answer = record { answer = answer; exceptions_only = false; report = None; ends = false }

-- a packet that ends the job
abbrev pub ending : Answer → Work
ending answer = record (passing answer) { ends = true }

-- the status of a job: whether it is there, whether it runs, and how far it is
abbrev pub tell_status : Settings → ℕ → List ℕ → Option ℕ → Past → Past
tell_status k c text None past = give c (status_res text false false (codes "0") (codes "0")) past
tell_status k c text (Some n) past =
    if is_live (job_state n past.notes)
    then give c (status_res text true (is_running (job_state n past.notes)) (report n past.notes).0 (report n past.notes).1) past
    else give c (status_res text false false (codes "0") (codes "0")) past

abbrev pub set_option : ℕ → List ℕ → Past → Past
set_option c name past =
    if bytes_eq name (codes "exceptions") then give c (option_res name) (with_note (OptionSet c) past) else refuse c (codes "unknown_option") past

-- the effect of a request of slot c, by its kind, its arguments and its timeout
abbrev pub request : Settings → ℕ → Kind → List (List ℕ) → ℕ → Past → Past
request k c CanDo a timeout past = can_do k c (first a) 0 past
request k c CanDoTimeout a timeout past = can_do k c (first a) timeout past
request k c CantDo a timeout past = cant_do c (first a) past
request k c ResetAbilities a timeout past = with_note (Reset c) past
request k c PreSleep a timeout past = pre_sleep k c past
request k c GrabJob a timeout past = grab k c false past
request k c GrabJobUniq a timeout past = grab k c true past
request k c SubmitJob a timeout past = submit k c (submission Normal false a) past
request k c SubmitJobBg a timeout past = submit k c (submission Normal true a) past
request k c SubmitJobHigh a timeout past = submit k c (submission High false a) past
request k c SubmitJobHighBg a timeout past = submit k c (submission High true a) past
request k c SubmitJobLow a timeout past = submit k c (submission Low false a) past
request k c SubmitJobLowBg a timeout past = submit k c (submission Low true a) past
request k c WorkStatus a timeout past =
    work k c (first a) (record (passing (work_status (first a) (second a) (third a))) { report = Some (second a, third a) }) past
request k c WorkData a timeout past = work k c (first a) (passing (work_data (first a) (second a))) past
request k c WorkWarning a timeout past = work k c (first a) (passing (work_warning (first a) (second a))) past
request k c WorkException a timeout past = work k c (first a) (record (passing (work_exception (first a) (second a))) { exceptions_only = true; ends = k.as_gearmand }) past
request k c WorkComplete a timeout past = work k c (first a) (ending (work_complete (first a) (second a))) past
request k c WorkFail a timeout past = work k c (first a) (ending (work_fail (first a))) past
request k c GetStatus a timeout past = tell_status k c (first a) (job_of_handle k (first a) past.notes) past
request k c EchoReq a timeout past = give c (echo_res (first a)) past
request k c SetClientId a timeout past = with_note (Named c (first a)) past
request k c OptionReq a timeout past = set_option c (first a) past
request k c AllYours a timeout past = past

-- data that spell nothing are refused
abbrev pub request_if_read : Settings → ℕ → Option Asked → Past → Past
request_if_read k c None past = refuse c (codes "bad_arguments") past
request_if_read k c (Some asked) past = request k c asked.kind asked.arguments asked.timeout past

-- a type that is no request's is unknown, whatever its data
abbrev pub packet_of : Settings → ℕ → Option Kind → List ℕ → Past → Past
packet_of k c None bytes past = refuse c (codes "unknown_command") past
packet_of k c (Some kind) bytes past = request_if_read k c (read_as kind bytes) past
