-- The effects of actions, and the facts of the texts in them.
use Rattle.std.specs.Prelude.{◌≡◌, ◌⊎◌, ℕ, ◌≤◌, Bool, true, false, ◌&&◌, ◌||◌, codes, List, [], length, Option, Some, None, Result, Ok, Err}
use Rattle.std.specs.Str.{bytes_eq}
use Rattle.gm_packet.specs.declared.kind.Kind.{Kind}
use Rattle.gm_packet.specs.declared.kind.Kind.TheVariants as kinds
use Rattle.gm_packet.specs.Answers.{Answer, answer_of, job_assign, job_assign_uniq}
use Rattle.gm_packet.specs.Requests.{Asked}
use Rattle.gm_packet.specs.Packets.{has_nul}
use Rattle.gm_packet.specs.Packets.{Fits}
use Rattle.gm_packet.specs.Answers.{echo_res}
use Rattle.gm_notes.specs.declared.note.Note.TheVariants.{Named, Reset}
use Rattle.gm_notes.specs.Settings.{Settings}
use Rattle.gm_notes.specs.Jobs.{Job, job_of_handle}
use Rattle.gm_notes.specs.Past.{Past, with_note, give, refuse}
use Rattle.gm_notes.specs.Submissions.{Submission, is_bad_name, submit}
use Rattle.gm_notes.specs.Requests.{set_option, tell_status, request}
use Rattle.gm_notes.specs.Workers.{Work, can_do, cant_do, pre_sleep, grab, work}
use Rattle.gm_actions.specs.declared.actions.Action.{Action}
use Rattle.gm_actions.specs.declared.actions.Action.TheVariants.{CanDo, CantDo, ResetAbilities, PreSleep, Grab, Submit, Work as Worked}
use Rattle.gm_actions.specs.declared.actions.Action.TheVariants.{GetStatus, Echo, SetClientId, SetOption, Nothing}
use Rattle.gm_actions.specs.declared.actions.Submission.{Submission as Found}
use Rattle.gm_actions.specs.declared.actions.Report.{Report}
use Rattle.gm_actions.specs.declared.answers.JobRef.{JobRef}
use Rattle.gm_actions.specs.declared.actions.WorkPacket.{WorkPacket}
use Rattle.gm_actions.specs.declared.refusal.Refusal.{Refusal}
use Rattle.gm_actions.specs.declared.refusal.Refusal.TheVariants.{UnknownCommand, BadArguments}
use Rattle.gm_actions.specs.Refusals.{code_of}
use Rattle.gm_actions.specs.Carried.{IsCarried, AreNumbers}

-- ---- what is handed on, wherever its bytes lie

-- the submission of a request
abbrev pub submission_of : Found → Submission
submission_of s =
    record { function = s.function.now; unique = s.unique.now; body = s.body.bytes.now; priority = s.priority; background = s.background }

-- the job of a reference
abbrev pub job_of : JobRef → Job
job_of job = record { function = job.function.now; priority = job.priority; unique = job.unique.now; body = job.body.now }

-- the answer to a worker with a job, whatever text is given as its handle
abbrev pub assigned : Bool → List ℕ → Job → Answer
assigned true text job = job_assign_uniq text job.function job.unique job.body
assigned false text job = job_assign text job.function job.body

-- how far a job is
abbrev pub report_of : Report → List ℕ × List ℕ
report_of report = (report.numerator.now, report.denominator.now)

-- how far a job is, if a packet says it
abbrev pub option_report : Option Report → Option (List ℕ × List ℕ)
option_report None = None
option_report (Some report) = Some (report_of report)

-- a worker's report on its job; an exception ends the job if requests mean what gearmand's applications mean by them
abbrev pub work_of : Settings → WorkPacket → Work
work_of k packet =
    record {
      answer = answer_of packet.response;
      exceptions_only = packet.exceptions_only;
      report = option_report packet.report;
      ends = packet.ends || (packet.exceptions_only && k.as_gearmand);
    }

-- ---- what is done

-- the effect of a request
abbrev pub serve : Settings → ℕ → Asked → Past → Past
serve k c asked past = request k c asked.kind asked.arguments asked.timeout past

-- the effect of an action of slot c
abbrev pub act : Settings → ℕ → Action → Past → Past
act k c (CanDo function timeout) past = can_do k c function.now timeout past
act k c (CantDo function) past = cant_do c function.now past
act k c ResetAbilities past = with_note (Reset c) past
act k c PreSleep past = pre_sleep k c past
act k c (Grab with_unique) past = grab k c with_unique past
act k c (Submit asked) past = submit k c (submission_of asked) past
act k c (Worked packet) past = work k c packet.handle.now (work_of k packet) past
act k c (GetStatus handle) past = tell_status k c handle.now (job_of_handle k handle.now past.notes) past
act k c (Echo body) past = give c (echo_res body.bytes.now) past
act k c (SetClientId id) past = with_note (Named c id.now) past
act k c (SetOption name) past = set_option c name.now past
act k c Nothing past = past

-- an action of slot c is done, or its packet is refused
abbrev pub acted : Settings → ℕ → Result Action Refusal → Past → Past
acted k c (Ok action) past = act k c action past
acted k c (Err refusal) past = refuse c (code_of refusal) past

-- why data that spell nothing are refused
abbrev pub unread : Option Kind → Refusal
unread None = UnknownCommand
unread (Some kind) = BadArguments

-- ---- what is known of the texts

-- a function that it names can be one, and an option that it names is one
abbrev pub HasGoodNames : Action → Type 0
HasGoodNames (CanDo function timeout) = is_bad_name function.now ≡ false
HasGoodNames (CantDo function) = is_bad_name function.now ≡ false
HasGoodNames (Submit asked) = is_bad_name asked.function.now ≡ false
HasGoodNames (SetOption name) = bytes_eq name.now (codes "exceptions") ≡ true
HasGoodNames action = Unit {0}

-- a text without NUL that came in a packet
pub record IsWord (text : List ℕ) : Type 0 where
  pub plain : has_nul text ≡ false
  pub sized : length text ≤ 1073741824

abbrev pub ReportFits : Option (List ℕ × List ℕ) → Type 0
ReportFits None = Unit {0}
ReportFits (Some numbers) = AreNumbers numbers.0 numbers.1

-- it can be passed on, and its report can be answered again
pub record WorkFits (packet : WorkPacket) : Type 0 where
  pub response : Fits (answer_of packet.response).arguments
  pub report : ReportFits (option_report packet.report)

-- a packet can carry again what came in one
abbrev pub CanBeTold : Action → Type 0
CanBeTold (CanDo function timeout) = has_nul function.now ≡ false
CanBeTold (Submit asked) = IsCarried asked.function.now asked.unique.now asked.body.bytes.now
CanBeTold (Worked packet) = WorkFits packet
CanBeTold (GetStatus handle) = IsWord handle.now
CanBeTold (Echo body) = length body.bytes.now ≤ 1073741824
CanBeTold action = Unit {0}

-- ---- what needs no memory

-- of a kind of requests: RESET_ABILITIES and PRE_SLEEP
abbrev pub needs_no_memory : Kind → Bool
needs_no_memory kinds.ResetAbilities = true
needs_no_memory kinds.PreSleep = true
needs_no_memory kind = false

-- of a packet of such a request: they have no data
abbrev pub NeedsNoMemory : ℕ → List ℕ → Type 0
NeedsNoMemory number bytes = ((number ≡ 3) ⊎ (number ≡ 4)) × (bytes ≡ [])

-- of an action
abbrev pub acts_without_memory : Action → Bool
acts_without_memory ResetAbilities = true
acts_without_memory PreSleep = true
acts_without_memory action = false

-- the packet was read as such an action
abbrev pub ActsWithoutMemory : Result Action Refusal → Type 0
ActsWithoutMemory (Ok action) = acts_without_memory action ≡ true
ActsWithoutMemory (Err refusal) = ⊥
