-- Why requests and text lines are refused, and how. Each reason counts only if none of those above it does.
use Rattle.std.specs.Prelude.{◌≡◌, ◌⊎◌, ℕ, ◌+◌, ◌<◌, ◌≤◌, ◌^◌, Bool, true, false, ◌||◌, ◌&&◌, ◌==◌, List, [], ◌∷◌, ◌++◌, length, map, codes, if◌then◌else◌, Result, Ok, Err}
use Rattle.std.specs.List.{list_any}
use Rattle.gm_packet.specs.declared.kind.Kind.{Kind}
use Rattle.gm_packet.specs.declared.kind.Kind.TheVariants.{CantDo, WorkStatus, WorkComplete, WorkFail, WorkException, OptionReq, WorkData}
use Rattle.gm_packet.specs.declared.kind.Kind.TheVariants.{WorkWarning, GrabJob, GrabJobUniq, GetStatus, EchoReq}
use Rattle.gm_packet.specs.Kinds.{number}
use Rattle.gm_packet.specs.declared.request.RequestFault.{RequestFault}
use Rattle.gm_packet.specs.declared.request.RequestFault.TheVariants.{UnknownCommand, BadArguments}
use Rattle.gm_packet.specs.Requests.{Asked, request_of}
use Rattle.gm_packet.specs.Answers.{Answer, answer_packet, error}
use Rattle.gm_admin.specs.declared.fault.AdminFault.{AdminFault}
use Rattle.gm_admin.specs.declared.fault.AdminFault.TheVariants as faults
use Rattle.gm_admin.specs.declared.fault.AdminError.{AdminError}
use Rattle.gm_admin.specs.declared.fault.AdminError.TheVariants as errors
use Rattle.gm_admin.specs.Commands.{Commanded, MaxQueue, command_of}
use Rattle.gm_admin.specs.Answers.{error_text}
use Rattle.gm_notes.specs.declared.event.UnitFault.{UnitFault}
use Rattle.gm_notes.specs.declared.event.UnitFault.TheVariants.{BadMagic, PacketTooLarge, LineTooLong}
use Rattle.gm_notes.specs.declared.note.Note.{Note}
use Rattle.gm_notes.specs.Settings.{Settings}
use Rattle.gm_notes.specs.Notes.{takes_units}
use Rattle.gm_notes.specs.Flow.{Flow, Queued}
use Rattle.gm_notes.specs.Jobs.{job_state, functions, is_mentioned, limit, total, made, handle}
use Rattle.gm_notes.specs.JobStates as states
use Rattle.gm_notes.specs.Past.{Past}
use Rattle.gm_notes.specs.Requests.{first}
use Rattle.gm_notes.specs.Steps.{Step, Packet, Line, Fault}
use Rattle.gm_history.specs.Causes.{PacketAsks, is_enabling, is_submission, JustQueues}
use Rattle.gm_laws.specs.Submitted.{JoinsNone, IsLong, IsBadName}

-- a code with a space (32) for each underscore (95)
abbrev pub in_words : List ℕ → List ℕ
in_words code = map (λ b. if b == 95 then 32 else b) code

-- an ERROR with this code and the same words with spaces is the answer, and nothing happened
abbrev pub IsError : ℕ → List ℕ → Past → Past → Type 0
IsError c code before after = JustQueues c (error code (in_words code)) before after × (after.notes ≡ before.notes)

-- an `ERR` line is the answer, and nothing happened
abbrev pub IsErr : ℕ → AdminError → Past → Past → Type 0
IsErr c error before after = (after.flow ≡ Queued c (error_text error) ∷ before.flow) × (after.notes ≡ before.notes)

-- ---- functions

-- a word of a line is too long, or has a NUL
abbrev pub IsBadWord : List ℕ → Type 0
IsBadWord word = IsLong word ⊎ (list_any (λ b. b == 0) word ≡ true)

-- it would be one function more than the settings allow
abbrev pub IsOneTooMany : Settings → List ℕ → List Note → Type 0
IsOneTooMany k f notes = (is_mentioned f notes ≡ false) × (k.max_functions ≤ length (functions notes))

-- it has as many jobs as its limit says
abbrev pub IsAtLimit : List ℕ → List Note → Type 0
IsAtLimit f notes = (0 < limit f notes) × (limit f notes ≤ total f notes)

-- ---- requests

-- the request is about a function
abbrev pub names_function : Kind → Bool
names_function CantDo = true
names_function kind = is_enabling kind || is_submission kind

-- it is about the job that the slot runs
abbrev pub names_run : Kind → Bool
names_run WorkStatus = true
names_run WorkComplete = true
names_run WorkFail = true
names_run WorkException = true
names_run WorkData = true
names_run WorkWarning = true
names_run kind = false

-- it may bring a new function: an ability, or a job if there is none to join
abbrev pub BringsFunction : Asked → Past → Type 0
BringsFunction asked before = (is_enabling asked.kind ≡ true) ⊎ ((is_submission asked.kind ≡ true) × JoinsNone asked before)

-- it brings a job, and a function has room for it
abbrev pub BringsJob : Settings → Asked → Past → Type 0
BringsJob k asked before = (is_submission asked.kind ≡ true) × JoinsNone asked before × (IsOneTooMany k (first asked.arguments) before.notes → ⊥)

-- why what slot c asks is refused, and with which code
abbrev pub HasReason : Settings → ℕ → Asked → Past → List ℕ → Type 0
HasReason k c asked before code =
    let f = first asked.arguments in
    ((code ≡ codes "bad_function") × (names_function asked.kind ≡ true) × IsBadName f)
    ⊎ (((code ≡ codes "too_many_functions") × (IsBadName f → ⊥) × BringsFunction asked before × IsOneTooMany k f before.notes)
    ⊎ (((code ≡ codes "queue_full") × (IsBadName f → ⊥) × BringsJob k asked before × IsAtLimit f before.notes)
    ⊎ (((code ≡ codes "no_numbers") × (IsBadName f → ⊥) × BringsJob k asked before × (IsAtLimit f before.notes → ⊥) × (2 ^ 64 ≤ k.first_job + length (made before.notes)))
    ⊎ (((code ≡ codes "job_not_found") × (names_run asked.kind ≡ true) × ((n : ℕ) → job_state n before.notes ≡ states.Running c → f ≡ handle k n → ⊥))
    ⊎ ((code ≡ codes "unknown_option") × (asked.kind ≡ OptionReq) × (f ≡ codes "exceptions" → ⊥))))))

-- the packet asks nothing, or what it asks is refused
abbrev pub IsUnserved : Settings → ℕ → Result Asked RequestFault → Past → List ℕ → Type 0
IsUnserved k c (Err UnknownCommand) before code = code ≡ codes "unknown_command"
IsUnserved k c (Err BadArguments) before code = code ≡ codes "bad_arguments"
IsUnserved k c (Ok asked) before code = HasReason k c asked before code

-- ---- text lines

-- the line commands nothing, or its `maxqueue` is refused
abbrev pub IsErroneous : Settings → Result Commanded AdminFault → Past → AdminError → Type 0
IsErroneous k (Err faults.UnknownCommand) before error = error ≡ errors.UnknownCommand
IsErroneous k (Err faults.MissingName) before error = error ≡ errors.MissingName
IsErroneous k (Err faults.BadSize) before error = error ≡ errors.BadSize
IsErroneous k (Ok (MaxQueue f size)) before error =
    ((error ≡ errors.BadFunction) × IsBadWord f) ⊎ ((error ≡ errors.TooManyFunctions) × (IsBadWord f → ⊥) × IsOneTooMany k f before.notes)
IsErroneous k (Ok command) before error = ⊥

-- ---- faults

-- the answer to a fault
abbrev pub IsToldOf : ℕ → UnitFault → Past → Past → Type 0
IsToldOf c BadMagic before after = JustQueues c (error (codes "bad_magic") (codes "bad magic")) before after
IsToldOf c PacketTooLarge before after = JustQueues c (error (codes "packet_too_large") (codes "packet too large")) before after
IsToldOf c LineTooLong before after = after.flow ≡ Queued c (error_text errors.LineTooLong) ∷ before.flow

-- ---- the law

-- the packet types that may answer a request or be passed on for it, but for ERROR; with as_gearmand an exception is
-- passed on as WORK_FAIL to slots that get no exceptions
abbrev pub answers : Settings → Kind → ℕ → Bool
answers k GrabJob type = type == 10 || type == 11
answers k GrabJobUniq type = type == 10 || type == 31
answers k GetStatus type = type == 20
answers k EchoReq type = type == 17
answers k OptionReq type = type == 27
answers k WorkException type = type == number WorkException || (k.as_gearmand && type == number WorkFail)
answers k kind type = (is_submission kind && type == 8) || (names_run kind && type == number kind)

-- nothing but such packets is queued
abbrev pub AllAnswer : Settings → Kind → List Flow → Type 0
AllAnswer k kind [] = Unit {0}
AllAnswer k kind (Queued c bytes ∷ newer) =
    ((answer : Answer) × (bytes ≡ answer_packet answer) × (answers k kind answer.kind ≡ true)) × AllAnswer k kind newer
AllAnswer k kind (other ∷ newer) = ⊥

abbrev pub JustAnswers : Settings → Kind → Past → Past → Type 0
JustAnswers k kind before after = (newer : List Flow) × (after.flow ≡ newer ++ before.flow) × AllAnswer k kind newer

-- A packet or a line of a slot that takes units, for whose refusal there is a reason, is refused with its code, and a
-- fault is answered with what it is. A request for whose refusal there is none gets no ERROR.
abbrev pub RefusalsHaveTheirReason : Settings → Past → Step → Past → Type 0
RefusalsHaveTheirReason k before s after = (c : ℕ) → takes_units c before.notes ≡ true →
    ((number : ℕ) (bytes code : List ℕ) → s ≡ Packet c number bytes → IsUnserved k c (request_of number bytes) before code → IsError c code before after)
    × ((line : List ℕ) (error : AdminError) → s ≡ Line c line → IsErroneous k (command_of line) before error → IsErr c error before after)
    × ((fault : UnitFault) → s ≡ Fault c fault → IsToldOf c fault before after)
    × ((asked : Asked) → PacketAsks c s asked → ((code : List ℕ) × HasReason k c asked before code) ⊎ JustAnswers k asked.kind before after)
