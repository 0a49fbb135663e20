-- Which steps add which note, and what they may say.
use Rattle.std.specs.Prelude.{◌≡◌, ◌⊎◌, ℕ, ◌≤◌, Bool, true, false, ◌&&◌, ◌||◌, ◌==◌, max, codes, List, [], ◌∷◌, ◌++◌, Option, Some, None, Ok}
use Rattle.gm_packet.specs.declared.kind.Kind.{Kind}
use Rattle.gm_packet.specs.declared.kind.Kind.TheVariants.{CanDo, CantDo, ResetAbilities, PreSleep, SubmitJob}
use Rattle.gm_packet.specs.declared.kind.Kind.TheVariants.{WorkStatus, WorkComplete, WorkFail, WorkException, SubmitJobBg, SubmitJobHigh}
use Rattle.gm_packet.specs.declared.kind.Kind.TheVariants.{SetClientId, CanDoTimeout, OptionReq, SubmitJobHighBg}
use Rattle.gm_packet.specs.declared.kind.Kind.TheVariants.{SubmitJobLow, SubmitJobLowBg}
use Rattle.gm_packet.specs.Kinds.{number, kind_of}
use Rattle.gm_packet.specs.Requests.{Asked, request_of}
use Rattle.gm_packet.specs.Answers.{Answer, answer_packet, no_job}
use Rattle.gm_admin.specs.Commands.{Commanded, MaxQueue, Shutdown, command_of}
use Rattle.gm_notes.specs.declared.states.Priority.{Priority}
use Rattle.gm_notes.specs.declared.states.Priority.TheVariants.{High, Normal, Low}
use Rattle.gm_notes.specs.declared.states.Mode.{Mode}
use Rattle.gm_notes.specs.declared.states.Mode.TheVariants as modes
use Rattle.gm_notes.specs.declared.note.Note.{Note}
use Rattle.gm_notes.specs.declared.note.Note.TheVariants as notes
use Rattle.gm_notes.specs.Flow.{Flow, Began, Queued, Drained, Emptied}
use Rattle.gm_notes.specs.Notes.{moment}
use Rattle.gm_notes.specs.Jobs.{Job, job, job_state, deadline, pick, handle}
use Rattle.gm_notes.specs.JobStates.{is_running, is_running_at}
use Rattle.gm_notes.specs.JobStates as states
use Rattle.gm_notes.specs.Settings.{Settings}
use Rattle.gm_notes.specs.Past.{Past}
use Rattle.gm_notes.specs.Requests.{first, second, third}
use Rattle.gm_notes.specs.Steps.{Step, Open, Packet, Line, Fault, Close, Tick, Took, Withdrew}
pub use Rattle.gm_notes.specs.Withdrawals.{is_grab}
use Rattle.gm_history.specs.History.{Gets}

-- ---- kinds of requests

abbrev pub is_foreground : Kind → Bool
is_foreground SubmitJob = true
is_foreground SubmitJobHigh = true
is_foreground SubmitJobLow = true
is_foreground kind = false

abbrev pub is_background : Kind → Bool
is_background SubmitJobBg = true
is_background SubmitJobHighBg = true
is_background SubmitJobLowBg = true
is_background kind = false

abbrev pub is_submission : Kind → Bool
is_submission kind = is_foreground kind || is_background kind

abbrev pub is_enabling : Kind → Bool
is_enabling CanDo = true
is_enabling CanDoTimeout = true
is_enabling kind = false

abbrev pub is_sleeping : Kind → Bool
is_sleeping PreSleep = true
is_sleeping kind = false

-- it ends the job that it names; an exception does so for gearmand's applications
abbrev pub is_ending : Settings → Kind → Bool
is_ending k WorkComplete = true
is_ending k WorkFail = true
is_ending k WorkException = k.as_gearmand
is_ending k kind = false

-- the priority of a submission
abbrev pub priority_of : Kind → Option Priority
priority_of SubmitJobHigh = Some High
priority_of SubmitJobHighBg = Some High
priority_of SubmitJob = Some Normal
priority_of SubmitJobBg = Some Normal
priority_of SubmitJobLow = Some Low
priority_of SubmitJobLowBg = Some Low
priority_of kind = None

-- how many seconds the jobs of an ability may take, 0 if there is no limit, by the request and the seconds that it
-- says
abbrev pub job_seconds : Kind → ℕ → Option ℕ
job_seconds CanDo timeout = Some 0
job_seconds CanDoTimeout timeout = Some timeout
job_seconds kind timeout = None

-- ---- steps

abbrev pub is_one_of : (Kind → Bool) → Option Kind → Bool
is_one_of kinds None = false
is_one_of kinds (Some kind) = kinds kind

-- the step is a request of slot c, of one of these kinds
abbrev pub asks : (Kind → Bool) → ℕ → Step → Bool
asks kinds c (Packet d number bytes) = c == d && is_one_of kinds (kind_of number)
asks kinds c other = false

-- of any slot
abbrev pub is_request : (Kind → Bool) → Step → Bool
is_request kinds (Packet c number bytes) = is_one_of kinds (kind_of number)
is_request kinds other = false

abbrev pub faults : ℕ → Step → Bool
faults c (Fault d fault) = c == d
faults c other = false

abbrev pub closes : ℕ → Step → Bool
closes c (Close d) = c == d
closes c other = false

abbrev pub is_close : Step → Bool
is_close (Close c) = true
is_close other = false

abbrev pub is_tick : Step → Bool
is_tick (Tick now) = true
is_tick other = false

-- ---- what a step asks

-- the step is a packet of slot c that asks this
abbrev pub PacketAsks : ℕ → Step → Asked → Type 0
PacketAsks c (Packet d number bytes) asked = (c ≡ d) × (request_of number bytes ≡ Ok asked)
PacketAsks c other asked = ⊥

-- it is a text line that commands this
abbrev pub Commands : Step → Commanded → Type 0
Commands (Line c bytes) command = command_of bytes ≡ Ok command
Commands other command = ⊥

-- the request is to submit this job
abbrev pub Submits : Asked → Job → Type 0
Submits asked what =
    (priority_of asked.kind ≡ Some what.priority)
    × (first asked.arguments ≡ what.function) × (second asked.arguments ≡ what.unique) × (third asked.arguments ≡ what.body)

-- it names the job's function and its unique id
abbrev pub IsFor : Asked → Job → Type 0
IsFor asked what = (first asked.arguments ≡ what.function) × (second asked.arguments ≡ what.unique)

-- it mentions the function
abbrev pub Mentions : Step → List ℕ → Type 0
Mentions s f =
    ((c : ℕ) × (asked : Asked) × PacketAsks c s asked × ((is_submission asked.kind || is_enabling asked.kind) ≡ true) × (first asked.arguments ≡ f))
    ⊎ ((size : ℕ) × Commands s (MaxQueue f size))

-- it brings the server into this mode
abbrev pub GoesTo : Mode → Step → Type 0
GoesTo modes.Running s = ⊥
GoesTo modes.Graceful s = Commands s (Shutdown true)
GoesTo modes.Stopped s = Commands s (Shutdown false)

-- ---- causes

-- a packet's request begins with the job's handle
abbrev pub NamesJob : Settings → ℕ → List ℕ → ℕ → Type 0
NamesJob k number bytes n = (asked : Asked) × (request_of number bytes ≡ Ok asked) × (first asked.arguments ≡ handle k n)

-- a step ends job n: WORK_COMPLETE or WORK_FAIL with its handle, of the slot where it runs, and with as_gearmand
-- WORK_EXCEPTION as well, or a tick that reaches its deadline; any tick reaches that of a lost job
abbrev pub Ends : Settings → List Note → Step → ℕ → Type 0
Ends k before (Packet c number bytes) n = (is_one_of (is_ending k) (kind_of number) ≡ true) × (job_state n before ≡ states.Running c) × NamesJob k number bytes n
Ends k before (Tick now) n = (is_running (job_state n before) ≡ true) × (late : ℕ) × (deadline n before ≡ Some late) × (late ≤ max now (moment before))
Ends k before other n = ⊥

-- the step after these notes adds the note to the older ones
abbrev pub Caused : Settings → List Note → Step → Note → List Note → Type 0
Caused k before s (notes.Opened c addr) older = s ≡ Open addr
-- a fault of the slot, or a shutdown that isn't graceful
Caused k before s (notes.Shut c) older = (faults c s ≡ true) ⊎ Commands s (Shutdown false)
Caused k before s (notes.Closed c) older = s ≡ Close c
Caused k before s (notes.Named c id) older = (asked : Asked) × PacketAsks c s asked × (asked.kind ≡ SetClientId) × (first asked.arguments ≡ id)
Caused k before s (notes.OptionSet c) older =
    (asked : Asked) × PacketAsks c s asked × (asked.kind ≡ OptionReq) × (first asked.arguments ≡ codes "exceptions")
Caused k before s (notes.Can c f t) older =
    (asked : Asked) × PacketAsks c s asked × (job_seconds asked.kind asked.timeout ≡ Some t) × (first asked.arguments ≡ f)
Caused k before s (notes.Cant c f) older = (asked : Asked) × PacketAsks c s asked × (asked.kind ≡ CantDo) × (first asked.arguments ≡ f)
Caused k before s (notes.Reset c) older = (asked : Asked) × PacketAsks c s asked × (asked.kind ≡ ResetAbilities)
Caused k before s (notes.Slept c) older = asks is_sleeping c s ≡ true
Caused k before s (notes.Woken c) older = (is_request is_submission s || asks is_enabling c s || asks is_sleeping c s || is_close s) ≡ true
Caused k before s (notes.Stirred c) older = (asks is_grab c s || closes c s) ≡ true
Caused k before s (notes.Took c) older = s ≡ Took c
Caused k before s (notes.Withdrew c) older = s ≡ Withdrew c
-- a submission of just this job
Caused k before s (notes.Made n f p u body) older =
    (c : ℕ) × (asked : Asked) × PacketAsks c s asked × Submits asked (record { function = f; priority = p; unique = u; body = body })
-- a submission in the background, or one of the slot in the foreground, of the job's function and unique id
Caused k before s (notes.Kept n) older =
    (c : ℕ) × (asked : Asked) × PacketAsks c s asked × (is_background asked.kind ≡ true) × (what : Job) × (job n older ≡ Some what) × IsFor asked what
Caused k before s (notes.Listens n c) older =
    (asked : Asked) × PacketAsks c s asked × (is_foreground asked.kind ≡ true) × (what : Job) × (job n older ≡ Some what) × IsFor asked what
-- a grab gets the pick that there was before it
Caused k before s (notes.Assigned n c late) older = (asks is_grab c s ≡ true) × Gets k c n before
Caused k before s (notes.Returned n) older = (c : ℕ) × (s ≡ Close c) × (is_running_at c (job_state n older) ≡ true)
Caused k before s (notes.Lost n) older = (c : ℕ) × (s ≡ Close c) × (is_running_at c (job_state n older) ≡ true)
Caused k before s (notes.Ended n) older = Ends k before s n
Caused k before s (notes.Discarded n) older = is_close s ≡ true
-- WORK_STATUS with the job's handle and these numbers, of the slot where it runs
Caused k before s (notes.Report n a b) older =
    (c : ℕ) × (asked : Asked) × PacketAsks c s asked × (asked.kind ≡ WorkStatus) × (job_state n before ≡ states.Running c)
    × (first asked.arguments ≡ handle k n) × (second asked.arguments ≡ a) × (third asked.arguments ≡ b)
Caused k before s (notes.Mention f) older = Mentions s f
Caused k before s (notes.Limit f size) older = Commands s (MaxQueue f size)
Caused k before s (notes.Now t) older = (now : ℕ) × (s ≡ Tick now) × (t ≡ max now (moment before))
Caused k before s (notes.Went m) older = GoesTo m s

-- the answer tells of a job's end: it is WORK_COMPLETE or WORK_FAIL, or with as_gearmand WORK_EXCEPTION
abbrev pub IsOfEnd : Settings → Answer → Type 0
IsOfEnd k answer =
    (answer.kind ≡ number WorkComplete) ⊎ ((answer.kind ≡ number WorkFail) ⊎ ((k.as_gearmand ≡ true) × (answer.kind ≡ number WorkException)))

-- the answer hands out a job: JOB_ASSIGN or JOB_ASSIGN_UNIQ
abbrev pub IsAssignment : Answer → Type 0
IsAssignment answer = (answer.kind ≡ 11) ⊎ (answer.kind ≡ 31)

-- the step after these notes may queue the bytes to slot c: NO_JOB only for a grab, and only if there is no pick
abbrev pub MaySay : Settings → List Note → Step → ℕ → List ℕ → Type 0
MaySay k before s c bytes = bytes ≡ answer_packet no_job → (asks is_grab c s ≡ true) × (pick k c before ≡ None)

-- from one past to the other just this answer is queued, to slot c, and nothing else happens to bytes
abbrev pub JustQueues : ℕ → Answer → Past → Past → Type 0
JustQueues c answer before after = after.flow ≡ Queued c (answer_packet answer) ∷ before.flow

-- ---- all that a step adds

-- the newer notes, each added to those before it
abbrev pub AllCaused : Settings → List Note → Step → List Note → Type 0
AllCaused k before s [] = Unit {0}
AllCaused k before s (note ∷ newer) = Caused k before s note (newer ++ before) × AllCaused k before s newer

abbrev pub Says : Settings → List Note → Step → Flow → Type 0
Says k before s (Queued c bytes) = MaySay k before s c bytes
Says k before s (Began c) = Unit {0}
Says k before s (Drained c) = Unit {0}
Says k before s (Emptied c) = Unit {0}

abbrev pub AllSaid : Settings → List Note → Step → List Flow → Type 0
AllSaid k before s [] = Unit {0}
AllSaid k before s (one ∷ newer) = Says k before s one × AllSaid k before s newer
