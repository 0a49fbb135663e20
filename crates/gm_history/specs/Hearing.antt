-- The listeners of a job, and the slots to which a step may queue bytes.
use Rattle.std.specs.Prelude.{◌≡◌, ℕ, ◌<◌, Bool, true, ◌==◌, ◌⊎◌, if◌then◌else◌, List, [], ◌∷◌, length, filter, Option, Some, None}
use Rattle.gm_packet.specs.declared.kind.Kind.{Kind}
use Rattle.gm_packet.specs.declared.kind.Kind.TheVariants.{WorkStatus, WorkComplete, WorkFail, WorkException, WorkData, WorkWarning}
use Rattle.gm_packet.specs.Requests.{Asked}
use Rattle.gm_packet.specs.Answers.{Answer, answer_packet, work_status, work_complete, work_fail, work_data, work_warning}
use Rattle.gm_packet.specs.Answers.{work_exception}
use Rattle.gm_notes.specs.declared.note.Note.{Note}
use Rattle.gm_notes.specs.Settings.{Settings}
use Rattle.gm_notes.specs.Notes.{is_open}
use Rattle.gm_notes.specs.Jobs.{job_state, listeners, handle}
use Rattle.gm_notes.specs.JobStates as states
use Rattle.gm_notes.specs.Workers.{wants_exceptions}
use Rattle.gm_notes.specs.Requests.{first, second, third}
use Rattle.gm_notes.specs.Steps.{Step, Packet, Line, Fault, Tick}
use Rattle.gm_history.specs.Causes.{PacketAsks, Ends}

-- these slots are open
abbrev pub AllOpen : List ℕ → List Note → Type 0
AllOpen [] notes = Unit {0}
AllOpen (c ∷ slots) notes = (is_open c notes ≡ true) × AllOpen slots notes

-- how often slot c listens to job n: once for each time that it came to listen
abbrev pub listens : ℕ → ℕ → List Note → ℕ
listens c n notes = length (filter (λ d. c == d) (listeners n notes))

-- the packet that the worker of job n asks to be passed on to a listener, by whether the listener gets exceptions; with
-- as_gearmand a listener that gets none gets WORK_FAIL instead
abbrev pub passed_on : Settings → Bool → ℕ → Kind → List (List ℕ) → Option Answer
passed_on k wants n WorkStatus a = Some (work_status (handle k n) (second a) (third a))
passed_on k wants n WorkData a = Some (work_data (handle k n) (second a))
passed_on k wants n WorkWarning a = Some (work_warning (handle k n) (second a))
passed_on k wants n WorkException a =
    if wants then Some (work_exception (handle k n) (second a)) else (if k.as_gearmand then Some (work_fail (handle k n)) else None)
passed_on k wants n WorkComplete a = Some (work_complete (handle k n) (second a))
passed_on k wants n WorkFail a = Some (work_fail (handle k n))
passed_on k wants n kind a = None

-- slot c, where job n runs, asks that these bytes be passed on to slot d, and that listens to the job
abbrev pub PassesOn : Settings → List Note → ℕ → Step → ℕ → List ℕ → Type 0
PassesOn k before c s d bytes =
    (n : ℕ) × (asked : Asked) × (answer : Answer) × PacketAsks c s asked × (job_state n before ≡ states.Running c) × (first asked.arguments ≡ handle k n)
    × (passed_on k (wants_exceptions d before) n asked.kind asked.arguments ≡ Some answer) × (bytes ≡ answer_packet answer) × (0 < listens d n before)

-- The step after these notes may queue the bytes to slot d. A slot's request is answered only to it. Another slot gets
-- reports of the worker of a job to which it listens, and WORK_FAIL in the tick that ends such a job. Other steps queue
-- nothing.
abbrev pub MayGet : Settings → List Note → Step → ℕ → List ℕ → Type 0
MayGet k before (Packet c number asking) d bytes = (c ≡ d) ⊎ PassesOn k before c (Packet c number asking) d bytes
MayGet k before (Line c line) d bytes = c ≡ d
MayGet k before (Fault c fault) d bytes = c ≡ d
MayGet k before (Tick now) d bytes = (n : ℕ) × Ends k before (Tick now) n × (bytes ≡ answer_packet (work_fail (handle k n))) × (0 < listens d n before)
MayGet k before other d bytes = ⊥
