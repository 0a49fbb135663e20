-- The packets that a job's listeners get.
use Rattle.std.specs.Prelude.{◌≡◌, ℕ, ◌<◌, true, not, ◌==◌, ◌⊎◌, if◌then◌else◌, List, [], ◌∷◌, ◌++◌, length, filter, replicate}
use Rattle.std.specs.Prelude.{Option, Some, None, Ok}
use Rattle.std.specs.List.{list_all}
use Rattle.std.specs.Str.{bytes_eq}
use Rattle.gm_packet.specs.declared.kind.Kind.{Kind}
use Rattle.gm_packet.specs.declared.kind.Kind.TheVariants.{WorkException}
use Rattle.gm_packet.specs.Requests.{Asked, request_of}
use Rattle.gm_packet.specs.Answers.{Answer, answer_packet, work_fail, work_exception, job_created}
use Rattle.gm_notes.specs.declared.note.Note.{Note}
use Rattle.gm_notes.specs.Settings.{Settings}
use Rattle.gm_notes.specs.Notes.{takes_units}
use Rattle.gm_notes.specs.Flow.{Flow, Began, Queued, Drained, Emptied}
use Rattle.gm_notes.specs.Jobs.{job_state, listeners, handle}
use Rattle.gm_notes.specs.JobStates.{is_running, is_live}
use Rattle.gm_notes.specs.JobStates as states
use Rattle.gm_notes.specs.Past.{Past}
use Rattle.gm_notes.specs.Workers.{wants_exceptions}
use Rattle.gm_notes.specs.Requests.{first, second}
use Rattle.gm_notes.specs.Steps.{Step, Packet, Tick, run}
use Rattle.gm_history.specs.Hearing.{listens, passed_on, MayGet}
use Rattle.gm_history.specs.Causes.{PacketAsks, asks, is_foreground, is_ending, closes, IsOfEnd}
use Rattle.gm_laws.specs.Laws.{was_made}
use Rattle.gm_laws.specs.Turns.{One}

-- ---- what is queued to a slot

-- the texts queued to slot c since it was opened, one by one, the oldest first
abbrev pub outputs : ℕ → List Flow → List (List ℕ)
outputs c [] = []
outputs c (Began d ∷ older) = if c == d then [] else outputs c older
outputs c (Queued d bytes ∷ older) = if c == d then outputs c older ++ bytes ∷ [] else outputs c older
outputs c (Drained d ∷ older) = outputs c older
outputs c (Emptied d ∷ older) = outputs c older

-- from one past to the other just these are queued to slot c
abbrev pub Queues : ℕ → List (List ℕ) → Past → Past → Type 0
Queues c newer before after = outputs c after.flow ≡ outputs c before.flow ++ newer

-- how many of them are these bytes
abbrev pub copies : List ℕ → List (List ℕ) → ℕ
copies bytes queued = length (filter (bytes_eq bytes) queued)

-- ---- what is told

-- the packets for a slot that listens this often, if there is one for it
abbrev pub heard : Option Answer → ℕ → List (List ℕ)
heard None times = []
heard (Some answer) times = replicate times (answer_packet answer)

-- the slots to which something is queued, in order
abbrev pub slots_told : List Flow → List ℕ
slots_told [] = []
slots_told (Queued d bytes ∷ older) = slots_told older ++ d ∷ []
slots_told (one ∷ older) = slots_told older

-- to which of these listeners something is queued when the worker reports, in order: to all; with an exception to those
-- that get exceptions, and then to those that get WORK_FAIL instead
abbrev pub told_in_order : Settings → Kind → List ℕ → List Note → List ℕ
told_in_order k WorkException slots notes =
    filter (λ d. wants_exceptions d notes) slots ++ (if k.as_gearmand then filter (λ d. not (wants_exceptions d notes)) slots else [])
told_in_order k kind slots notes = slots

-- from one past to the other a report of job n is queued in the order in which slots came to listen
abbrev pub AreToldInOrder : Settings → Kind → ℕ → Past → Past → Type 0
AreToldInOrder k kind n before after =
    (newer : List Flow) × (after.flow ≡ newer ++ before.flow) × (slots_told newer ≡ told_in_order k kind (listeners n before.notes) before.notes)

-- A report by the slot where a job runs is passed on to each slot as often as the slot listens, and nothing else is
-- queued. The packet passed on depends on whether the slot gets exceptions. A report is a request that passes something
-- on to slots that get exceptions.
abbrev pub WhatWorkersSayIsPassedOn : Type 0
WhatWorkersSayIsPassedOn = (k : Settings) (steps : List Step) (worker n number : ℕ) (bytes : List ℕ) (asked : Asked) (report : Answer) →
    let before = run k steps in
    let after = run k (Packet worker number bytes ∷ steps) in
    takes_units worker before.notes ≡ true → job_state n before.notes ≡ states.Running worker →
    request_of number bytes ≡ Ok asked → first asked.arguments ≡ handle k n → passed_on k true n asked.kind asked.arguments ≡ Some report →
    ((c : ℕ) → Queues c (heard (passed_on k (wants_exceptions c before.notes) n asked.kind asked.arguments) (listens c n before.notes)) before after)
    × AreToldInOrder k asked.kind n before after

-- With as_gearmand WORK_EXCEPTION with a job's handle, of the slot where it runs, ends the job. Each slot gets it if it
-- gets exceptions, and WORK_FAIL if not, as often as it listened to the job before that step, and nothing else is
-- queued.
abbrev pub ExceptionsEndJobs : Settings → Past → Step → Past → Type 0
ExceptionsEndJobs k before s after = (worker n : ℕ) (asked : Asked) → k.as_gearmand ≡ true →
    takes_units worker before.notes ≡ true → job_state n before.notes ≡ states.Running worker →
    PacketAsks worker s asked → asked.kind ≡ WorkException → first asked.arguments ≡ handle k n →
    (job_state n after.notes ≡ states.Ended)
    × ((c : ℕ) →
    let answer = if wants_exceptions c before.notes then work_exception (handle k n) (second asked.arguments) else work_fail (handle k n) in
    Queues c (replicate (listens c n before.notes) (answer_packet answer)) before after)

-- ---- which slots may get what

abbrev pub AllMayGet : Settings → List Note → Step → List Flow → Type 0
AllMayGet k before s [] = Unit {0}
AllMayGet k before s (Queued d bytes ∷ newer) = MayGet k before s d bytes × AllMayGet k before s newer
AllMayGet k before s (one ∷ newer) = AllMayGet k before s newer

abbrev pub AnswersStayHome : Settings → Past → Step → Past → Type 0
AnswersStayHome k before s after = (newer : List Flow) × (after.flow ≡ newer ++ before.flow) × AllMayGet k before.notes s newer

-- ---- ends

-- the answer of a step after these notes to slot c on the end of job n: its worker's report, or WORK_FAIL in a tick
abbrev pub TellsEnd : Settings → List Note → ℕ → ℕ → Step → Answer → Type 0
TellsEnd k before c n (Packet worker number bytes) answer =
    (asked : Asked) × (request_of number bytes ≡ Ok asked) × (is_ending k asked.kind ≡ true)
    × (passed_on k (wants_exceptions c before) n asked.kind asked.arguments ≡ Some answer)
TellsEnd k before c n (Tick now) answer = answer ≡ work_fail (handle k n)
TellsEnd k before c n other answer = ⊥

-- In the step that ends a job each slot is told as often as it listened to the job before that step.
abbrev pub EachListenerIsTold : Settings → Past → Step → Past → Type 0
EachListenerIsTold k before s after = (n : ℕ) → job_state n after.notes ≡ states.Ended →
    (job_state n before.notes ≡ states.Ended)
    ⊎ ((c : ℕ) → (answer : Answer) × TellsEnd k before.notes c n s answer
    × ((newer : List (List ℕ)) × Queues c newer before after × (copies (answer_packet answer) newer ≡ listens c n before.notes)))

-- WORK_COMPLETE and WORK_FAIL, and with as_gearmand WORK_EXCEPTION, are queued to a slot only to report the end of a
-- job, in the step that ends it, and only if the slot listens to it.
abbrev pub OnlyEndsAreTold : Settings → Past → Step → Past → Type 0
OnlyEndsAreTold k before s after = (c : ℕ) (newer : List (List ℕ)) (answer : Answer) →
    Queues c newer before after → IsOfEnd k answer → 0 < copies (answer_packet answer) newer →
    (n : ℕ) × (told : Answer) × (answer_packet answer ≡ answer_packet told) × TellsEnd k before.notes c n s told
    × (is_running (job_state n before.notes) ≡ true) × (job_state n after.notes ≡ states.Ended) × (0 < listens c n before.notes)

-- ---- from the submission to the end

-- the step after these earlier ones tells slot c of the end of job n
abbrev pub Tells : Settings → ℕ → ℕ → List Step → Step → Type 0
Tells k c n earlier s =
    (answer : Answer) × TellsEnd k (run k earlier).notes c n s answer
    × ((newer : List (List ℕ)) × Queues c newer (run k earlier) (run k (s ∷ earlier)) × (0 < copies (answer_packet answer) newer))

-- A slot that submits a job in the foreground is told its handle. As long as the slot isn't closed, the job waits or
-- runs, or one of the steps since told the slot of its end.
abbrev pub WhoStaysIsTold : Type 0
WhoStaysIsTold = (k : Settings) (c : ℕ) (text : List ℕ) (earlier later : List Step) (s : Step) →
    asks is_foreground c s ≡ true → Queues c (answer_packet (job_created text) ∷ []) (run k earlier) (run k (s ∷ earlier)) →
    list_all (λ t. not (closes c t)) later ≡ true →
    (n : ℕ) × (text ≡ handle k n) × ((is_live (job_state n (run k (later ++ s ∷ earlier)).notes) ≡ true) ⊎ One (Tells k c n) later (s ∷ earlier))

-- Of the end of a job that was made by then no slot is told in two steps.
abbrev pub NobodyIsToldTwice : Type 0
NobodyIsToldTwice = (k : Settings) (c n : ℕ) (earlier between : List Step) (one other : Step) →
    was_made n (run k (one ∷ earlier)).notes ≡ true → Tells k c n earlier one → Tells k c n (between ++ one ∷ earlier) other → ⊥
