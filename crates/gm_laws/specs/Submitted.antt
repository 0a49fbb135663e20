-- Each submission is answered, and what is submitted is what is worked on.
use Rattle.std.specs.Prelude.{◌≡◌, ◌⊎◌, ℕ, suc, ◌+◌, ◌<◌, ◌≤◌, ◌^◌, true, false, List, [], ◌∷◌, length, codes, Option, Some, None}
use Rattle.gm_packet.specs.declared.kind.Kind.{Kind}
use Rattle.gm_packet.specs.declared.kind.Kind.TheVariants.{GrabJob, GrabJobUniq}
use Rattle.gm_packet.specs.Requests.{Asked}
use Rattle.gm_packet.specs.Answers.{Answer, answer_packet, job_created, job_assign, job_assign_uniq, error}
use Rattle.gm_notes.specs.Settings.{Settings}
use Rattle.gm_notes.specs.Notes.{takes_units}
use Rattle.gm_notes.specs.Jobs.{Job, job_state, job, is_kept, made, functions, is_mentioned, limit, total, handle}
use Rattle.gm_notes.specs.JobStates.{is_live}
use Rattle.gm_notes.specs.JobStates as states
use Rattle.gm_notes.specs.Past.{Past}
use Rattle.gm_notes.specs.Requests.{first}
use Rattle.gm_notes.specs.Steps.{Step, run}
use Rattle.gm_history.specs.Causes.{PacketAsks, Submits, IsFor, is_foreground, is_background, is_submission, IsAssignment, JustQueues}
use Rattle.gm_history.specs.Laws.{InEachStep}
use Rattle.gm_history.specs.Hearing.{listens}
use Rattle.gm_laws.specs.Listeners.{Queues, copies}
use Rattle.gm_laws.specs.Turns.{One}

-- ---- the answer to a submission

-- the job waits or runs already, and has the function and the unique id that are asked for; no id and a dash join
-- nothing
abbrev pub IsJoined : Asked → ℕ → Past → Type 0
IsJoined asked n before =
    (what : Job) × (job n before.notes ≡ Some what) × (is_live (job_state n before.notes) ≡ true)
    × IsFor asked what × (what.unique ≡ [] → ⊥) × (what.unique ≡ codes "-" → ⊥)

abbrev pub JoinsNone : Asked → Past → Type 0
JoinsNone asked before = (n : ℕ) → IsJoined asked n before → ⊥

-- it is new, and just what is asked for, since there was none to join
abbrev pub IsNew : Asked → ℕ → Past → Past → Type 0
IsNew asked n before after = (what : Job) × (job n after.notes ≡ Some what) × Submits asked what × (job n before.notes ≡ None) × JoinsNone asked before

-- the submission joins the job, or makes it
abbrev pub JoinsOrMakes : Asked → ℕ → Past → Past → Type 0
JoinsOrMakes asked n before after = IsJoined asked n before ⊎ IsNew asked n before after

-- after a submission in the background the job is kept, and after one in the foreground the slot listens once more
abbrev pub KeepsOrListens : Kind → ℕ → ℕ → Past → Past → Type 0
KeepsOrListens kind c n before after =
    ((is_background kind ≡ true) × (is_kept n after.notes ≡ true) × (listens c n after.notes ≡ listens c n before.notes))
    ⊎ ((is_foreground kind ≡ true) × (is_kept n after.notes ≡ is_kept n before.notes) × (listens c n after.notes ≡ suc (listens c n before.notes)))

-- JOB_CREATED says the handle of such a job, which waits or runs
abbrev pub IsCreated : Settings → ℕ → Asked → Past → Past → Type 0
IsCreated k c asked before after =
    (n : ℕ) × JustQueues c (job_created (handle k n)) before after × (is_live (job_state n after.notes) ≡ true)
    × JoinsOrMakes asked n before after × KeepsOrListens asked.kind c n before after

-- there is no job to join, and the function is one too many, or has as many jobs as its limit says, or no number is
-- left
abbrev pub HasNoRoom : Settings → Asked → Past → List ℕ → Type 0
HasNoRoom k asked before code =
    JoinsNone asked before
    × (((code ≡ codes "too_many_functions") × (is_mentioned (first asked.arguments) before.notes ≡ false) × (k.max_functions ≤ length (functions before.notes)))
    ⊎ (((code ≡ codes "queue_full") × (0 < limit (first asked.arguments) before.notes) × (limit (first asked.arguments) before.notes ≤ total (first asked.arguments) before.notes))
    ⊎ ((code ≡ codes "no_numbers") × (2 ^ 64 ≤ k.first_job + length (made before.notes)))))

-- too long for a function's name
abbrev pub IsLong : List ℕ → Type 0
IsLong name = 512 < length name

abbrev pub IsBadName : List ℕ → Type 0
IsBadName name = (name ≡ []) ⊎ IsLong name

abbrev pub HasBadName : Asked → List ℕ → Type 0
HasBadName asked code = (code ≡ codes "bad_function") × IsBadName (first asked.arguments)

-- an ERROR says why, and nothing happened
abbrev pub IsTurnedDown : Settings → ℕ → Asked → Past → Past → Type 0
IsTurnedDown k c asked before after =
    (code : List ℕ) × (text : List ℕ) × JustQueues c (error code text) before after × (after.notes ≡ before.notes) × (HasBadName asked code ⊎ HasNoRoom k asked before code)

-- Each submission of a slot that takes units gets one answer, or the other.
abbrev pub SubmissionsAreAnswered : Settings → Past → Step → Past → Type 0
SubmissionsAreAnswered k before s after = (c : ℕ) (asked : Asked) → takes_units c before.notes ≡ true → PacketAsks c s asked → is_submission asked.kind ≡ true →
    IsCreated k c asked before after ⊎ IsTurnedDown k c asked before after

-- ---- what is worked on

-- the step after these earlier ones submits job n, which is this, and is answered with its handle
abbrev pub MakesJob : Settings → ℕ → Job → List Step → Step → Type 0
MakesJob k n what earlier s =
    (c : ℕ) × (asked : Asked) × PacketAsks c s asked × Submits asked what × (job n (run k earlier).notes ≡ None)
    × JustQueues c (job_created (handle k n)) (run k earlier) (run k (s ∷ earlier))

-- how a grab that gets this job is answered
abbrev pub grab_answer : Settings → ℕ → Job → Kind → Option Answer
grab_answer k n what GrabJob = Some (job_assign (handle k n) what.function what.body)
grab_answer k n what GrabJobUniq = Some (job_assign_uniq (handle k n) what.function what.unique what.body)
grab_answer k n what kind = None

-- in the step that gives a slot a job, the slot gets the job as submitted, and no slot gets anything else
abbrev pub GivesTheJob : Settings → Past → Step → Past → Type 0
GivesTheJob k before s after = (n c : ℕ) → job_state n before.notes ≡ states.Waiting → job_state n after.notes ≡ states.Running c →
    (what : Job) × (asked : Asked) × (answer : Answer)
    × (job n before.notes ≡ Some what) × PacketAsks c s asked × (grab_answer k n what asked.kind ≡ Some answer) × JustQueues c answer before after

-- JOB_ASSIGN and JOB_ASSIGN_UNIQ are queued to a slot only in the step that gives it a job that waited, once, as what
-- that job is
abbrev pub OneAssignmentOneJob : Settings → Past → Step → Past → Type 0
OneAssignmentOneJob k before s after = (c : ℕ) (newer : List (List ℕ)) (answer : Answer) →
    Queues c newer before after → IsAssignment answer → 0 < copies (answer_packet answer) newer →
    (n : ℕ) × (what : Job) × (asked : Asked) × (told : Answer)
    × (job_state n before.notes ≡ states.Waiting) × (job_state n after.notes ≡ states.Running c) × (job n before.notes ≡ Some what)
    × PacketAsks c s asked × (grab_answer k n what asked.kind ≡ Some told) × (answer_packet answer ≡ answer_packet told) × (newer ≡ answer_packet told ∷ [])

-- Each job is what one of the steps submitted, and the slot that is given it gets just this.
abbrev pub WhatIsSubmittedIsWorkedOn : Type 0
WhatIsSubmittedIsWorkedOn =
    ((k : Settings) (steps : List Step) (n : ℕ) (what : Job) → job n (run k steps).notes ≡ Some what → One (MakesJob k n what) steps [])
    × InEachStep GivesTheJob
