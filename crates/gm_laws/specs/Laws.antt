-- Laws of all steps, under any settings.
use Rattle.std.specs.Prelude.{◌≡◌, ℕ, ◌+◌, ◌<◌, ◌≤◌, ◌^◌, ◌==◌, ◌⊎◌, Bool, true, false, not, List, [], ◌∷◌}
use Rattle.std.specs.Prelude.{◌++◌, length, Some, None}
use Rattle.std.specs.List.{list_any, list_all}
use Rattle.gm_packet.specs.Kinds.{kind_of}
use Rattle.gm_notes.specs.declared.note.Note.{Note}
use Rattle.gm_notes.specs.Settings.{Settings}
use Rattle.gm_notes.specs.Notes.{is_open, takes_units, mode}
use Rattle.gm_notes.specs.Flow.{Flow, waiting}
use Rattle.gm_notes.specs.Jobs.{pick, job_state, is_live_named, joins, made, deadline}
use Rattle.gm_notes.specs.declared.event.UnitFault.{UnitFault}
use Rattle.gm_notes.specs.declared.states.Mode.{Mode}
use Rattle.gm_notes.specs.declared.states.Mode.TheVariants.{Running, Graceful, Stopped}
use Rattle.gm_admin.specs.Commands.{Shutdown}
use Rattle.gm_notes.specs.declared.states.Pick.{Pick}
use Rattle.gm_notes.specs.JobStates.{JobState, is_waiting, is_running, is_live, place_of}
use Rattle.gm_notes.specs.JobStates as states
use Rattle.gm_notes.specs.Steps.{Step, Open, Packet, Line, Fault, Close, Took, Withdrew, Drain, refusal, done, step, run}
use Rattle.gm_notes.specs.Past.{Past}
use Rattle.gm_notes.specs.Servers.{owes, is_closing as has_shut}
use Rattle.gm_history.specs.Laws.{drained, IsPrefix}
use Rattle.gm_history.specs.History.{Gets, progress}
use Rattle.gm_history.specs.Causes.{Ends, Commands, AllSaid, asks, is_grab, is_sleeping, is_one_of, closes}

-- the numbers made are the first and its successors, each once, none above the greatest of 64 bits; the newest first
abbrev pub AreConsecutive : Settings → List ℕ → Type 0
AreConsecutive k [] = Unit {0}
AreConsecutive k (n ∷ older) = (n ≡ k.first_job + length older) × (n < 2 ^ 64) × AreConsecutive k older

-- the job was made
abbrev pub was_made : ℕ → List Note → Bool
was_made n notes = list_any (λ m. m == n) (made notes)

-- in how many of the four places a job is: it waits, runs (a lost one until the next tick), has ended, was discarded
abbrev pub one : Bool → ℕ
one true = 1
one false = 0

abbrev pub has_ended : JobState → Bool
has_ended states.Ended = true
has_ended other = false

abbrev pub was_discarded : JobState → Bool
was_discarded states.Discarded = true
was_discarded other = false

abbrev pub places_of : JobState → ℕ
places_of s = one (is_waiting s) + one (is_running s) + one (has_ended s) + one (was_discarded s)

-- a job that was made is in exactly one of them, and any other in none
abbrev pub PlacedExactlyWhereMade : Settings → List Note → Type 0
PlacedExactlyWhereMade k notes = (n : ℕ) → places_of (job_state n notes) ≡ one (was_made n notes)

-- the function is one of these
abbrev pub IsAmong : List ℕ → List (List ℕ) → Type 0
IsAmong f all = (before after : List (List ℕ)) × (all ≡ before ++ f ∷ after)

-- live jobs of one function and one id that joins are one job
abbrev pub AreOne : Settings → List Note → Type 0
AreOne k notes = (f u : List ℕ) (m n : ℕ) → joins u ≡ true → is_live_named f u notes m ≡ true → is_live_named f u notes n ≡ true → m ≡ n

-- a job that has ended or was discarded stays so, whatever comes
abbrev pub is_gone : JobState → Bool
is_gone states.Ended = true
is_gone states.Discarded = true
is_gone other = false

abbrev pub StayGone : Type 0
StayGone = (k : Settings) (later steps : List Step) (n : ℕ) →
    is_gone (job_state n (run k steps).notes) ≡ true → job_state n (run k (later ++ steps)).notes ≡ job_state n (run k steps).notes

-- ---- what a step does

-- a job ends only with WORK_COMPLETE or WORK_FAIL with its handle, of the slot where it runs, and with as_gearmand with
-- WORK_EXCEPTION as well, or in a tick that reaches its deadline
abbrev pub EndsWithItsWorker : Settings → Past → Step → Past → Type 0
EndsWithItsWorker k before s after = (n : ℕ) → job_state n after.notes ≡ states.Ended → (job_state n before.notes ≡ states.Ended) ⊎ Ends k before.notes s n

-- the step is a packet of a slot that takes no units
abbrev pub is_unheard : Step → List Note → Bool
is_unheard (Packet c number bytes) notes = not (takes_units c notes)
is_unheard other notes = false

-- the converse: what would end a job ends it, unless it is a packet of a slot that takes no units; and while a job runs
-- at a slot, its deadline stays as it is
abbrev pub WorkersAndClocksEndJobs : Settings → Past → Step → Past → Type 0
WorkersAndClocksEndJobs k before s after =
    ((n : ℕ) → is_unheard s before.notes ≡ false → Ends k before.notes s n → job_state n after.notes ≡ states.Ended)
    × ((n c : ℕ) → job_state n before.notes ≡ states.Running c → job_state n after.notes ≡ states.Running c → deadline n after.notes ≡ deadline n before.notes)

-- a job comes to run at a slot only if the slot grabs, and the job is its pick
abbrev pub GivesThePick : Settings → Past → Step → Past → Type 0
GivesThePick k before s after = (n c : ℕ) → job_state n after.notes ≡ states.Running c →
    (job_state n before.notes ≡ states.Running c) ⊎ ((asks is_grab c s ≡ true) × Gets k c n before.notes)

-- a grab of a slot that takes units gets its pick: the job runs there
abbrev pub GrabsGetThePick : Type 0
GrabsGetThePick = (k : Settings) (steps : List Step) (c number : ℕ) (found : Pick) →
    is_one_of is_grab (kind_of number) ≡ true → takes_units c (run k steps).notes ≡ true → pick k c (run k steps).notes ≡ Some found →
    job_state found.job (run k (Packet c number [] ∷ steps)).notes ≡ states.Running c

-- NO_JOB is queued only for a grab, and only if there is no pick
abbrev pub SaysNoJobWhereNoneIs : Settings → Past → Step → Past → Type 0
SaysNoJobWhereNoneIs k before s after = (newer : List Flow) × (after.flow ≡ newer ++ before.flow) × AllSaid k before.notes s newer

-- the bytes that wait for a slot are taken by its drains, all of them, and go with its closing, and nothing else takes
-- any
abbrev pub takes_from : ℕ → Step → Bool
takes_from c (Drain d) = c == d
takes_from c (Close d) = c == d
takes_from c other = false

abbrev pub OnlyDrainsTake : Settings → Past → Step → Past → Type 0
OnlyDrainsTake k before s after =
    ((c : ℕ) → takes_from c s ≡ false → IsPrefix (waiting c before.flow) (waiting c after.flow))
    × ((c : ℕ) → s ≡ Drain c → (waiting c after.flow ≡ []) × (drained c after.flow ≡ drained c before.flow ++ waiting c before.flow))

-- ---- how the server goes on

-- the mode after a `shutdown` line: one that isn't graceful stops the server, and a graceful one changes only a
-- running server
abbrev pub after_shutdown : Bool → Mode → Mode
after_shutdown false mode = Stopped
after_shutdown true Running = Graceful
after_shutdown true Graceful = Graceful
after_shutdown true Stopped = Stopped

-- a mode never goes back, and a `shutdown` line of a slot that takes units does what it says
abbrev pub ModesComeInOrder : Past → Step → Past → Type 0
ModesComeInOrder before s after =
    (progress (mode before.notes) ≤ progress (mode after.notes))
    × ((c : ℕ) (line : List ℕ) (graceful : Bool) → s ≡ Line c line → Commands s (Shutdown graceful) → takes_units c before.notes ≡ true →
    mode after.notes ≡ after_shutdown graceful (mode before.notes))

-- only a running server opens connections, and it opens one if a slot is free
abbrev pub OpensWhileItRuns : Settings → Past → Step → Past → Type 0
OpensWhileItRuns k before s after =
    ((c : ℕ) → is_open c before.notes ≡ false → is_open c after.notes ≡ true → mode before.notes ≡ Running)
    × ((c : ℕ) (addr : List ℕ) → s ≡ Open addr → mode before.notes ≡ Running → c < k.slots → is_open c before.notes ≡ false →
    (d : ℕ) × (is_open d before.notes ≡ false) × (is_open d after.notes ≡ true))

-- a shut slot stays shut until it closes; a fault shuts its slot, and once the server is stopped each open slot is shut
abbrev pub ShutStaysShut : Past → Step → Past → Type 0
ShutStaysShut before s after =
    ((c : ℕ) → has_shut c before ≡ true → closes c s ≡ false → has_shut c after ≡ true)
    × ((c : ℕ) (fault : UnitFault) → s ≡ Fault c fault → is_open c before.notes ≡ true → has_shut c after ≡ true)
    × (mode after.notes ≡ Stopped → (c : ℕ) → is_open c after.notes ≡ true → has_shut c after ≡ true)

abbrev pub ModesNeverGoBack : Settings → Past → Step → Past → Type 0
ModesNeverGoBack k before s after = ModesComeInOrder before s after × OpensWhileItRuns k before s after × ShutStaysShut before s after

-- ---- when a NOOP is taken

-- a step lets the taking of slot c's NOOP pass: it is no PRE_SLEEP and no closing of the slot, and no taking and no
-- withdrawal of its NOOP
abbrev pub lets_pass : ℕ → Step → Bool
lets_pass c (Packet d number bytes) = not (asks is_sleeping c (Packet d number bytes))
lets_pass c (Close d) = not (c == d)
lets_pass c (Took d) = not (c == d)
lets_pass c (Withdrew d) = not (c == d)
lets_pass c other = true

-- after both pasts a step is refused alike, answers the same, adds the same notes, and leaves the same flow of bytes
abbrev pub GoesAlike : Settings → Step → Past → Past → Type 0
GoesAlike k s a b =
    (refusal k s a ≡ refusal k s b) × (done k s a ≡ done k s b) × ((step k s a).flow ≡ (step k s b).flow)
    × (newer : List Note) × ((step k s a).notes ≡ newer ++ a.notes) × ((step k s b).notes ≡ newer ++ b.notes)

-- so does each of the newer steps, after these and after those
abbrev pub AllGoAlike : Settings → List Step → List Step → List Step → Type 0
AllGoAlike k [] these those = Unit {0}
AllGoAlike k (s ∷ newer) these those = GoesAlike k s (run k (newer ++ these)) (run k (newer ++ those)) × AllGoAlike k newer these those

-- a server answers questions about either past alike: which slots are owed a NOOP, which are shut, whether it goes
-- on, where jobs are, and which bytes wait
abbrev pub TellAlike : Past → Past → Type 0
TellAlike a b =
    ((c : ℕ) → owes c a ≡ owes c b) × ((c : ℕ) → has_shut c a ≡ has_shut c b) × (mode a.notes ≡ mode b.notes)
    × ((n : ℕ) → place_of (job_state n a.notes) ≡ place_of (job_state n b.notes)) × ((c : ℕ) → waiting c a.flow ≡ waiting c b.flow)

-- a NOOP that can be taken can as well be taken later, after steps that let its taking pass: they go alike, and so does
-- whatever comes after them and the taking
abbrev pub MayBeTakenLater : Type 0
MayBeTakenLater = (k : Settings) (c : ℕ) (before between after : List Step) →
    refusal k (Took c) (run k before) ≡ None → list_all (lets_pass c) between ≡ true →
    let late = Took c ∷ between ++ before in
    let early = between ++ Took c ∷ before in
    (refusal k (Took c) (run k (between ++ before)) ≡ None)
    × AllGoAlike k between before (Took c ∷ before)
    × AllGoAlike k after late early
    × TellAlike (run k (after ++ late)) (run k (after ++ early))
