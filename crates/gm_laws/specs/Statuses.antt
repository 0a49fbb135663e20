-- The answer to GET_STATUS.
use Rattle.std.specs.Prelude.{◌≡◌, ◌⊎◌, ℕ, Bool, true, false, ◌&&◌, if◌then◌else◌, List, [], ◌∷◌, codes, Option, Some, None, unwrap_or, Result, Ok, Err}
use Rattle.std.specs.Str.{bytes_eq}
use Rattle.gm_packet.specs.declared.kind.Kind.{Kind}
use Rattle.gm_packet.specs.declared.kind.Kind.TheVariants.{WorkStatus, GetStatus}
use Rattle.gm_packet.specs.declared.request.RequestFault.{RequestFault}
use Rattle.gm_packet.specs.Requests.{Asked, request_of}
use Rattle.gm_packet.specs.Answers.{status_res}
use Rattle.gm_notes.specs.Settings.{Settings}
use Rattle.gm_notes.specs.Notes.{takes_units}
use Rattle.gm_notes.specs.Jobs.{job_state, handle}
use Rattle.gm_notes.specs.JobStates.{is_running, is_running_at, is_live}
use Rattle.gm_notes.specs.Past.{Past}
use Rattle.gm_notes.specs.Requests.{first, second, third}
use Rattle.gm_notes.specs.Steps.{Step, Packet, run}
use Rattle.gm_history.specs.Causes.{JustQueues}

-- ---- the numbers last reported

abbrev pub is_reporting : Kind → Bool
is_reporting WorkStatus = true
is_reporting kind = false

-- the request is to report these numbers of job n
abbrev pub numbers_of : Settings → ℕ → Result Asked RequestFault → Option (List ℕ × List ℕ)
numbers_of k n (Ok asked) =
    if is_reporting asked.kind && bytes_eq (first asked.arguments) (handle k n) then Some (second asked.arguments, third asked.arguments) else None
numbers_of k n (Err fault) = None

-- the numbers that the step reports of job n: WORK_STATUS with its handle, of the slot where it runs
abbrev pub reported_numbers : Settings → ℕ → Past → Step → Option (List ℕ × List ℕ)
reported_numbers k n before (Packet c number bytes) =
    if takes_units c before.notes && is_running_at c (job_state n before.notes) then numbers_of k n (request_of number bytes) else None
reported_numbers k n before other = None

-- those of the last step that reports some, or 0 and 0
abbrev pub last_reported : Settings → ℕ → List Step → List ℕ × List ℕ
last_reported k n [] = (codes "0", codes "0")
last_reported k n (s ∷ earlier) = unwrap_or (reported_numbers k n (run k earlier) s) (last_reported k n earlier)

-- ---- the law

-- the handle is that of a job that waits or runs: the answer says whether it runs, and the numbers last reported
abbrev pub TellsOfJob : Settings → List Step → ℕ → List ℕ → Past → Type 0
TellsOfJob k steps c text after =
    (n : ℕ) × (text ≡ handle k n) × (is_live (job_state n (run k steps).notes) ≡ true)
    × JustQueues c (status_res text true (is_running (job_state n (run k steps).notes)) (last_reported k n steps).0 (last_reported k n steps).1) (run k steps) after

-- it is that of none: the answer says that the job isn't there
abbrev pub TellsOfNone : Settings → List Step → ℕ → List ℕ → Past → Type 0
TellsOfNone k steps c text after =
    ((n : ℕ) → is_live (job_state n (run k steps).notes) ≡ true → text ≡ handle k n → ⊥)
    × JustQueues c (status_res text false false (codes "0") (codes "0")) (run k steps) after

-- GET_STATUS of a slot that takes units is answered so, and changes nothing.
abbrev pub StatusIsTrue : Type 0
StatusIsTrue = (k : Settings) (steps : List Step) (c number : ℕ) (bytes : List ℕ) (asked : Asked) →
    let after = run k (Packet c number bytes ∷ steps) in
    takes_units c (run k steps).notes ≡ true → request_of number bytes ≡ Ok asked → asked.kind ≡ GetStatus →
    (after.notes ≡ (run k steps).notes) × (TellsOfJob k steps c (first asked.arguments) after ⊎ TellsOfNone k steps c (first asked.arguments) after)
