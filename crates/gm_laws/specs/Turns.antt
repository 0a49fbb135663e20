-- With round-robin on, the functions of a worker take turns.
use Rattle.std.specs.Prelude.{◌≡◌, ◌⊎◌, ℕ, true, false, List, [], ◌∷◌, ◌++◌, Some}
use Rattle.std.specs.List.{All}
use Rattle.std.specs.Str.{bytes_eq}
use Rattle.gm_notes.specs.Settings.{Settings}
use Rattle.gm_notes.specs.Notes.{is_open}
use Rattle.gm_notes.specs.Jobs.{Job, job_state, job, is_job_of, abilities, is_able, waiting_for, is_empty}
use Rattle.gm_notes.specs.JobStates as states
use Rattle.gm_notes.specs.Steps.{Step, run}
use Rattle.gm_laws.specs.Firsts.{HasNoneWaiting, HasNoneWaitingOf, functions_of}
use Rattle.gm_laws.specs.Laws.{IsAmong}

-- ---- what a step does after earlier ones

-- it gives slot c a job of function f: one that waited before the step runs at the slot after it
abbrev pub Gives : Settings → ℕ → List ℕ → List Step → Step → Type 0
Gives k c f earlier s =
    (n : ℕ) × (is_job_of f (job n (run k earlier).notes) ≡ true)
    × (job_state n (run k earlier).notes ≡ states.Waiting) × (job_state n (run k (s ∷ earlier)).notes ≡ states.Running c)

-- if it gives slot c a job, then a job of function h waits before it
abbrev pub FindsWaiting : Settings → ℕ → List ℕ → List Step → Step → Type 0
FindsWaiting k c h earlier s = (g : List ℕ) → Gives k c g earlier s → is_empty (waiting_for h (run k earlier).notes) ≡ false

-- it leaves the abilities of slot c as they were; a closing takes them all
abbrev pub LeavesAbilities : Settings → ℕ → List Step → Step → Type 0
LeavesAbilities k c earlier s = abilities c (run k (s ∷ earlier)).notes ≡ abilities c (run k earlier).notes

-- ---- what newer steps do after earlier ones, the newest first

-- P holds of each of them
abbrev pub Each : (List Step → Step → Type 0) → List Step → List Step → Type 0
Each P [] earlier = Unit {0}
Each P (s ∷ newer) earlier = P (newer ++ earlier) s × Each P newer earlier

-- P holds of one of them
abbrev pub One : (List Step → Step → Type 0) → List Step → List Step → Type 0
One P [] earlier = ⊥
One P (s ∷ newer) earlier = P (newer ++ earlier) s ⊎ One P newer earlier

-- between two steps that give slot c a job of function f, one of the steps gives it a job of h, another of its
-- functions: if its abilities stay as they are, and a job of h waits each time that it is given a job; with as_gearmand
-- priorities go before turns
abbrev pub TurnsAreFair : Type 0
TurnsAreFair = (k : Settings) (c : ℕ) (f h : List ℕ) (before between : List Step) (first again : Step) →
    let start = first ∷ before in
    k.round_robin ≡ true → k.as_gearmand ≡ false →
    bytes_eq f h ≡ false → is_able c h (run k start).notes ≡ true →
    Gives k c f before first → Gives k c f (between ++ start) again →
    Each (LeavesAbilities k c) between start →
    Each (FindsWaiting k c h) (again ∷ between) start →
    One (Gives k c h) between start

-- ---- in which order

-- the step opens slot c
abbrev pub Opens : Settings → ℕ → List Step → Step → Type 0
Opens k c earlier s = (is_open c (run k earlier).notes ≡ false) × (is_open c (run k (s ∷ earlier)).notes ≡ true)

-- of the jobs that slot c was given since it was opened the last is of function f
abbrev pub WasGivenLast : Settings → ℕ → List Step → List ℕ → Type 0
WasGivenLast k c [] f = ⊥
WasGivenLast k c (s ∷ earlier) f =
    Gives k c f earlier s ⊎ (((g : List ℕ) → Gives k c g earlier s → ⊥) × (Opens k c earlier s → ⊥) × WasGivenLast k c earlier f)

-- the functions of slot c, each in its turn: those after the function of the job that it was given last, then those
-- before it, and then it; or all as they were added, if it can't do that function, or was given no job
abbrev pub AreInTurn : Settings → ℕ → List Step → List (List ℕ) → Type 0
AreInTurn k c steps turns =
    ((g : List ℕ) × (before after : List (List ℕ))
    × WasGivenLast k c steps g × (functions_of c (run k steps).notes ≡ before ++ g ∷ after) × (turns ≡ after ++ (before ++ g ∷ [])))
    ⊎ (((g : List ℕ) → WasGivenLast k c steps g → IsAmong g (functions_of c (run k steps).notes) → ⊥) × (turns ≡ functions_of c (run k steps).notes))

-- with round-robin the job that a slot is given is of the first function, in turn, for which one waits, and with
-- as_gearmand of the first for which one of its priority waits
abbrev pub TurnsGoRound : Type 0
TurnsGoRound = (k : Settings) (c n : ℕ) (what : Job) (steps : List Step) (s : Step) → k.round_robin ≡ true →
    job_state n (run k steps).notes ≡ states.Waiting → job_state n (run k (s ∷ steps)).notes ≡ states.Running c → job n (run k steps).notes ≡ Some what →
    (earlier later : List (List ℕ)) × AreInTurn k c steps (earlier ++ what.function ∷ later)
    × (k.as_gearmand ≡ false → All (HasNoneWaiting (run k steps).notes) earlier)
    × (k.as_gearmand ≡ true → All (HasNoneWaitingOf what.priority (run k steps).notes) earlier)
