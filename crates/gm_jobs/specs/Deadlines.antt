-- The table of the moments at which running jobs are due.
use Rattle.std.specs.Prelude.{◌≡◌, ℕ, ◌<◌, ◌⊎◌, true, false, List, Contains, Some}
use Rattle.gm_jobs.specs.Live.{Live, waits}
use Rattle.gm_jobs.specs.Tables.{find_job}
use Rattle.gm_jobs.specs.MinHeap.{Pair, Has}
use Rattle.gm_jobs.specs.Hints.{HintList}

-- deadlines with numbers, and the numbers of jobs whose deadlines were reached, unless some are missing
pub record DeadlineTable : Type 0 where
  pub waiting : List Pair
  pub reached : HintList

-- if the job runs until a deadline, that is here or the job is there, unless some are missing
abbrev pub IsListed : DeadlineTable → ℕ → Live → Type 0
IsListed deadlines n live = deadlines.reached.whole ≡ true → (d : ℕ) → waits live.live_place ≡ false → live.deadline ≡ Some d → Has deadlines.waiting d n ⊎ Contains deadlines.reached.numbers n

-- so it is of each live job
abbrev pub AllListed : List (ℕ × Live) → DeadlineTable → Type 0
AllListed jobs deadlines = (n : ℕ) (live : Live) → find_job jobs n ≡ Some live → IsListed deadlines n live

abbrev pub listing : List Pair → HintList → DeadlineTable
listing waiting reached = record { waiting = waiting; reached = reached }

-- each deadline that isn't among the reached is later than this moment
abbrev pub AllLater : ℕ → List Pair → Type 0
AllLater now waiting = (d n : ℕ) → Has waiting d n → now < d
