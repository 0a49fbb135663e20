-- Changes of one job among all.
use Rattle.std.specs.Prelude.{◌≡◌, ℕ, ◌==◌, ◌⊎◌, Bool, true, false, if◌then◌else◌, List}
use Rattle.std.specs.Option.{option_map}
use Rattle.gm_jobs.specs.declared.job.Change.{Change}
use Rattle.gm_jobs.specs.declared.job.Change.TheVariants.{Assign, GiveBack, Keep, Listen, Leave, Report}
use Rattle.gm_jobs.specs.Live.{Live, AreCarried, assigned, given_back, kept, reported, with_listener, without_listener}
use Rattle.gm_jobs.specs.Tables.{find_job}

abbrev pub changed : Change → Live → Live
changed (Assign slot deadline) live = assigned slot deadline live
changed (GiveBack limit) live = given_back limit live
changed Keep live = kept live
changed (Listen slot) live = with_listener slot live
changed (Leave slot) live = without_listener slot live
changed (Report numerator denominator) live = reported numerator.now denominator.now live

-- packets can carry the report
abbrev pub CanBeTold : Change → Type 0
CanBeTold (Report numerator denominator) = AreCarried numerator.now denominator.now
CanBeTold change = Unit {0}

-- the changes that take memory
abbrev pub takes_memory : Change → Bool
takes_memory (Assign slot deadline) = false
takes_memory (GiveBack limit) = false
takes_memory Keep = false
takes_memory (Listen slot) = true
takes_memory (Leave slot) = false
takes_memory (Report numerator denominator) = true

-- The job, if it is live, is what the change makes of it.
abbrev pub ChangesJob : ℕ → (Live → Live) → List (ℕ × Live) → List (ℕ × Live) → Type 0
ChangesJob n change old new = (m : ℕ) → find_job new m ≡ (if n == m then option_map change (find_job old m) else find_job old m)

-- The slot doesn't listen to any job any more.
abbrev pub LeavesEach : ℕ → List (ℕ × Live) → List (ℕ × Live) → Type 0
LeavesEach slot old new = (n : ℕ) → find_job new n ≡ option_map (without_listener slot) (find_job old n)

-- The slot doesn't listen to some of the jobs any more.
abbrev pub LeavesSome : ℕ → List (ℕ × Live) → List (ℕ × Live) → Type 0
LeavesSome slot old new = (n : ℕ) → (find_job new n ≡ find_job old n) ⊎ (find_job new n ≡ option_map (without_listener slot) (find_job old n))
