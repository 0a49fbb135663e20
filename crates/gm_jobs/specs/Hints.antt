-- Hints: for each question about jobs a list of the numbers of all jobs that meet it, and perhaps of others.
use Rattle.std.specs.Prelude.{◌≡◌, ℕ, Bool, true, false, List, [], Contains, slice_index_or, Option, Some, None, min, if◌then◌else◌}
use Rattle.std.specs.Map.{keys_of}
use Rattle.gm_jobs.specs.declared.job.Query.{Query}
use Rattle.gm_jobs.specs.declared.job.Query.TheVariants.{Orphan, RunBy, HeardBy, Due, Started, Live as Lives}
use Rattle.gm_jobs.specs.Live.{Live}
use Rattle.gm_jobs.specs.Tables.{find_job, passes}
use Rattle.gm_jobs.specs.Queries.{meets}

-- numbers of jobs, and whether none is missing
pub record HintList : Type 0 where
  pub numbers : List ℕ
  pub whole : Bool

abbrev pub missing : HintList
missing = record { numbers = []; whole = false }

-- the number is there, unless some are missing
abbrev pub IsHinted : HintList → ℕ → Type 0
IsHinted hints n = hints.whole ≡ true → Contains hints.numbers n

-- so it is with each job that passes
abbrev pub AllHinted : (Live → Bool) → List (ℕ × Live) → HintList → Type 0
AllHinted test jobs hints = (n : ℕ) → passes test (find_job jobs n) ≡ true → IsHinted hints n

-- No such number is lost.
pub record KeepsHints (Stays : ℕ → Type 0) (old new : HintList) : Type 0 where
  pub whole : new.whole ≡ true → old.whole ≡ true
  pub numbers : (n : ℕ) → Stays n → Contains old.numbers n → Contains new.numbers n

-- the lesser of two numbers, if there are any
abbrev pub least_of : Option ℕ → Option ℕ → Option ℕ
least_of None b = b
least_of (Some a) None = Some a
least_of (Some a) (Some b) = Some (min a b)

-- these numbers, or those of all jobs if some are missing
abbrev pub numbers_in : HintList → List (ℕ × Live) → List ℕ
numbers_in hints jobs = if hints.whole then hints.numbers else keys_of jobs

-- ---- for each question

-- for each slot the jobs to which it listens and those that run there, and the jobs that nobody wants
pub record HintTable : Type 0 where
  pub heard : List HintList
  pub runs : List HintList
  pub orphans : HintList

abbrev pub at_slot : List HintList → ℕ → HintList
at_slot lists slot = slice_index_or lists slot missing

-- where the jobs that are asked for are hinted at
abbrev pub hints_of : HintTable → Query → HintList
hints_of table Orphan = table.orphans
hints_of table (RunBy slot) = at_slot table.runs slot
hints_of table (HeardBy slot) = at_slot table.heard slot
hints_of table (Due now) = missing
hints_of table Started = missing
hints_of table Lives = missing

-- each job is found by each question that it meets
abbrev pub AllFound : List (ℕ × Live) → HintTable → Type 0
AllFound jobs table = (q : Query) → AllHinted (meets q) jobs (hints_of table q)
