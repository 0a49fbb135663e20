-- Queues of waiting jobs.
use Rattle.std.specs.Prelude.{◌≡◌, ℕ, ◌+◌, ◌-◌, List, [], ◌∷◌, ◌++◌, length, drop, Option, Some, None}

-- the waiting jobs in their order, and for how many jobs room is reserved: for these, and for those that may come
pub record Queue : Type 0 where
  pub jobs : List ℕ
  pub reserved : ℕ

abbrev pub no_jobs : Queue
no_jobs = record { jobs = []; reserved = 0 }

-- for how many jobs room is reserved that no waiting job uses
abbrev pub idle : Queue → ℕ
idle queue = queue.reserved - length queue.jobs

-- the queue with room reserved for one job more, and for one less
abbrev pub with_reserved_one : Queue → Queue
with_reserved_one queue = record queue { reserved = queue.reserved + 1 }

abbrev pub without_reserved_one : Queue → Queue
without_reserved_one queue = record queue { reserved = queue.reserved - 1 }

-- the queue with the job as its last
abbrev pub with_job : ℕ → Queue → Queue
with_job job queue = record queue { jobs = queue.jobs ++ job ∷ [] }

-- the queue without its first job
abbrev pub without_first : Queue → Queue
without_first queue = record queue { jobs = drop 1 queue.jobs }

-- The job left the queue, and its room is no longer reserved; the others keep their order.
pub record Leaves (job : ℕ) (old new : Queue) : Type 0 where
  pub before : List ℕ
  pub after : List ℕ
  pub was : old.jobs ≡ before ++ job ∷ after
  pub left : new.jobs ≡ before ++ after
  pub reserved : new.reserved ≡ old.reserved - 1

-- the jobs in the entries of a ring, where a taken one left nothing
abbrev pub jobs_in : List (Option ℕ) → List ℕ
jobs_in [] = []
jobs_in (None ∷ entries) = jobs_in entries
jobs_in (Some job ∷ entries) = job ∷ jobs_in entries
