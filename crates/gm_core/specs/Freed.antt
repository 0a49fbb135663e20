-- The memory that a caller is to free: the body of a job that ended.
use Rattle.std.specs.Prelude.{◌≡◌, ◌⊎◌, ℕ, List, Option, Some, None, IfSome}
use Rattle.std.specs.Option.{option_map}
use Rattle.gm_jobs.specs.Tables.{Table, job}

-- the body of a live job
abbrev pub body_at : ℕ → Table → Option (List ℕ)
body_at n table = option_map (λ live. live.body) (job table n)

-- These bytes were the body of a live job, which isn't live any more.
pub record WasBody (old new : Table) (body : List ℕ) : Type 0 where
  pub number : ℕ
  pub was : body_at number old ≡ Some body
  pub ended : job new number ≡ None

-- Nothing was left to be freed, or the body of a job that ended, if there is anything.
abbrev pub Frees : Table → Table → Option (List ℕ) → Option (List ℕ) → Type 0
Frees old new before after = (after ≡ before) ⊎ IfSome after (WasBody old new)
