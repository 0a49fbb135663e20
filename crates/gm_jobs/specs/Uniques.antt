-- To which jobs unique ids lead.
use Rattle.std.specs.Prelude.{◌≡◌, ℕ, ◌⊎◌, nat_eq, List, Contains, Some}
use Rattle.std.specs.List.{fold}
use Rattle.std.specs.Map.{lookup}
use Rattle.std.specs.Hash as fed
use Rattle.std.specs.Hash.DefaultHasher.{write, finish}
use Rattle.std.specs.RandomState.{initial_hasher}
use Rattle.std.specs.declared.hash.RandomState.{RandomState}

-- the hash of a function and a unique id
abbrev pub digest_of : RandomState → ℕ → List ℕ → ℕ
digest_of seed f unique = finish (write (fold write (initial_hasher seed) (fed.u64 f)) unique)

-- for each digest the number of a job; the numbers of jobs whose digest another job had; and for how many more there
-- is room
pub record IdTable : Type 0 where
  pub numbers : List (ℕ × ℕ)
  pub clashes : List ℕ
  pub room : ℕ

-- The number is looked at when a job of this digest is looked for.
abbrev pub LeadsTo : IdTable → ℕ → ℕ → Type 0
LeadsTo ids digest n = (lookup (nat_eq digest) ids.numbers ≡ Some n) ⊎ Contains ids.clashes n
