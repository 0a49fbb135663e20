-- What the other tables say of the jobs.
use Rattle.std.specs.Prelude.{◌≡◌, ℕ, ◌<◌, ◌≤◌, Bool, true, List, Option, Some}
use Rattle.std.specs.declared.hash.RandomState.{RandomState}
use Rattle.gm_notes.specs.Jobs.{joins}
use Rattle.gm_jobs.specs.Live.{Live, is_named}
use Rattle.gm_jobs.specs.Tables.{Room, find_job}
use Rattle.gm_jobs.specs.Deadlines.{DeadlineTable, IsListed}
use Rattle.gm_jobs.specs.Hints.{HintTable, AllFound}
use Rattle.gm_jobs.specs.Uniques.{IdTable, LeadsTo, digest_of}

-- the other tables, and whether a number is left
pub record Beside : Type 0 where
  pub seed : RandomState
  pub first : ℕ
  pub next : ℕ
  pub left : Bool
  pub uniques : IdTable
  pub index : HintTable
  pub deadlines : DeadlineTable

-- Each table has a live job: its number was given out, its unique id leads to it if it names it, and its deadline is
-- listed.
pub record IsInAllTables (b : Beside) (n : ℕ) (live : Live) : Type 0 where
  pub made : b.first ≤ n
  pub spent : n < b.next
  pub led : joins live.unique ≡ true → LeadsTo b.uniques (digest_of b.seed live.function live.unique) n
  pub listed : IsListed b.deadlines n live

-- If room is reserved, each table has room for one job more.
pub record IsReady (b : Beside) (spare : ℕ) : Type 0 where
  pub job : 0 < spare
  pub id : 0 < b.uniques.room
  pub number : b.left ≡ true

-- The invariant: each live job is in all tables, it is found by each question that it meets, no unique id names two
-- live jobs of one function, and if room is reserved each table has it.
pub record IsKept (b : Beside) (room : Option Room) (spare : ℕ) (jobs : List (ℕ × Live)) : Type 0 where
  pub known : (n : ℕ) (live : Live) → find_job jobs n ≡ Some live → IsInAllTables b n live
  pub found : AllFound jobs b.index
  pub single : (n m : ℕ) (live other : Live) → find_job jobs n ≡ Some live → find_job jobs m ≡ Some other → joins live.unique ≡ true → is_named live.function live.unique other ≡ true → n ≡ m
  pub order : b.first ≤ b.next
  pub ready : (r : Room) → room ≡ Some r → IsReady b spare
