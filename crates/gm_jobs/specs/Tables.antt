-- The table of jobs, as its callers see it.
use Rattle.std.specs.Prelude.{◌≡◌, ℕ, ◌+◌, ◌<◌, ◌≤◌, Bool, true, false, ◌&&◌, ◌==◌, nat_le, nat_lt, if◌then◌else◌, List, []}
use Rattle.std.specs.Prelude.{nat_eq, Option, Some, None, IsSomeAnd}
use Rattle.std.specs.Option.{option_map, option_map_or}
use Rattle.std.specs.Map.{lookup}
use Rattle.std.specs.declared.hash.RandomState.{RandomState}
use Rattle.gm_notes.specs.declared.states.Place.{Place}
use Rattle.gm_notes.specs.declared.states.Place.TheVariants.{Unmade, Gone}
use Rattle.gm_notes.specs.Jobs.{joins}
use Rattle.gm_jobs.specs.declared.jobs.Back.{Back}
use Rattle.gm_jobs.specs.declared.jobs.Back.TheVariants as backs
use Rattle.gm_jobs.specs.declared.uniques.Vacancy.{Vacancy}
use Rattle.gm_jobs.specs.Live.{Live, place_at, is_named, without_listener}
use Rattle.gm_jobs.specs.Uniques.{digest_of}

-- room for one job more: of this function, with texts of these lengths at most
pub record Room : Type 0 where
  pub function : ℕ
  pub unique_len : ℕ
  pub body_len : ℕ

-- The seed with which it hashes; the number of the first job, and of the next one, which is 2 ^ 64 once all are spent;
-- the room that is reserved; and the live jobs, each with its number.
pub record Table : Type 0 where
  pub seed : RandomState
  pub first : ℕ
  pub next : ℕ
  pub room : Option Room
  pub live : List (ℕ × Live)

abbrev pub no_jobs : RandomState → ℕ → Table
no_jobs seed first = record { seed = seed; first = first; next = first; room = None; live = [] }

-- the live job of a number
abbrev pub find_job : List (ℕ × Live) → ℕ → Option Live
find_job live n = lookup (nat_eq n) live

abbrev pub job : Table → ℕ → Option Live
job table n = find_job table.live n

-- a job's listeners; none, if it isn't live
abbrev pub listeners_of : Option Live → List ℕ
listeners_of None = []
listeners_of (Some live) = live.listeners

-- the job is live and passes
abbrev pub passes : (Live → Bool) → Option Live → Bool
passes test found = option_map_or test found false

-- the outcome for a job that is given back, by whether that was its last try
abbrev pub back_of : Bool → Back
back_of true = backs.Lost
back_of false = backs.Returned

abbrev pub is_made : Table → ℕ → Bool
is_made table n = nat_le table.first n && nat_lt n table.next

abbrev pub place_or : Option Live → Bool → Place
place_or (Some live) made = place_at live.live_place
place_or None true = Gone
place_or None false = Unmade

abbrev pub place : Table → ℕ → Place
place table n = place_or (job table n) (is_made table n)

-- the unique id names a job, and it is this one
pub record IsNamed (f : ℕ) (unique : List ℕ) (table : Table) (n : ℕ) : Type 0 where
  pub joins : joins unique ≡ true
  pub named : passes (is_named f unique) (job table n) ≡ true

-- No live job has this name, and the vacancy has its digest.
pub record IsVacant (f : ℕ) (unique : List ℕ) (table : Table) (vacancy : Vacancy) : Type 0 where
  pub digest : joins unique ≡ true → vacancy.digest ≡ digest_of table.seed f unique
  pub none : (n : ℕ) → IsNamed f unique table n → ⊥

-- There is room for a job of this function, with texts of these lengths.
pub record IsRoomFor (f unique_len body_len : ℕ) (room : Room) : Type 0 where
  pub function : room.function ≡ f
  pub unique : unique_len ≤ room.unique_len
  pub body : body_len ≤ room.body_len

abbrev pub HasRoom : ℕ → ℕ → ℕ → Table → Type 0
HasRoom f unique_len body_len table = IsSomeAnd table.room (IsRoomFor f unique_len body_len)

-- This is the room now, and nothing else changed.
abbrev pub with_room : ℕ → ℕ → ℕ → Table → Table
with_room f unique_len body_len table = record table { room = Some (record { function = f; unique_len = unique_len; body_len = body_len }) }

-- The next job was made, which uses up the room; no other job changed.
pub record Makes (made : Live) (old new : Table) : Type 0 where
  pub seed : new.seed ≡ old.seed
  pub first : new.first ≡ old.first
  pub next : new.next ≡ old.next + 1
  pub room : new.room ≡ None
  pub jobs : (m : ℕ) → job new m ≡ (if old.next == m then Some made else job old m)

-- The job, if it is live, is what the change makes of it, and nothing else changed.
pub record Changes (n : ℕ) (change : Live → Live) (old new : Table) : Type 0 where
  pub seed : new.seed ≡ old.seed
  pub first : new.first ≡ old.first
  pub next : new.next ≡ old.next
  pub room : new.room ≡ old.room
  pub jobs : (m : ℕ) → job new m ≡ (if n == m then option_map change (job old m) else job old m)

-- The job isn't live any more, and nothing else changed.
pub record Ends (n : ℕ) (old new : Table) : Type 0 where
  pub seed : new.seed ≡ old.seed
  pub first : new.first ≡ old.first
  pub next : new.next ≡ old.next
  pub room : new.room ≡ old.room
  pub jobs : (m : ℕ) → job new m ≡ (if n == m then None else job old m)

-- The slot listens to no job any more, and nothing else changed.
pub record Leaves (slot : ℕ) (old new : Table) : Type 0 where
  pub seed : new.seed ≡ old.seed
  pub first : new.first ≡ old.first
  pub next : new.next ≡ old.next
  pub room : new.room ≡ old.room
  pub jobs : (m : ℕ) → job new m ≡ option_map (without_listener slot) (job old m)

-- the least number above `after` of a live job that passes
pub record IsNext (test : Live → Bool) (after : ℕ) (live : List (ℕ × Live)) (n : ℕ) : Type 0 where
  pub above : after < n
  pub found : passes test (find_job live n) ≡ true
  pub least : (m : ℕ) → after < m → m < n → passes test (find_job live m) ≡ false

-- no live job above `after` passes
abbrev pub IsLast : (Live → Bool) → ℕ → List (ℕ × Live) → Type 0
IsLast test after live = (m : ℕ) → after < m → passes test (find_job live m) ≡ false
