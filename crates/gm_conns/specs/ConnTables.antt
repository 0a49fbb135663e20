-- The table of connections, as its callers see it.
use Rattle.std.specs.Prelude.{◌≡◌, ℕ, ◌<◌, ◌≤◌, ◌==◌, nat_lt, Bool, false, not, ◌&&◌, ◌||◌, if◌then◌else◌, IsTrue}
use Rattle.std.specs.Prelude.{List, [], length, count_by, slice_index_or}
use Rattle.gm_notes.specs.Notes.{is_asleep}
use Rattle.gm_conns.specs.Slots.{has}
use Rattle.gm_conns.specs.Connections.{Connection, closed, is_able}

-- the connections by slot, and the set of the slots that were touched
pub record Table : Type 0 where
  pub conns : List Connection
  pub touched : List ℕ

-- the connection in a slot
abbrev pub in_slot : List Connection → ℕ → Connection
in_slot conns slot = slice_index_or conns slot closed

abbrev pub conn : Table → ℕ → Connection
conn table slot = in_slot table.conns slot

abbrev pub IsOpen : Table → ℕ → Type 0
IsOpen table slot = IsTrue (conn table slot).is_open

abbrev pub is_touched : Table → ℕ → Bool
is_touched table slot = has table.touched slot

-- how many connections can do the function
abbrev pub able_count : Table → ℕ → ℕ
able_count table f = count_by (is_able f) table.conns

-- a connection that sleeps and can do the function
abbrev pub is_sleeper : ℕ → Connection → Bool
is_sleeper f conn = is_asleep conn.phase && is_able f conn

-- The slot has what the change makes of it, and is touched if the change touches its slot; no other slot changes.
pub record Changes (slot : ℕ) (change : Connection → Connection) (touches : Bool) (old new : Table) : Type 0 where
  pub slots : length new.conns ≡ length old.conns
  pub conns : (c : ℕ) → conn new c ≡ (if c == slot then change (conn old c) else conn old c)
  pub touched : (c : ℕ) → is_touched new c ≡ ((touches && (c == slot)) || is_touched old c)

-- the least slot that isn't open
pub record IsLeastFree (slot : ℕ) (table : Table) : Type 0 where
  pub within : slot < length table.conns
  pub free : conn table slot ≡ closed
  pub least : (c : ℕ) → c < slot → IsOpen table c

abbrev pub IsFull : Table → Type 0
IsFull table = (c : ℕ) → c < length table.conns → IsOpen table c

-- Some abilities of the connection are gone, and nothing else changes.
pub record LosesAbilities (slot : ℕ) (old new : Table) : Type 0 where
  pub slots : length new.conns ≡ length old.conns
  pub touched : new.touched ≡ old.touched
  pub here : conn new slot ≡ record (conn old slot) { abilities = (conn new slot).abilities }
  pub others : (c : ℕ) → (c == slot) ≡ false → conn new c ≡ conn old c

-- ---- what is kept in addition to the connections

-- the slots that can do a function, and how many they are
pub record Able : Type 0 where
  pub slots : List ℕ
  pub count : ℕ

abbrev pub able_of : List Able → ℕ → Able
able_of able f = slice_index_or able f (record { slots = []; count = 0 })

-- The rest of the table agrees with the connections.
pub record IsKept (conns : List Connection) (able : List Able) (free asleep : List ℕ) : Type 0 where
  pub few : length conns ≤ 1024
  pub frees : (c : ℕ) → has free c ≡ (nat_lt c (length conns) && not (in_slot conns c).is_open)
  pub sleepers : (c : ℕ) → has asleep c ≡ is_asleep (in_slot conns c).phase
  pub ables : (f c : ℕ) → has (able_of able f).slots c ≡ is_able f (in_slot conns c)
  pub counts : (f : ℕ) → (able_of able f).count ≡ count_by (is_able f) conns
  pub ends : (c : ℕ) → (in_slot conns c).is_open ≡ false → in_slot conns c ≡ closed
