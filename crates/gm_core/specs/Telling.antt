-- Packets that are queued to several connections at once.
use Rattle.std.specs.Prelude.{◌≡◌, ℕ, ◌+◌, ◌≤◌, Bool, not, ◌&&◌, ◌||◌, ◌==◌, if◌then◌else◌, List, [], ◌∷◌, ◌++◌, length, false}
use Rattle.std.specs.Prelude.{Option, Some, None}
use Rattle.gm_notes.specs.declared.note.Note.{Note}
use Rattle.gm_notes.specs.Jobs.{job_state}
use Rattle.gm_notes.specs.JobStates.{is_running_at}
use Rattle.gm_jobs.specs.Live.{Live, waits}
use Rattle.gm_conns.specs.ConnTables.{Table, conn, is_touched}
use Rattle.gm_core.specs.Holds.{AllTouched}

-- whether slot c gets it: it is open, and has the exceptions option if that is needed
abbrev pub hears : Table → Bool → ℕ → Bool
hears table exceptions_only c = (conn table c).is_open && (not exceptions_only || (conn table c).has_option)

-- the bytes that wait, after this text came for each of these slots, once for each time that it is in the list
abbrev pub poured : List ℕ → List ℕ → (ℕ → List ℕ) → ℕ → List ℕ
poured text [] bytes = bytes
poured text (c ∷ slots) bytes = poured text slots (λ d. if d == c then bytes d ++ text else bytes d)

-- this count of bytes for each time that slot c is listed
abbrev pub needed : ℕ → ℕ → List ℕ → ℕ
needed count c [] = 0
needed count c (d ∷ slots) = if d == c then count + needed count c slots else needed count c slots

-- only room was reserved
pub record Roomed (old new : Table) : Type 0 where
  pub slots : length new.conns ≡ length old.conns
  pub conns : (c : ℕ) → conn new c ≡ record (conn old c) { room = (conn new c).room }
  pub more : (c : ℕ) → (conn old c).room ≤ (conn new c).room
  pub touched : (c : ℕ) → is_touched new c ≡ is_touched old c

-- this count of bytes came for each of these slots, once for each time that it is listed, into room that was reserved
pub record Poured (count : ℕ) (slots : List ℕ) (old new : Table) : Type 0 where
  pub hear : (exceptions_only : Bool) (c : ℕ) → hears new exceptions_only c ≡ hears old exceptions_only c
  pub room : (c : ℕ) → (conn old c).room ≤ (conn new c).room + needed count c slots
  pub touched : AllTouched old new

-- the job, if it runs at slot c
abbrev pub running_there : ℕ → Option ℕ → List Note → Option ℕ
running_there c None notes = None
running_there c (Some n) notes = if is_running_at c (job_state n notes) then Some n else None

-- a live job that runs
abbrev pub IsRunning : Option Live → Type 0
IsRunning None = ⊥
IsRunning (Some live) = waits live.live_place ≡ false
