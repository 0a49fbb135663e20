-- Players: a front, and which slots were printed as shut.
use Rattle.std.specs.Prelude.{◌≡◌, ℕ, ◌<◌, Bool, false, List, ◌++◌, length, slice_index_or, Option}
use Rattle.std.specs.Io.KnownBytes.{Appends}
use Rattle.gm_feeder.specs.declared.units.Limits.{Limits}
use Rattle.gm_notes.specs.Settings.{Settings}
use Rattle.gm_notes.specs.Past.{Past}
use Rattle.gm_notes.specs.Steps.{Step}
use Rattle.gm_notes.specs.Steps.{run}
use Rattle.gm_notes.specs.Servers.{is_closing, owes}
use Rattle.gm_front.specs.declared.front.Front.{Front}
use Rattle.gm_front.specs.Inputs.{Reading}
use Rattle.gm_front.specs.Fronts.{IsHeld}
use Rattle.gm_play.specs.Scripts.{Order}
use Rattle.gm_play.specs.Prints.{noop_if, took_if, told_of, drain_of, told, drained, Tells}

-- the list says of each slot what the question says
abbrev pub Told : (ℕ → Bool) → List Bool → Type 0
Told shut told = (c : ℕ) → c < length told → slice_index_or told c false ≡ shut c

-- A front holds the reading, and each slot was said to be shut if it was before.
pub record IsHeldSince {S : Type 0} (agrees : S → Settings → List Step → Type 0)
    (k : Settings) (limits : Limits) (before : Past) (reading : Reading) (front : Front S) (told : List Bool) : Type 0 where
  pub held : IsHeld agrees k limits reading front
  pub count : length told ≡ k.slots
  pub told_so : Told (λ c. is_closing c before) told

-- the same, between two lines
abbrev pub IsReady : {S : Type 0} → (S → Settings → List Step → Type 0) → Settings → Limits → Reading → Front S → List Bool → Type 0
IsReady agrees k limits reading front told = IsHeldSince agrees k limits (run k reading.steps) reading front told

-- The NOOP that slot c is owed is taken, and printed after the rest. If it is owed none, nothing happens.
pub record TakesNoop {S : Type 0} (agrees : S → Settings → List Step → Type 0)
    (k : Settings) (limits : Limits) (reading : Reading) (c : ℕ) (out : List ℕ) (front : Front S) (out' : List ℕ) : Type 0 where
  pub held : IsHeld agrees k limits (record reading { steps = took_if (owes c (run k reading.steps)) c reading.steps }) front
  pub printed : out' ≡ out ++ noop_if (owes c (run k reading.steps))

-- The news of slot c is printed, and the slot is drained.
pub record TellsOne {S : Type 0} (agrees : S → Settings → List Step → Type 0)
    (k : Settings) (limits : Limits) (reading : Reading) (c : ℕ) (shut : Bool) (out : List ℕ) (front : Front S) (shut' : Bool)
    (out' : List ℕ) : Type 0 where
  pub held : IsHeld agrees k limits (record reading { steps = drain_of k c reading.steps }) front
  pub printed : out' ≡ out ++ told_of c shut (run k reading.steps)
  pub told : shut' ≡ is_closing c (run k reading.steps)

-- The same for all slots.
pub record TellsAll {S : Type 0} (agrees : S → Settings → List Step → Type 0)
    (k : Settings) (limits : Limits) (before : Past) (reading : Reading) (out : List ℕ) (front : Front S) (slots : List Bool)
    (out' : List ℕ) : Type 0 where
  pub printed : out' ≡ out ++ told k before 0 k.slots reading.steps
  pub ready : IsReady agrees k limits (record reading { steps = drained k 0 k.slots reading.steps }) front slots

-- A line's order is carried out, and its text is printed after the rest.
pub record Plays {S : Type 0} (agrees : S → Settings → List Step → Type 0)
    (k : Settings) (limits : Limits) (old : Reading) (order : Order) (out : List ℕ) (front : Front S) (told : List Bool)
    (out' : List ℕ) : Type 0 where
  pub text : List ℕ
  pub new : Reading
  pub tells : Tells k limits old order text new
  pub printed : out' ≡ out ++ text
  pub ready : IsReady agrees k limits new front told

-- A line's order is carried out, and its text is written.
pub record Writes {S : Type 0} (agrees : S → Settings → List Step → Type 0)
    (k : Settings) (limits : Limits) (old : Reading) (order : Order) (written : Option (List ℕ)) (front : Front S)
    (told : List Bool) (written' : Option (List ℕ)) : Type 0 where
  pub text : List ℕ
  pub new : Reading
  pub tells : Tells k limits old order text new
  pub printed : Appends written written' text
  pub ready : IsReady agrees k limits new front told
