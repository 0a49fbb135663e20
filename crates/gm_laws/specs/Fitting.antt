-- Which settings a server may have.
use Rattle.std.specs.Prelude.{◌≡◌, ℕ, ◌<◌, ◌≤◌, Bool, true, ◌||◌, ◌==◌, List, length, Some, None}
use Rattle.std.specs.Char.{is_ascii_alphanumeric}
use Rattle.std.specs.List.{list_all}
use Rattle.gm_notes.specs.declared.config.ConfigError.TheVariants.{BadName, BadNumber, BadSlots, BadFunctions}
use Rattle.gm_notes.specs.Settings.{Settings, config_fault}

-- a letter, a digit, a dot (46) or a dash (45)
abbrev pub is_plain : ℕ → Bool
is_plain b = is_ascii_alphanumeric b || b == 46 || b == 45

-- the name in handles is 1 to 40 of these
pub record IsFitName (name : List ℕ) : Type 0 where
  pub some : 0 < length name
  pub few : length name ≤ 40
  pub plain : list_all is_plain name ≡ true

abbrev pub IsFrom1To : ℕ → ℕ → Type 0
IsFrom1To most n = (0 < n) × (n ≤ most)

-- the settings fit: a name, a first job from 1 on, 1 to 1,024 connections and 1 to 65,536 functions
pub record IsFit (k : Settings) : Type 0 where
  pub name : IsFitName k.name
  pub first_job : 0 < k.first_job
  pub slots : IsFrom1To 1024 k.slots
  pub functions : IsFrom1To 65536 k.max_functions

-- there is no fault exactly if they fit, and a fault says what doesn't
pub record SettingsAreChecked : Type 0 where
  pub fit : (k : Settings) → config_fault k ≡ None → IsFit k
  pub none : (k : Settings) → IsFit k → config_fault k ≡ None
  pub bad_name : (k : Settings) → config_fault k ≡ Some BadName → IsFitName k.name → ⊥
  pub bad_number : (k : Settings) → config_fault k ≡ Some BadNumber → k.first_job ≡ 0
  pub bad_slots : (k : Settings) → config_fault k ≡ Some BadSlots → IsFrom1To 1024 k.slots → ⊥
  pub bad_functions : (k : Settings) → config_fault k ≡ Some BadFunctions → IsFrom1To 65536 k.max_functions → ⊥
