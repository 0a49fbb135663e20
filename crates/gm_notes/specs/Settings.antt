-- The settings of a server, and what can be wrong with them.
use Rattle.std.specs.Prelude.{ℕ, Bool, ◌||◌, ◌&&◌, not, ◌==◌, nat_le, if◌then◌else◌, List, length, Option, Some, None}
use Rattle.std.specs.Char.{is_ascii_alphanumeric}
use Rattle.std.specs.List.{list_all}
use Rattle.gm_notes.specs.declared.config.ConfigError.{ConfigError}
use Rattle.gm_notes.specs.declared.config.ConfigError.TheVariants.{BadName, BadNumber, BadSlots, BadFunctions}

-- the name in job handles, the first job's number, the most connections and functions at once, whether a worker's
-- functions take turns, to how many workers a job may be given, 0 is no limit, and whether requests mean what
-- gearmand's applications mean by them
pub record Settings : Type 0 where
  pub name : List ℕ
  pub first_job : ℕ
  pub slots : ℕ
  pub max_functions : ℕ
  pub round_robin : Bool
  pub retries : ℕ
  pub as_gearmand : Bool

-- a letter, a digit, a dot (46) or a dash (45)
abbrev pub is_name_byte : ℕ → Bool
is_name_byte b = is_ascii_alphanumeric b || b == 46 || b == 45

-- 1 to 40 of these
abbrev pub is_name : List ℕ → Bool
is_name name = not (length name == 0) && nat_le (length name) 40 && list_all is_name_byte name

-- a number from 1 to the most
abbrev pub is_within : ℕ → ℕ → Bool
is_within most n = not (n == 0) && nat_le n most

-- the first thing that is wrong
abbrev pub config_fault : Settings → Option ConfigError
config_fault k =
    if not (is_name k.name) then Some BadName
    else (if k.first_job == 0 then Some BadNumber
    else (if not (is_within 1024 k.slots) then Some BadSlots
    else (if not (is_within 65536 k.max_functions) then Some BadFunctions
    else None)))

abbrev pub config_error_number : ConfigError → ℕ
config_error_number BadName = 17
config_error_number BadNumber = 18
config_error_number BadSlots = 19
config_error_number BadFunctions = 20
