-- The texts that answer lines.
use Rattle.std.specs.Prelude.{ℕ, ◌||◌, ◌==◌, nat_le, if◌then◌else◌, List, [], ◌∷◌, ◌++◌, length, map, codes, decimal}
use Rattle.std.specs.Prelude.{◌≡◌, ◌+◌, ◌<◌, ◌≤◌, take, vec_len, vec_capacity, Result, OnOk, OnErr}
use Rattle.std.specs.Global.{Vec}
use Rattle.std.specs.declared.alloc.AllocError.{AllocError}
use Rattle.std.specs.List.{flat_map}
use Rattle.gm_admin.specs.declared.answers.TheConstants.{VERSION}
use Rattle.gm_admin.specs.declared.fault.AdminError.{AdminError}
use Rattle.gm_admin.specs.declared.fault.AdminError.TheVariants.{UnknownCommand, MissingName, BadSize, BadFunction, TooManyFunctions}
use Rattle.gm_admin.specs.declared.fault.AdminError.TheVariants.{LineTooLong}

-- a line of `status`: a function, its jobs, those of them that run, and the workers that can do them
pub record StatusLine : Type 0 where
  pub name : List ℕ
  pub total : ℕ
  pub running : ℕ
  pub workers : ℕ

-- a line of `workers`: a slot, the address of its connection, its id and its functions
pub record WorkerLine : Type 0 where
  pub slot : ℕ
  pub addr : List ℕ
  pub id : List ℕ
  pub functions : List (List ℕ)

-- a byte as it is printed: a question mark (63) for one up to space (32) and for DEL (127)
abbrev pub shown_byte : ℕ → ℕ
shown_byte b = if nat_le b 32 || b == 127 then 63 else b

abbrev pub shown : List ℕ → List ℕ
shown text = map shown_byte text

-- the text, or a dash (45) if it is empty
abbrev pub shown_or_dash : List ℕ → List ℕ
shown_or_dash text = if length text == 0 then 45 ∷ [] else shown text

-- FUNCTION, TOTAL, RUNNING and WORKERS with tabs (9) between them, and a newline (10)
abbrev pub status_line : StatusLine → List ℕ
status_line line = shown line.name ++ 9 ∷ decimal line.total ++ 9 ∷ decimal line.running ++ 9 ∷ decimal line.workers ++ 10 ∷ []

-- a dot (46) on a line of its own ends a list
abbrev pub dot : List ℕ
dot = 46 ∷ 10 ∷ []

abbrev pub status_text : List StatusLine → List ℕ
status_text lines = flat_map status_line lines ++ dot

-- SLOT, ADDRESS, ID and a colon (58) with spaces (32) between them, then a space and a name for each function
abbrev pub worker_line : WorkerLine → List ℕ
worker_line line =
    decimal line.slot ++ 32 ∷ shown_or_dash line.addr ++ 32 ∷ shown_or_dash line.id ++ 32 ∷ 58 ∷ flat_map (λ name. 32 ∷ shown name) line.functions ++ 10 ∷ []

abbrev pub workers_text : List WorkerLine → List ℕ
workers_text lines = flat_map worker_line lines ++ dot

abbrev pub ok_text : List ℕ
ok_text = codes "OK" ++ 10 ∷ []

-- `OK` and the version
abbrev pub version_text : List ℕ
version_text = codes "OK " ++ VERSION.now ++ 10 ∷ []

abbrev pub error_code : AdminError → List ℕ
error_code UnknownCommand = codes "unknown_command"
error_code MissingName = codes "missing_name"
error_code BadSize = codes "bad_size"
error_code BadFunction = codes "bad_function"
error_code TooManyFunctions = codes "too_many_functions"
error_code LineTooLong = codes "line_too_long"

abbrev pub error_text : AdminError → List ℕ
error_text error = codes "ERR " ++ error_code error ++ 10 ∷ []

-- The bytes were appended; or there was no room for all of them, and those that were there still come first.
pub record Appends (bytes : List ℕ) (result : Result (Unit {0}) AllocError) (old new : Vec ℕ) : Type 0 where
  pub ok : OnOk result (new.items ≡ old.items ++ bytes)
  pub full : OnErr result (vec_capacity old < vec_len old + length bytes)
  pub kept : take (vec_len old) new.items ≡ old.items
  pub capacity : vec_capacity old ≤ vec_capacity new
