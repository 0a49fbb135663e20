-- The command of a line: a definition over the list of its words.
use Rattle.std.specs.Prelude.{ℕ, ◌^◌, Bool, true, false, ◌||◌, ◌==◌, if◌then◌else◌, List, [], ◌∷◌, map, codes}
use Rattle.std.specs.Prelude.{Option, Some, None, Result, Ok, Err}
use Rattle.std.specs.Char.{to_ascii_lowercase}
use Rattle.std.specs.Str.{bytes_eq}
use Rattle.gm_packet.specs.Decimals.{decimal_below}
use Rattle.gm_admin.specs.declared.fault.AdminFault.{AdminFault}
use Rattle.gm_admin.specs.declared.fault.AdminFault.TheVariants.{UnknownCommand, MissingName, BadSize}

-- the command of a line, wherever its bytes lie; a size of 0 is no limit
pub data Commanded : Type 0 where
  Status : Commanded
  Workers : Commanded
  MaxQueue : List ℕ → ℕ → Commanded
  Version : Commanded
  Shutdown : Bool → Commanded

-- ---- words

-- a space (32) or a tab (9)
abbrev pub is_gap : ℕ → Bool
is_gap b = b == 32 || b == 9

-- the words, with b at the head of the first
abbrev pub with_head : ℕ → List (List ℕ) → List (List ℕ)
with_head b [] = (b ∷ []) ∷ []
with_head b (word ∷ words) = (b ∷ word) ∷ words

-- b before these bytes, whose words are these: it is a word of its own if a gap or the end follows
abbrev pub words_with : ℕ → List ℕ → List (List ℕ) → List (List ℕ)
words_with b [] words = (b ∷ []) ∷ words
words_with b (next ∷ bytes) words = if is_gap next then (b ∷ []) ∷ words else with_head b words

-- the longest runs of bytes that are no gaps
abbrev pub words_of : List ℕ → List (List ℕ)
words_of [] = []
words_of (b ∷ bytes) = if is_gap b then words_of bytes else words_with b bytes (words_of bytes)

-- whether a word is this one, in any case of its ASCII letters; the second is in lower case
abbrev pub is_word : List ℕ → List ℕ → Bool
is_word word known = bytes_eq (map to_ascii_lowercase word) known

-- ---- sizes

-- no limit, if the digits after a minus (45) are a number
abbrev pub negative : Option ℕ → Option ℕ
negative None = None
negative (Some n) = Some 0

-- the size that a word says: 1 to 10 decimal digits with a value below 2 ^ 32, or such digits after a minus
abbrev pub size_of : List ℕ → Option ℕ
size_of [] = None
size_of (b ∷ bytes) = if b == 45 then negative (decimal_below (2 ^ 32) 10 bytes) else decimal_below (2 ^ 32) 10 (b ∷ bytes)

-- ---- commands

abbrev pub sized : List ℕ → Option ℕ → Result Commanded AdminFault
sized function None = Err BadSize
sized function (Some size) = Ok (MaxQueue function size)

abbrev pub maxqueue_of : List (List ℕ) → Result Commanded AdminFault
maxqueue_of [] = Err MissingName
maxqueue_of (function ∷ []) = Ok (MaxQueue function 0)
maxqueue_of (function ∷ size ∷ []) = sized function (size_of size)
maxqueue_of (function ∷ size ∷ other ∷ words) = Err BadSize

abbrev pub shutdown_of : List (List ℕ) → Result Commanded AdminFault
shutdown_of [] = Ok (Shutdown false)
shutdown_of (word ∷ []) = if is_word word (codes "graceful") then Ok (Shutdown true) else Err UnknownCommand
shutdown_of (word ∷ other ∷ words) = Err UnknownCommand

abbrev pub command_of_words : List (List ℕ) → Result Commanded AdminFault
command_of_words [] = Err UnknownCommand
command_of_words (word ∷ words) =
    if is_word word (codes "status") then Ok Status
    else (if is_word word (codes "workers") then Ok Workers
    else (if is_word word (codes "maxqueue") then maxqueue_of words
    else (if is_word word (codes "version") then Ok Version
    else (if is_word word (codes "shutdown") then shutdown_of words
    else Err UnknownCommand))))

-- the command of a line, or why it commands nothing
abbrev pub command_of : List ℕ → Result Commanded AdminFault
command_of line = command_of_words (words_of line)
