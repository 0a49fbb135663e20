-- The lines of a script.
use Rattle.std.specs.Prelude.{ℕ, ◌+◌, ◌*◌, ◌^◌, ◌==◌, not, ◌&&◌, nat_lt, if◌then◌else◌, List, [], ◌∷◌, length, codes, Option, Some, None}
use Rattle.std.specs.Str.{bytes_eq}
use Rattle.std.specs.Char.{digit_value}
use Rattle.gm_packet.specs.Decimals.{decimal_below}
use Rattle.gm_front.specs.Inputs.{Input, Opens, Gives, Closes, Ticks}

-- ---- pieces between separators

-- the byte goes onto the first of the pieces
abbrev pub onto_first : ℕ → List (List ℕ) → List (List ℕ)
onto_first b [] = (b ∷ []) ∷ []
onto_first b (piece ∷ pieces) = (b ∷ piece) ∷ pieces

-- the pieces between the bytes that are this one, empty ones too
abbrev pub cuts : ℕ → List ℕ → List (List ℕ)
cuts at [] = [] ∷ []
cuts at (b ∷ bytes) = if b == at then [] ∷ cuts at bytes else onto_first b (cuts at bytes)

-- the lines of a script, between newlines (10)
abbrev pub lines_of : List ℕ → List (List ℕ)
lines_of script = cuts 10 script

-- the words of a line, between single spaces (32)
abbrev pub words_of : List ℕ → List (List ℕ)
words_of line = cuts 32 line

-- ---- numbers and bytes

-- the slot that a word says: 1 to 10 digits
abbrev pub slot_of : List ℕ → Option ℕ
slot_of word = decimal_below (2 ^ 32) 10 word

-- the moment: 1 to 20 digits
abbrev pub moment_of : List ℕ → Option ℕ
moment_of word = decimal_below (2 ^ 64) 20 word

-- the byte before these bytes, if both are there
abbrev pub before : Option ℕ → Option (List ℕ) → Option (List ℕ)
before None rest = None
before (Some byte) None = None
before (Some byte) (Some rest) = Some (byte ∷ rest)

-- the byte that two hexadecimal digits of either case say, the greater first
abbrev pub hex_byte : ℕ → ℕ → Option ℕ
hex_byte high low =
    if nat_lt (digit_value high) 16 && nat_lt (digit_value low) 16 then Some (16 * digit_value high + digit_value low) else None

-- the bytes that a text of two such digits each says
abbrev pub hex_bytes : List ℕ → Option (List ℕ)
hex_bytes [] = Some []
hex_bytes (high ∷ []) = None
hex_bytes (high ∷ low ∷ rest) = before (hex_byte high low) (hex_bytes rest)

-- one byte or more
abbrev pub piece_of : List ℕ → Option (List ℕ)
piece_of word = if length word == 0 then None else hex_bytes word

-- ---- orders

-- the order in a line
pub data Order : Type 0 where
  Skip : Order  -- nothing at all
  Bad : Order  -- it isn't understood
  Hands : Input → Order  -- this input is handed in

abbrev pub giving : Option ℕ → Option (List ℕ) → Order
giving None piece = Bad
giving (Some slot) None = Bad
giving (Some slot) (Some piece) = Hands (Gives slot piece)

abbrev pub closing : Option ℕ → Order
closing None = Bad
closing (Some slot) = Hands (Closes slot)

abbrev pub ticking : Option ℕ → Order
ticking None = Bad
ticking (Some now) = Hands (Ticks now)

-- two words: `open` and an address, `close` and a slot, or `tick` and a moment
abbrev pub order_of_two : List ℕ → List ℕ → Order
order_of_two verb word =
    if bytes_eq verb (codes "open") && not (length word == 0) then Hands (Opens word)
    else (if bytes_eq verb (codes "close") then closing (slot_of word)
    else (if bytes_eq verb (codes "tick") then ticking (moment_of word) else Bad))

-- three words: `bytes`, a slot and a piece
abbrev pub order_of_three : List ℕ → List ℕ → List ℕ → Order
order_of_three verb slot piece = if bytes_eq verb (codes "bytes") then giving (slot_of slot) (piece_of piece) else Bad

abbrev pub order_of_words : List (List ℕ) → Order
order_of_words [] = Bad
order_of_words (verb ∷ []) = Bad
order_of_words (verb ∷ addr ∷ []) = order_of_two verb addr
order_of_words (verb ∷ slot ∷ piece ∷ []) = order_of_three verb slot piece
order_of_words (verb ∷ second ∷ third ∷ fourth ∷ words) = Bad

-- an empty line, and one that begins with `#` (35), is skipped
abbrev pub order_of : List ℕ → Order
order_of [] = Skip
order_of (b ∷ line) = if b == 35 then Skip else order_of_words (words_of (b ∷ line))
