-- The meaning of the data of a request: first how they are spelled, as a relation; then the walk that finds the
-- arguments; and last the packet that is written for them.
use Rattle.std.specs.Prelude.{◌≡◌, ℕ, ◌^◌, ◌==◌, Bool, false, if◌then◌else◌}
use Rattle.std.specs.Prelude.{List, [], ◌∷◌, ◌++◌, length, decimal, Option, Some, None, Result, Err}
use Rattle.std.proofs.Common.{zero, suc}
use Rattle.std.specs.List.{join_with_byte}
use Rattle.std.specs.Option.{option_map, option_and_then, ok_or}
use Rattle.std.specs.Io.BufRead.{strip_last}
use Rattle.gm_packet.specs.Decimals.{decimal_below}
use Rattle.gm_packet.specs.Packets.{request_magic, packet, has_nul, LackNul}
use Rattle.gm_packet.specs.Kinds.{Shape, Empty, Plain, Opaque, Timed, shape, number, kind_of}
use Rattle.gm_packet.specs.declared.kind.Kind.{Kind}
use Rattle.gm_packet.specs.declared.request.RequestFault.{RequestFault}
use Rattle.gm_packet.specs.declared.request.RequestFault.TheVariants.{UnknownCommand, BadArguments}

-- a request: its arguments but for a timeout, and the timeout in seconds, 0 if it has none
pub record Asked : Type 0 where
  pub kind : Kind
  pub arguments : List (List ℕ)
  pub timeout : ℕ

-- ---- what is spelled how

-- the seconds that a timeout says: 1 to 10 digits, a value below 2 ^ 32
abbrev pub seconds_of : List ℕ → Option ℕ
seconds_of digits = decimal_below (2 ^ 32) 10 digits

-- The data are the arguments with one NUL between each two; if the last may not hold NUL, one NUL
-- more may follow.
abbrev pub Spells : Shape → List (List ℕ) → ℕ → List ℕ → Type 0
Spells Empty arguments timeout bytes = (arguments ≡ []) × (timeout ≡ 0) × (bytes ≡ [])
Spells (Plain n) arguments timeout bytes =
    (length arguments ≡ suc n) × LackNul (suc n) arguments × (timeout ≡ 0) × (strip_last 0 bytes ≡ join_with_byte 0 arguments)
Spells (Opaque n) arguments timeout bytes =
    (length arguments ≡ suc n) × LackNul n arguments × (timeout ≡ 0) × (bytes ≡ join_with_byte 0 arguments)
Spells Timed arguments timeout bytes =
    (length arguments ≡ 1) × LackNul 1 arguments
    × ((digits : List ℕ) × (seconds_of digits ≡ Some timeout) × (strip_last 0 bytes ≡ join_with_byte 0 (arguments ++ digits ∷ [])))

-- data of this packet type ask this
abbrev pub Asks : ℕ → List ℕ → Asked → Type 0
Asks kind bytes asked = (kind ≡ number asked.kind) × Spells (shape asked.kind) asked.arguments asked.timeout bytes

-- a request has this packet type
abbrev pub IsKnown : ℕ → Type 0
IsKnown kind = (known : Kind) × (number known ≡ kind)

-- the data spell a request of this packet type
abbrev pub IsSpelled : ℕ → List ℕ → Type 0
IsSpelled kind bytes = (asked : Asked) × Asks kind bytes asked

-- ---- the walk

-- the bytes before the first NUL, and those after it
abbrev pub cut : List ℕ → Option (List ℕ × List ℕ)
cut [] = None
cut (b ∷ bytes) = if b == 0 then Some ([], bytes) else option_map (λ halves. (b ∷ halves.0, halves.1)) (cut bytes)

-- n arguments, each up to the next NUL, and then all that is left, unless the test refuses it
abbrev pub parts : (List ℕ → Bool) → ℕ → List ℕ → Option (List (List ℕ))
parts refuses zero bytes = if refuses bytes then None else Some (bytes ∷ [])
parts refuses (suc n) bytes =
    option_and_then (λ (halves : List ℕ × List ℕ). option_map (λ later. halves.0 ∷ later) (parts refuses n halves.1)) (cut bytes)

-- of a function and its timeout, the timeout as a number
abbrev pub with_timeout : List (List ℕ) → Option (List (List ℕ) × ℕ)
with_timeout [] = None
with_timeout (function ∷ []) = None
with_timeout (function ∷ digits ∷ []) = option_map (λ seconds. (function ∷ [], seconds)) (seconds_of digits)
with_timeout (function ∷ digits ∷ text ∷ texts) = None

-- the arguments and the timeout that data of this shape spell
abbrev pub arguments_of : Shape → List ℕ → Option (List (List ℕ) × ℕ)
arguments_of Empty [] = Some ([], 0)
arguments_of Empty (b ∷ bytes) = None
arguments_of (Plain n) bytes = option_map (λ texts. (texts, 0)) (parts has_nul n (strip_last 0 bytes))
arguments_of (Opaque n) bytes = option_map (λ texts. (texts, 0)) (parts (λ _. false) n bytes)
arguments_of Timed bytes = option_and_then with_timeout (parts (λ _. false) 1 (strip_last 0 bytes))

-- the request in data of a known kind
abbrev pub read_as : Kind → List ℕ → Option Asked
read_as kind bytes = option_map (λ (found : List (List ℕ) × ℕ). record { kind = kind; arguments = found.0; timeout = found.1 }) (arguments_of (shape kind) bytes)

-- the request in a packet's type and data, or why there is none
abbrev pub read_kind : Option Kind → List ℕ → Result Asked RequestFault
read_kind None bytes = Err UnknownCommand
read_kind (Some kind) bytes = ok_or (read_as kind bytes) BadArguments

abbrev pub request_of : ℕ → List ℕ → Result Asked RequestFault
request_of kind bytes = read_kind (kind_of kind) bytes

-- ---- as it is written

-- all the arguments of a request, a timeout in decimal
abbrev pub texts_by : Shape → List (List ℕ) → ℕ → List (List ℕ)
texts_by Empty arguments timeout = arguments
texts_by (Plain n) arguments timeout = arguments
texts_by (Opaque n) arguments timeout = arguments
texts_by Timed arguments timeout = arguments ++ decimal timeout ∷ []

abbrev pub request_texts : Asked → List (List ℕ)
request_texts asked = texts_by (shape asked.kind) asked.arguments asked.timeout

-- the packet that asks this
abbrev pub request_packet : Asked → List ℕ
request_packet asked = packet request_magic (number asked.kind) (join_with_byte 0 (request_texts asked))
