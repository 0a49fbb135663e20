-- Units, and the spelling of a stream of units, on whole lists of bytes.
use Rattle.std.specs.Prelude.{◌≡◌, ◌≢◌, ℕ, ◌^◌, ◌<◌, ◌≤◌, List, [], ◌∷◌, ◌++◌, length, take}
use Rattle.std.specs.List.{All}
use Rattle.std.specs.Io.BufRead.{strip_last}
use Rattle.gm_packet.specs.Packets.{request_magic, packet}
use Rattle.gm_feeder.specs.declared.units.Limits.{Limits}
use Rattle.gm_feeder.specs.declared.units.FeedFault.{FeedFault}
use Rattle.gm_feeder.specs.declared.units.FeedFault.TheVariants.{BadMagic, PacketTooLarge, LineTooLong, Memory}

-- the number of a fault
abbrev pub fault_number : FeedFault → ℕ
fault_number BadMagic = 3
fault_number PacketTooLarge = 4
fault_number LineTooLong = 5
fault_number Memory = 6

-- the contents of a unit: of a packet its type and its data, of a line its text
pub data Item : Type 0 where
  APacket : ℕ → List ℕ → Item
  ALine : List ℕ → Item

-- the bytes begin with NUL, as packets do
abbrev pub BeginsWithNul : List ℕ → Type 0
BeginsWithNul bytes = (after : List ℕ) × (bytes ≡ 0 ∷ after)

-- these bytes are a packet to the server with this type and these data, within the limits
pub record IsPacket (limits : Limits) (whole : List ℕ) (kind : ℕ) (bytes : List ℕ) : Type 0 where
  pub spelled : whole ≡ packet request_magic kind bytes
  pub kind_fits : kind < 2 ^ 32
  pub size_fits : length bytes < 2 ^ 32
  pub within_limit : length bytes ≤ limits.max_bytes

-- the bytes before a newline, without the one `\r` (13) that may be the last of them
abbrev pub without_return : List ℕ → List ℕ
without_return before = strip_last 13 before

-- these bytes are a text line that says this, within the limits: the bytes before a newline (10), and the newline
pub record IsLine (limits : Limits) (whole : List ℕ) (bytes : List ℕ) : Type 0 where
  pub before : List ℕ
  pub spelled : whole ≡ before ++ 10 ∷ []
  pub one_line : All (λ b. b ≢ 10) before
  pub no_packet : BeginsWithNul whole → ⊥
  pub within_limit : length before ≤ limits.max_line
  pub said : bytes ≡ without_return before

-- these bytes are a unit that says this
abbrev pub IsUnit : Limits → List ℕ → Item → Type 0
IsUnit limits whole (APacket kind bytes) = IsPacket limits whole kind bytes
IsUnit limits whole (ALine bytes) = IsLine limits whole bytes

-- the bytes are a unit and what comes after it
pub record IsUnitThen (limits : Limits) (bytes : List ℕ) (item : Item) (after : List ℕ) : Type 0 where
  pub whole : List ℕ
  pub unit : IsUnit limits whole item
  pub joined : bytes ≡ whole ++ after

-- the bytes begin with no unit
abbrev pub BeginsNoUnit : Limits → List ℕ → Type 0
BeginsNoUnit limits bytes = (item : Item) (after : List ℕ) → IsUnitThen limits bytes item after → ⊥

-- the stream is units that say this, one after another, and then a rest that begins with no unit
abbrev pub Spells : Limits → List ℕ → List Item → List ℕ → Type 0
Spells limits stream [] rest = (stream ≡ rest) × BeginsNoUnit limits rest
Spells limits stream (item ∷ items) rest = (after : List ℕ) × IsUnitThen limits stream item after × Spells limits after items rest

-- with some bytes that could follow, the rest begins with a unit
abbrev pub CanGoOn : Limits → List ℕ → Type 0
CanGoOn limits rest = (more : List ℕ) × (item : Item) × (after : List ℕ) × IsUnitThen limits (rest ++ more) item after

-- with no bytes that could follow does it
abbrev pub IsHopeless : Limits → List ℕ → Type 0
IsHopeless limits rest = (more : List ℕ) → BeginsNoUnit limits (rest ++ more)

-- as many of the first four bytes as are there are those of the magic
abbrev pub AgreesWithMagic : List ℕ → Type 0
AgreesWithMagic rest = take 4 rest ≡ take (length rest) request_magic

-- a rest that begins with NUL and begins no packet
pub record IsHopelessPacket (limits : Limits) (rest : List ℕ) : Type 0 where
  pub nul : BeginsWithNul rest
  pub hopeless : IsHopeless limits rest

-- a rest that begins with another byte and begins no line
pub record IsHopelessLine (limits : Limits) (rest : List ℕ) : Type 0 where
  pub no_nul : BeginsWithNul rest → ⊥
  pub hopeless : IsHopeless limits rest

-- the rest has this fault
abbrev pub IsFaultOf : Limits → List ℕ → FeedFault → Type 0
IsFaultOf limits rest BadMagic = IsHopelessPacket limits rest × (AgreesWithMagic rest → ⊥)
IsFaultOf limits rest PacketTooLarge = IsHopelessPacket limits rest × AgreesWithMagic rest
IsFaultOf limits rest LineTooLong = IsHopelessLine limits rest
IsFaultOf limits rest Memory = ⊥

-- More bytes are needed: there is no unit yet, and some bytes that could follow make one.
pub record Waits (limits : Limits) (rest : List ℕ) : Type 0 where
  pub no_unit : BeginsNoUnit limits rest
  pub goes_on : CanGoOn limits rest
