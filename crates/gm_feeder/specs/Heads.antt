-- The beginning of the pending bytes.
use Rattle.std.specs.Prelude.{◌≢◌, ℕ, ◌+◌, ◌<◌, ◌≤◌, List, ◌++◌, length, take, drop, replicate, slice_index}
use Rattle.std.specs.Io.BufRead.{strip_last}
use Rattle.gm_packet.specs.Packets.{request_magic}
use Rattle.gm_feeder.specs.declared.units.Limits.{Limits}
use Rattle.gm_feeder.specs.declared.head.Head.{Head}
use Rattle.gm_feeder.specs.declared.head.Head.TheVariants.{Packet, Line, Fault, Incomplete}
use Rattle.gm_feeder.specs.Units.{APacket, ALine, IsUnit, IsFaultOf, Waits, without_return}

-- the header of a packet with type 0 and no data
abbrev pub empty_header : List ℕ
empty_header = request_magic ++ replicate 8 0

-- the first twelve bytes, where those that are still to come are taken from the header of an empty packet
abbrev pub filled_header : List ℕ → List ℕ
filled_header bytes = take 12 bytes ++ drop (length bytes) empty_header

-- the data of a whole packet
abbrev pub data_of : List ℕ → List ℕ
data_of packet = drop 12 packet

-- the text of a whole line
abbrev pub text_of : List ℕ → List ℕ
text_of line = without_return (strip_last 10 line)

-- the first `scanned` bytes were searched: none is a newline, and they are no more than a line may have
pub record IsScanned (limits : Limits) (bytes : List ℕ) (scanned : ℕ) : Type 0 where
  pub within : scanned ≤ length bytes
  pub within_limit : scanned ≤ limits.max_line
  pub no_newline : (k : ℕ) → k < scanned → slice_index bytes k ≢ 10

-- the bytes begin with what was found
abbrev pub IsHead : Limits → List ℕ → Head → Type 0
IsHead limits bytes (Packet kind size) =
    (12 + size ≤ length bytes) × IsUnit limits (take (12 + size) bytes) (APacket kind (data_of (take (12 + size) bytes)))
IsHead limits bytes (Line len) =
    (len < length bytes) × IsUnit limits (take (len + 1) bytes) (ALine (text_of (take (len + 1) bytes)))
IsHead limits bytes (Fault fault) = IsFaultOf limits bytes fault
IsHead limits bytes (Incomplete scanned) = Waits limits bytes × IsScanned limits bytes scanned
