-- What the bytes of a unit are.
use Rattle.std.proofs.Common.{◌≡◌, ℕ, ◌^◌, ◌<◌, List, [], ◌∷◌, ◌++◌, length, take, drop, refl, ap, ◌∙◌, arith, append_assoc}
use Rattle.std.specs.Int.{w32, to_be_bytes}
use Rattle.gm_packet.specs.Packets.{request_magic, packet}
use Rattle.gm_packet.proofs.Packets.{same_number}
use Rattle.gm_feeder.specs.declared.units.Limits.{Limits}
use Rattle.gm_feeder.specs.Units.{APacket, IsUnitThen, BeginsWithNul}

-- a header with this type and size
abbrev pub header : ℕ → ℕ → List ℕ
header kind size = request_magic ++ to_be_bytes w32 kind ++ to_be_bytes w32 size

-- a packet is a header, then the data
pub packet_is : (kind : ℕ) (bytes : List ℕ) → packet request_magic kind bytes ≡ header kind (length bytes) ++ bytes
unfolding packet
packet_is kind bytes = refl

pub same_kind : (j k m n : ℕ) → j < 2 ^ 32 → k < 2 ^ 32 → header j m ≡ header k n → j ≡ k
same_kind j k m n hj hk h = same_number j k (ap (λ (l : List ℕ). take 4 (drop 4 l)) h) hj hk

pub same_size : (j k m n : ℕ) → m < 2 ^ 32 → n < 2 ^ 32 → header j m ≡ header k n → m ≡ n
same_size j k m n hm hn h = same_number m n (ap (λ (l : List ℕ). drop 8 l) h) hm hn

-- bytes that begin with a packet begin with a header
pub unit_is : (limits : Limits) (bytes : List ℕ) (kind : ℕ) (text after : List ℕ) → IsUnitThen limits bytes (APacket kind text) after
    → bytes ≡ header kind (length text) ++ (text ++ after)
unit_is limits bytes kind text after u =
    u.joined ∙ (ap (λ (l : List ℕ). l ++ after) (u.unit.spelled ∙ packet_is kind text) ∙ append_assoc (header kind (length text)) text after)

-- ---- NUL as the first byte

pub nul_longer : (bytes more : List ℕ) → BeginsWithNul bytes → BeginsWithNul (bytes ++ more)
nul_longer bytes more nul = (nul.0 ++ more, ap (λ (l : List ℕ). l ++ more) nul.1)

pub nul_first : (bytes more : List ℕ) → 0 < length bytes → BeginsWithNul (bytes ++ more) → BeginsWithNul bytes
nul_first [] more some nul = absurd (omega arith)
nul_first (b ∷ bytes) more some nul = let joined = nul.1 in let zero : b ≡ 0 = cc in (bytes, cc)

-- a packet begins with NUL
pub packet_nul : (limits : Limits) (bytes : List ℕ) (kind : ℕ) (text after : List ℕ) → IsUnitThen limits bytes (APacket kind text) after → BeginsWithNul bytes
packet_nul limits bytes kind text after u = (drop 1 (header kind (length text)) ++ (text ++ after), unit_is limits bytes kind text after u)
