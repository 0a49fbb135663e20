-- The laws that hold for all packets.
use Rattle.std.specs.Prelude.{◌≡◌, ◌≢◌, ℕ, ◌<◌, ◌^◌, false, List, [], ◌∷◌, ◌++◌, length, Ok}
use Rattle.std.specs.List.{join_with_byte}
use Rattle.std.proofs.Common.{zero, suc}
use Rattle.gm_packet.specs.declared.kind.Kind.{Kind}
use Rattle.gm_packet.specs.declared.request.Request.{Request}
use Rattle.gm_packet.specs.Kinds.{Shape, Empty, Plain, Opaque, Timed, shape, number}
use Rattle.gm_packet.specs.Packets.{packet}
use Rattle.gm_packet.specs.Packets.{has_nul}
use Rattle.gm_packet.specs.Requests.{Asked, Asks, request_of}
use Rattle.gm_packet.specs.Views.{asked_of}
use Rattle.gm_packet.specs.Packets.{Fits}
use Rattle.gm_packet.specs.Requests.{request_texts}

-- two requests of one packet type are of one kind
abbrev pub KindsAreNumberedApart : Type 0
KindsAreNumberedApart = (j k : Kind) → number j ≡ number k → j ≡ k

-- If two packets, each with anything after it, are the same bytes, they are the same packet.
abbrev pub NoPacketBeginsAnother : Type 0
NoPacketBeginsAnother =
    (m n : List ℕ) (j k : ℕ) (a b x y : List ℕ)
    → length m ≡ 4 → length n ≡ 4 → length a < 2 ^ 32 → length b < 2 ^ 32
    → packet m j a ++ x ≡ packet n k b ++ y
    → (packet m j a ≡ packet n k b) × (m ≡ n) × (j < 2 ^ 32 → k < 2 ^ 32 → j ≡ k) × (a ≡ b) × (x ≡ y)

-- data of a packet type ask one thing
abbrev pub OneReading : Type 0
OneReading = (kind : ℕ) (bytes : List ℕ) (a b : Asked) → Asks kind bytes a → Asks kind bytes b → a ≡ b

-- the last of the arguments, or nothing
abbrev pub last_of : List (List ℕ) → List ℕ
last_of [] = []
last_of (text ∷ []) = text
last_of (text ∷ second ∷ texts) = last_of (second ∷ texts)

-- Arguments that are read as they were written: a last argument that isn't opaque holds no NUL, and after others (the
-- denominator of a WORK_STATUS) it isn't empty, since the NUL before it would then be the last byte of the
-- data and be dropped.
abbrev pub IsReadable : Shape → List (List ℕ) → Type 0
IsReadable Empty arguments = Unit {0}
IsReadable (Plain zero) arguments = has_nul (last_of arguments) ≡ false
IsReadable (Plain (suc n)) arguments = (has_nul (last_of arguments) ≡ false) × (last_of arguments ≢ [])
IsReadable (Opaque n) arguments = Unit {0}
IsReadable Timed arguments = Unit {0}

-- A request that a packet can carry and that is readable is read from its packet as it was written.
abbrev pub WrittenRequestsReadBack : Type 0
WrittenRequestsReadBack =
    (r : Request)
    → (asked_of r).timeout < 2 ^ 32 → Fits (request_texts (asked_of r)) → IsReadable (shape (asked_of r).kind) (asked_of r).arguments
    → request_of (number (asked_of r).kind) (join_with_byte 0 (request_texts (asked_of r))) ≡ Ok (asked_of r)
