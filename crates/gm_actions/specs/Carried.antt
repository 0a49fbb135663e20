-- Texts that came in one packet, so that a packet can carry them again.
use Rattle.std.specs.Prelude.{ℕ, ◌≤◌, List, [], ◌∷◌, length}
use Rattle.std.specs.List.{join_with_byte}
use Rattle.gm_packet.specs.Kinds.{shape}
use Rattle.gm_packet.specs.Requests.{Asked, Spells}
use Rattle.gm_packet.specs.Packets.{LackNul}

-- a request came in a packet of at most 1,073,741,824 bytes of data
pub record HasCome (asked : Asked) : Type 0 where
  pub bytes : List ℕ
  pub spelled : Spells (shape asked.kind) asked.arguments asked.timeout bytes
  pub sized : length bytes ≤ 1073741824

-- a function, a unique id and a body that came in one packet: a packet can carry them again, with a handle
pub record IsCarried (function unique body : List ℕ) : Type 0 where
  pub separable : LackNul 2 (function ∷ unique ∷ body ∷ [])
  pub sized : length (join_with_byte 0 (function ∷ unique ∷ body ∷ [])) ≤ 1073741824

-- a numerator and a denominator that a packet can carry, with a handle
pub record AreNumbers (numerator denominator : List ℕ) : Type 0 where
  pub separable : LackNul 1 (numerator ∷ denominator ∷ [])
  pub sized : length (join_with_byte 0 (numerator ∷ denominator ∷ [])) ≤ 1073741824
