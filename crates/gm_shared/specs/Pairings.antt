-- Through which sockets the connections of slots went. The side of a slot that reads and the side that writes are
-- handed the same ones.
use Rattle.std.specs.Prelude.{◌≡◌, ℕ, ℤ, ◌+◌, ◌*◌, Bool, true, false, if◌then◌else◌, List, [], ◌∷◌, map, Option, Some, None}
use Rattle.gm_ghost.specs.Lists.{entries_by}
use Rattle.gm_shared.specs.declared.pairing.Passage.{Passage}

-- the sides are numbered: those of a slot that read are even, those that write odd
abbrev pub side_code : ℕ → Bool → ℕ
side_code slot is_writing = 2 * slot + (if is_writing then 1 else 0)

abbrev pub side_of : Passage → ℕ
side_of p = p.side

abbrev pub socket_in : Passage → ℤ × Bool
socket_in p = (p.socket, p.is_served)

-- the sockets that one side was handed, the last one first, with whether their connections are served
abbrev pub passed_by : ℕ → List Passage → List (ℤ × Bool)
passed_by side log = map socket_in (entries_by side_of side log)

-- in each slot both sides were handed the same sockets
abbrev pub AreAlike : List Passage → Type 0
AreAlike log = (slot : ℕ) → passed_by (side_code slot false) log ≡ passed_by (side_code slot true) log

-- a side of a slot: whether it writes, and what it was handed
pub record SideState : Type 0 where
  pub slot : ℕ
  pub is_writing : Bool
  pub passed : List (ℤ × Bool)

abbrev pub new_side : ℕ → Bool → SideState
new_side slot is_writing = record { slot = slot; is_writing = is_writing; passed = [] }

-- the two sides of one slot
pub record IsPair (reading writing : SideState) : Type 0 where
  pub slot : reading.slot ≡ writing.slot
  pub reads : reading.is_writing ≡ false
  pub writes : writing.is_writing ≡ true

-- the passage added for one side, if any
abbrev pub passages_of : ℕ → Option (ℤ × Bool) → List Passage
passages_of side None = []
passages_of side (Some passage) = record { side = side; socket = passage.0; is_served = passage.1 } ∷ []

-- the side was handed a socket more, if there is one
abbrev pub passed_with : Option (ℤ × Bool) → SideState → SideState
passed_with None side = side
passed_with (Some passage) side = record side { passed = passage ∷ side.passed }

-- both sides of one slot were handed a socket more
pub record Paired (passage : ℤ × Bool) (reading writing reading_after writing_after : SideState) : Type 0 where
  pub is_pair : IsPair reading writing
  pub reads : reading_after ≡ passed_with (Some passage) reading
  pub writes : writing_after ≡ passed_with (Some passage) writing
