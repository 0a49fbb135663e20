-- Sets of slots: sixteen words of sixty-four bits, one for each slot.
use Rattle.std.specs.Prelude.{ℕ, ◌/◌, ◌%◌, Bool, ◌==◌, List, slice_index}
use Rattle.std.specs.Int.{bit_at}

-- the slot is in the set
abbrev pub has : List ℕ → ℕ → Bool
has words slot = bit_at (slice_index words (slot / 64)) (slot % 64) == 1
