-- The bytes that wait for each slot, as a plain server keeps them.
use Rattle.std.specs.Prelude.{ℕ, List, [], ◌∷◌, ◌++◌, map, slice_set}
use Rattle.std.specs.List.{slice_index_or}
use Rattle.std.specs.Global.{Vec}

-- the bytes of each
abbrev pub bytes_of : List (Vec ℕ) → List (List ℕ)
bytes_of outboxes = map (λ outbox. outbox.items) outboxes

-- the bytes of slot c grow
abbrev pub with_bytes : ℕ → List ℕ → List (List ℕ) → List (List ℕ)
with_bytes c text outboxes = slice_set outboxes c (slice_index_or outboxes c [] ++ text)

-- those of each of these slots do, in order, as often as it is listed
abbrev pub with_bytes_each : List ℕ → List ℕ → List (List ℕ) → List (List ℕ)
with_bytes_each text [] outboxes = outboxes
with_bytes_each text (c ∷ slots) outboxes = with_bytes_each text slots (with_bytes c text outboxes)
