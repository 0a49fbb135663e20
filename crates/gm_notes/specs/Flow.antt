-- The bytes that go to connections: one list of their events, the newest first.
use Rattle.std.specs.Prelude.{ℕ, ◌==◌, if◌then◌else◌, List, [], ◌∷◌, ◌++◌}

-- one thing that happens to the bytes of a slot
pub data Flow : Type 0 where
  Began : ℕ → Flow  -- a connection was opened there
  Queued : ℕ → List ℕ → Flow  -- these bytes were given to it
  Drained : ℕ → Flow  -- what waited was taken
  Emptied : ℕ → Flow  -- what waited went with the connection

-- all that was given to slot c since it was opened
abbrev pub sent : ℕ → List Flow → List ℕ
sent c [] = []
sent c (Began d ∷ older) = if c == d then [] else sent c older
sent c (Queued d bytes ∷ older) = if c == d then sent c older ++ bytes else sent c older
sent c (Drained d ∷ older) = sent c older
sent c (Emptied d ∷ older) = sent c older

-- the bytes given to slot c since it was opened or drained
abbrev pub waiting : ℕ → List Flow → List ℕ
waiting c [] = []
waiting c (Began d ∷ older) = if c == d then [] else waiting c older
waiting c (Queued d bytes ∷ older) = if c == d then waiting c older ++ bytes else waiting c older
waiting c (Drained d ∷ older) = if c == d then [] else waiting c older
waiting c (Emptied d ∷ older) = if c == d then [] else waiting c older
