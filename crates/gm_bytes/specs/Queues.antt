-- Queues of bytes.
use Rattle.std.specs.Prelude.{◌≡◌, ℕ, ◌+◌, ◌-◌, max, List, [], ◌∷◌, ◌++◌, length, take, drop}
use Rattle.gm_bytes.specs.declared.run.Run.{Run}

-- the bytes that wait, and the room that is reserved for more
pub record Queued : Type 0 where
  pub bytes : List ℕ
  pub room : ℕ

-- nothing waits, and no room is reserved
abbrev pub empty_queue : Queued
empty_queue = record { bytes = []; room = 0 }

-- room for n bytes beyond those that wait
abbrev pub with_room : ℕ → Queued → Queued
with_room n queue = record queue { room = max queue.room n }

-- the bytes wait after the others, and take this much of the room
abbrev pub with_bytes : List ℕ → ℕ → Queued → Queued
with_bytes bytes cost queue = record { bytes = queue.bytes ++ bytes; room = queue.room - cost }

-- ---- how it is kept

-- the copied bytes, with the shared ones where they come
abbrev pub with_shared : List Run → List ℕ → List ℕ
with_shared [] copied = copied
with_shared (run ∷ runs) copied = (take run.before copied ++ run.bytes) ++ with_shared runs (drop run.before copied)

-- how many copied bytes come before the last run
abbrev pub before_last : List Run → ℕ
before_last [] = 0
before_last (run ∷ runs) = run.before + before_last runs

-- how many bytes the first run has, with those right before it; without a run, how many are copied
abbrev pub first_len : List Run → ℕ → ℕ
first_len [] copied = copied
first_len (run ∷ runs) copied = run.before + length run.bytes
