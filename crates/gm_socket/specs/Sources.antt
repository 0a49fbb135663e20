-- A source and a writer, each with its log, and the rest that the last call of a source left.
use Rattle.std.specs.Prelude.{◌≡◌, ℕ, Bool, true, false, nat_lt, if◌then◌else◌, List, [], ◌∷◌, Option, Some, None}
use Rattle.std.specs.declared.io.ErrorKind.TheVariants.{WouldBlock, TimedOut}
use Rattle.gm_feeder.specs.declared.source.Answer.{Answer}
use Rattle.gm_feeder.specs.declared.source.Answer.TheVariants.{Moved, Failed}
use Rattle.gm_socket.specs.declared.source.Left.{Left}
use Rattle.gm_socket.specs.declared.source.Left.TheVariants.{Perhaps, Little, Nothing}

-- a source, the bytes that were to come when it was taken, if they are known, those that it gave since, what its
-- calls answered, the newest first, and the last of these answers, until it is taken
pub record SourceState (I : Type 0) : Type 0 where
  pub source : I
  pub before : Option (List ℕ)
  pub bytes : List ℕ
  pub answers : List Answer
  pub last : Option Answer

-- a writer, its contents when it was taken, if they are known, what was written to it since, and what its calls
-- answered, the newest first
pub record WriterState (W : Type 0) : Type 0 where
  pub writer : W
  pub before : Option (List ℕ)
  pub bytes : List ℕ
  pub answers : List Answer

-- the answer kept of the last call is the one that it gave
abbrev pub IsLast : Option Answer → List Answer → Type 0
IsLast None answers = Unit {0}
IsLast (Some answer) [] = ⊥
IsLast (Some answer) (newest ∷ older) = newest ≡ answer

-- a call that filled its room may have left more; one that gave less left nothing, unless its peer closed its side or
-- an urgent byte cut it short
abbrev pub left_after : ℕ → ℕ → Left
left_after count size = if nat_lt count size then Little else Perhaps

-- the rest that the last call left; if no answer is kept, there may be more
abbrev pub left_by : Option Answer → Left
left_by None = Perhaps
left_by (Some (Moved count size)) = left_after count size
left_by (Some (Failed WouldBlock)) = Nothing
left_by (Some (Failed kind)) = Perhaps

-- whether the last call failed, as the system found out that the peer vanished
abbrev pub has_timed_out : Option Answer → Bool
has_timed_out (Some (Failed TimedOut)) = true
has_timed_out last = false
