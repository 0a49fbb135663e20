-- The answers of calls that read or write, the newest first, if they are known.
use Rattle.std.specs.Prelude.{◌≡◌, ℕ, ◌<◌, List, ◌∷◌, Option, Some, None, Result, Ok, Err}
use Rattle.std.specs.IoError.{error_kind}
use Rattle.std.specs.declared.io.Error.{Error}
use Rattle.gm_feeder.specs.declared.source.Answer.{Answer}
use Rattle.gm_feeder.specs.declared.source.Answer.TheVariants.{Moved, Failed}
use Rattle.gm_feeder.specs.declared.units.ReadError.{ReadError}
use Rattle.gm_feeder.specs.declared.units.ReadError.TheVariants.{Feed, Read}

-- the answer of a call that was handed this number of bytes, or room for them
abbrev pub answer_of : Result ℕ Error → ℕ → Answer
answer_of (Ok count) size = Moved count size
answer_of (Err error) size = Failed (error_kind error)

-- there was one call, which answered this
abbrev pub Answered : Option (List Answer) → Option (List Answer) → Answer → Type 0
Answered None new answer = Unit {0}
Answered (Some older) new answer = new ≡ Some (answer ∷ older)

-- there was no call
abbrev pub Unasked : Option (List Answer) → Option (List Answer) → Type 0
Unasked None new = Unit {0}
Unasked (Some older) new = new ≡ Some older

-- A feeder asked its source once, for room that it had, and answers as the source did; or it refused, and didn't ask.
abbrev pub AsksOnce : Option (List Answer) → Option (List Answer) → Result ℕ ReadError → Type 0
AsksOnce old new (Ok count) = (size : ℕ) × (0 < size) × Answered old new (Moved count size)
AsksOnce old new (Err (Read error)) = Answered old new (Failed (error_kind error))
AsksOnce old new (Err (Feed fault)) = Unasked old new
