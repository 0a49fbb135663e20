-- How a front holds what inputs spell: a server, and a feeder for each open slot.
use Rattle.std.specs.Prelude.{◌≡◌, ℕ, ◌≤◌, true, false, List, [], ◌∷◌, length, slice_index_or, Option, Some, None, Result, Ok, Err}
use Rattle.gm_feeder.specs.declared.units.Limits.{Limits}
use Rattle.gm_feeder.specs.Streams.{Stream}
use Rattle.gm_notes.specs.declared.note.Note.{Note}
use Rattle.gm_notes.specs.declared.event.ApplyError.{ApplyError}
use Rattle.gm_notes.specs.Settings.{Settings}
use Rattle.gm_notes.specs.Notes.{is_open, is_shut}
use Rattle.gm_notes.specs.Steps.{Step}
use Rattle.gm_notes.specs.Steps.{run}
use Rattle.gm_notes.specs.Servers.{IsRefusal}
use Rattle.gm_front.specs.declared.front.Front.{Front}
use Rattle.gm_front.specs.declared.input.Stepped.{Stepped}
use Rattle.gm_front.specs.declared.input.StepError.{StepError}
use Rattle.gm_front.specs.declared.input.StepError.TheVariants.{Refused, Cut}
use Rattle.gm_front.specs.Inputs.{Input, Opens, Gives, Cuts, Closes, Ticks, Takes, Withdraws, Drains, cut_after, Reading}
use Rattle.gm_front.specs.Inputs.{Reads, Adds, CutsPiece, refusal_of, done_by, drained_by}

-- ---- the feeders, one for each slot

-- An open slot's feeder holds its rest and has answered no fault, unless the slot is shut.
pub record Feeds (limits : Limits) (c : ℕ) (notes : List Note) (rest : List ℕ) (feeder : Stream) : Type 0 where
  pub opened : is_open c notes ≡ true
  pub limited : feeder.limits ≡ limits
  pub fed : is_shut c notes ≡ false → (feeder.pending ≡ rest) × (feeder.fault ≡ None)

abbrev pub FeedsIfOpen : Limits → ℕ → List Note → List ℕ → Option Stream → Type 0
FeedsIfOpen limits c notes rest None = (is_open c notes ≡ false) × (rest ≡ [])
FeedsIfOpen limits c notes rest (Some feeder) = Feeds limits c notes rest feeder

-- each slot's feeder is as the notes say
abbrev pub Holds : Limits → List Note → (ℕ → List ℕ) → List (Option Stream) → Type 0
Holds limits notes rests feeders = (c : ℕ) → FeedsIfOpen limits c notes (rests c) (slice_index_or feeders c None)

-- ---- fronts

-- A front holds what inputs spell: its server agrees with the steps, and it has the rest of each open slot that isn't
-- shut. There are no more slots than it has room for.
pub record IsHeld {S : Type 0} (agrees : S → Settings → List Step → Type 0) (k : Settings) (limits : Limits) (reading : Reading) (front : Front S) : Type 0 where
  pub agreed : agrees front.server k reading.steps
  pub slots : k.slots ≤ 1024
  pub feeders : length front.feeders.items ≡ 1024
  pub limited : front.limits ≡ limits
  pub held : Holds limits (run k reading.steps).notes reading.rests front.feeders.items

-- A front agrees with a list of inputs, the newest first, if it holds what they spell.
pub record Agrees {S : Type 0} (agrees : S → Settings → List Step → Type 0) (k : Settings) (limits : Limits) (inputs : List Input) (front : Front S) : Type 0 where
  pub reading : Reading
  pub reads : Reads k limits inputs reading
  pub held : IsHeld agrees k limits reading front

-- ---- what a step owes

-- The input was taken: it adds this, and is answered so.
pub record IsTaken {S : Type 0} (agrees : S → Settings → List Step → Type 0) (k : Settings) (limits : Limits) (input : Input) (old : Reading) (stepped : Stepped) (front : Front S) : Type 0 where
  pub new : Reading
  pub stands : refusal_of k input old ≡ None
  pub adds : Adds k limits input old new
  pub done : stepped.done ≡ done_by k input old new
  pub drained : stepped.drained.bytes ≡ drained_by k input old
  pub held : IsHeld agrees k limits new front

-- the refusal is the definitions'; an opening and a tick that would otherwise be taken may answer Memory
abbrev pub Refuses : Input → ApplyError → Option ApplyError → Type 0
Refuses (Opens addr) refused stands = IsRefusal refused stands
Refuses (Gives c piece) refused stands = stands ≡ Some refused
Refuses (Cuts c piece units) refused stands = stands ≡ Some refused
Refuses (Closes c) refused stands = stands ≡ Some refused
Refuses (Ticks now) refused stands = IsRefusal refused stands
Refuses (Takes c) refused stands = stands ≡ Some refused
Refuses (Withdraws c) refused stands = stands ≡ Some refused
Refuses (Drains c) refused stands = stands ≡ Some refused

-- The input was refused: it changes nothing.
pub record IsRefused {S : Type 0} (agrees : S → Settings → List Step → Type 0) (k : Settings) (limits : Limits) (input : Input) (old : Reading) (refused : ApplyError) (front : Front S) : Type 0 where
  pub stands : Refuses input refused (refusal_of k input old)
  pub held : IsHeld agrees k limits old front

-- It was out of memory after a count of the piece's units.
pub record IsCutAt {S : Type 0} (agrees : S → Settings → List Step → Type 0) (k : Settings) (limits : Limits) (c : ℕ) (piece : List ℕ) (units : ℕ) (old : Reading) (front : Front S) : Type 0 where
  pub new : Reading
  pub stands : refusal_of k (Gives c piece) old ≡ None
  pub adds : CutsPiece k limits c piece units old new
  pub held : IsHeld agrees k limits new front

-- only a piece is cut
abbrev pub IsCut : {S : Type 0} → (S → Settings → List Step → Type 0) → Settings → Limits → Input → Reading → ℕ → Front S → Type 0
IsCut agrees k limits (Gives c piece) old units front = IsCutAt agrees k limits c piece units old front
IsCut agrees k limits other old units front = ⊥

-- the answer to an input after these, and the front after it
abbrev pub AnswersInput : {S : Type 0} → (S → Settings → List Step → Type 0) → Settings → Limits → Input → Reading → Result Stepped StepError → Front S → Type 0
AnswersInput agrees k limits input old (Ok stepped) front = IsTaken agrees k limits input old stepped front
AnswersInput agrees k limits input old (Err (Refused refused)) front = IsRefused agrees k limits input old refused front
AnswersInput agrees k limits input old (Err (Cut units)) front = IsCut agrees k limits input old units front

-- so it does, whatever the front held before
abbrev pub Serves : {S : Type 0} → (S → Settings → List Step → Type 0) → Input → Front S → Result Stepped StepError → Front S → Type 0
Serves agrees input old result new =
    (k : Settings) (limits : Limits) (reading : Reading) → IsHeld agrees k limits reading old → AnswersInput agrees k limits input reading result new

-- the inputs, once one more is answered so: it was taken, it was cut, or it was refused
abbrev pub inputs_after : Result Stepped StepError → Input → List Input → List Input
inputs_after (Ok stepped) input inputs = input ∷ inputs
inputs_after (Err (Cut units)) input inputs = cut_after units input ∷ inputs
inputs_after (Err (Refused refused)) input inputs = inputs
