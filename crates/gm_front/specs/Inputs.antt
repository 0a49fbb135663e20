-- The meaning of inputs: the steps that the server takes, and the bytes of each slot that made no unit yet.
use Rattle.std.specs.Prelude.{◌≡◌, ◌⊎◌, ℕ, Bool, true, false, ◌==◌, if◌then◌else◌, List, [], ◌∷◌, ◌++◌, length, Option, Some, None}
use Rattle.gm_feeder.specs.declared.units.Limits.{Limits}
use Rattle.gm_feeder.specs.Units.{Item, Spells}
use Rattle.gm_notes.specs.declared.event.ApplyError.{ApplyError}
use Rattle.gm_notes.specs.declared.event.Done.{Done}
use Rattle.gm_notes.specs.declared.event.UnitFault.{UnitFault}
use Rattle.gm_notes.specs.Settings.{Settings}
use Rattle.gm_notes.specs.Notes.{takes_units}
use Rattle.gm_notes.specs.Flow.{waiting}
use Rattle.gm_notes.specs.Jobs.{made}
use Rattle.gm_notes.specs.Steps.{Step, Open, Fault, Close, Tick, Took, Withdrew, Drain, refusal, unless_not_open}
use Rattle.gm_notes.specs.Steps.{free_slot, made_since}
use Rattle.gm_notes.specs.Steps.{run}
use Rattle.gm_front.specs.Units.{step_of_unit, Stands, BeginsWith, ComesNext}
use Rattle.gm_front.specs.declared.input.Input.{Input as Handed}
use Rattle.gm_front.specs.declared.input.Input.TheVariants as handed

-- one thing that comes from outside
pub data Input : Type 0 where
  Opens : List ℕ → Input  -- a connection, from this address
  Gives : ℕ → List ℕ → Input  -- this slot gives this piece
  Cuts : ℕ → List ℕ → ℕ → Input  -- it gives this piece, but memory ran out after this many of its units
  Closes : ℕ → Input  -- the connection in this slot closes
  Ticks : ℕ → Input  -- it is this moment
  Takes : ℕ → Input  -- the NOOP of this slot is taken
  Withdraws : ℕ → Input  -- the NOOP of this slot is withdrawn
  Drains : ℕ → Input  -- what waits for this slot is taken

-- an input of a front, wherever its bytes lie
abbrev pub input_of : Handed → Input
input_of (handed.Open addr) = Opens addr.now
input_of (handed.Piece slot bytes) = Gives slot bytes.now
input_of (handed.Close slot) = Closes slot
input_of (handed.Tick now) = Ticks now
input_of (handed.Took slot) = Takes slot
input_of (handed.Withdrew slot) = Withdraws slot
input_of (handed.Drain slot) = Drains slot

-- an input whose piece was cut after a count of units
abbrev pub cut_after : ℕ → Input → Input
cut_after units (Gives c piece) = Cuts c piece units
cut_after units other = other

-- the meaning of inputs: the server's steps, the newest first, and for each slot the bytes that came since it was
-- opened and made no unit yet
pub record Reading : Type 0 where
  pub steps : List Step
  pub rests : ℕ → List ℕ

-- nothing yet
abbrev pub nothing_read : Reading
nothing_read = record { steps = []; rests = λ c. [] }

-- with one step more
abbrev pub with_step : Step → Reading → Reading
with_step s reading = record reading { steps = s ∷ reading.steps }

-- slot c has this rest
abbrev pub with_rest : ℕ → List ℕ → (ℕ → List ℕ) → ℕ → List ℕ
with_rest c rest rests d = if d == c then rest else rests d

-- ---- units that are handed in

abbrev pub unless_refused : Option ApplyError → Step → List Step → List Step
unless_refused None s steps = s ∷ steps
unless_refused (Some refused) s steps = steps

-- the steps after one more is handed in; a refused one isn't taken
abbrev pub handed_in : Settings → Step → List Step → List Step
handed_in k s steps = unless_refused (refusal k s (run k steps)) s steps

-- these units are handed in, in this order; those that come once the slot is shut are refused
abbrev pub with_units : Settings → ℕ → List Item → List Step → List Step
with_units k c [] steps = steps
with_units k c (item ∷ items) steps = with_units k c items (handed_in k (step_of_unit k c item) steps)

-- a fault of slot c is, if there is one
abbrev pub faulted : Settings → ℕ → Option UnitFault → List Step → List Step
faulted k c None steps = steps
faulted k c (Some fault) steps = handed_in k (Fault c fault) steps

-- ---- pieces

-- a slot that takes no more units keeps no rest
abbrev pub kept_if : Bool → List ℕ → List ℕ
kept_if true rest = rest
kept_if false rest = []

-- the units of slot c were handed in, and the fault at the rest, if there is one
abbrev pub given : Settings → ℕ → List Item → List ℕ → Option UnitFault → Reading → Reading
given k c items rest fault old =
    let steps = faulted k c fault (with_units k c items old.steps) in
    record { steps = steps; rests = with_rest c (kept_if (takes_units c (run k steps).notes) rest) old.rests }

-- A piece of slot c: the rest and the piece spell units and a new rest; the units are handed in, and then the fault
-- at the new rest, if there is one.
pub record GivesPiece (k : Settings) (limits : Limits) (c : ℕ) (piece : List ℕ) (old new : Reading) : Type 0 where
  pub items : List Item
  pub rest : List ℕ
  pub fault : Option UnitFault
  pub spelled : Spells limits (old.rests c ++ piece) items rest
  pub standing : Stands limits rest fault
  pub adds : new ≡ given k c items rest fault old

-- slot c is closed; bytes that made no unit go with it
abbrev pub with_closed : ℕ → List Step → (ℕ → List ℕ) → Reading
with_closed c steps rests = record { steps = Close c ∷ steps; rests = with_rest c [] rests }

-- A piece of slot c that was cut: a count of units begins the rest and the piece; they were taken, all of them, and the
-- next unit or fault wasn't; or, if there was no memory for the piece, no unit was. Then the slot was closed.
pub record CutsPiece (k : Settings) (limits : Limits) (c : ℕ) (piece : List ℕ) (units : ℕ) (old new : Reading) : Type 0 where
  pub items : List Item
  pub count : length items ≡ units
  pub rest : List ℕ
  pub begins : BeginsWith limits (old.rests c ++ piece) items rest
  pub left : (units ≡ 0) ⊎ ComesNext limits rest
  pub taken : takes_units c (run k (with_units k c items old.steps)).notes ≡ true
  pub adds : new ≡ with_closed c (with_units k c items old.steps) old.rests

-- ---- inputs

-- why an input is refused after these
abbrev pub refusal_of : Settings → Input → Reading → Option ApplyError
refusal_of k (Opens addr) old = refusal k (Open addr) (run k old.steps)
refusal_of k (Gives c piece) old = unless_not_open (takes_units c (run k old.steps).notes)
refusal_of k (Cuts c piece units) old = unless_not_open (takes_units c (run k old.steps).notes)
refusal_of k (Closes c) old = refusal k (Close c) (run k old.steps)
refusal_of k (Ticks now) old = refusal k (Tick now) (run k old.steps)
refusal_of k (Takes c) old = refusal k (Took c) (run k old.steps)
refusal_of k (Withdraws c) old = refusal k (Withdrew c) (run k old.steps)
refusal_of k (Drains c) old = refusal k (Drain c) (run k old.steps)

-- the steps that a taken input adds: a piece its units, any other one step
abbrev pub Adds : Settings → Limits → Input → Reading → Reading → Type 0
Adds k limits (Opens addr) old new = new ≡ with_step (Open addr) old
Adds k limits (Gives c piece) old new = GivesPiece k limits c piece old new
Adds k limits (Cuts c piece units) old new = CutsPiece k limits c piece units old new
Adds k limits (Closes c) old new = new ≡ with_closed c old.steps old.rests
Adds k limits (Ticks now) old new = new ≡ with_step (Tick now) old
Adds k limits (Takes c) old new = new ≡ with_step (Took c) old
Adds k limits (Withdraws c) old new = new ≡ with_step (Withdrew c) old
Adds k limits (Drains c) old new = new ≡ with_step (Drain c) old

-- one that is refused adds nothing
abbrev pub AddsUnless : Option ApplyError → Settings → Limits → Input → Reading → Reading → Type 0
AddsUnless None k limits input old new = Adds k limits input old new
AddsUnless (Some refused) k limits input old new = new ≡ old

-- an input leads from what the inputs before it spell to this
abbrev pub ReadsOn : Settings → Limits → Input → Reading → Reading → Type 0
ReadsOn k limits input old new = AddsUnless (refusal_of k input old) k limits input old new

-- these inputs, the newest first, spell this
abbrev pub Reads : Settings → Limits → List Input → Reading → Type 0
Reads k limits [] reading = reading ≡ nothing_read
Reads k limits (input ∷ older) reading = (before : Reading) × Reads k limits older before × ReadsOn k limits input before reading

-- ---- answers

-- the newest job that was made between these steps and those
abbrev pub created_since : Settings → List Step → List Step → Option ℕ
created_since k before after = made_since (made (run k before).notes) (made (run k after).notes)

-- the slot that an input was given
abbrev pub opened_by : Settings → Input → Reading → Option ℕ
opened_by k (Opens addr) old = free_slot k (run k old.steps)
opened_by k other old = None

-- the answer to an input that is taken
abbrev pub done_by : Settings → Input → Reading → Reading → Done
done_by k input old new = record { opened = opened_by k input old; created = created_since k old.steps new.steps }

-- the bytes that it takes
abbrev pub drained_by : Settings → Input → Reading → List ℕ
drained_by k (Drains c) old = waiting c (run k old.steps).flow
drained_by k other old = []
