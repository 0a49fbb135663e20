-- The bytes that a session reads, and the units of them that it hands in.
use Rattle.std.specs.Prelude.{◌≡◌, ◌⊎◌, ℕ, zero, suc, Bool, true, false, List, [], ◌∷◌, ◌++◌, reverse, Option, Some, None, IfSome, Result, Ok, Err}
use Rattle.std.specs.Io.KnownBytes.{Consumes, Appends, Keeps}
use Rattle.std.specs.declared.io.ErrorKind.{ErrorKind}
use Rattle.std.specs.declared.io.ErrorKind.TheVariants.{WouldBlock, Interrupted}
use Rattle.gm_feeder.specs.declared.source.Answer.{Answer}
use Rattle.gm_feeder.specs.declared.source.Answer.TheVariants.{Moved, Failed}
use Rattle.gm_feeder.specs.declared.units.Limits.{Limits}
use Rattle.gm_feeder.specs.Answers.{Answered, Unasked}
use Rattle.gm_feeder.specs.Units.{Item, IsUnitThen, Waits}
use Rattle.gm_feeder.specs.Streams.{Stream, TakesIn, GivesUnit, GivesNone, with_bytes}
use Rattle.gm_notes.specs.declared.event.UnitFault.{UnitFault}
use Rattle.gm_notes.specs.declared.event.ApplyError.{ApplyError}
use Rattle.gm_notes.specs.declared.event.ApplyError.TheVariants as refusals
use Rattle.gm_notes.specs.Settings.{Settings}
use Rattle.gm_notes.specs.Steps.{Step, Fault}
use Rattle.gm_front.specs.Units.{step_of_unit, fault_steps, steps_of, IsFaultAt, BeginsWith}
use Rattle.gm_shared.specs.declared.tape.Entry.{Entry}
use Rattle.gm_shared.specs.Calls.{Called, HandedIn}
use Rattle.gm_session.specs.declared.session.SessionEnd.{SessionEnd}
use Rattle.gm_session.specs.declared.session.SessionEnd.TheVariants as ends
use Rattle.gm_session.specs.declared.applier.Taken.{Taken}
use Rattle.gm_session.specs.declared.applier.Taken.TheVariants.{Unit as AUnit, Nothing}

-- the outcome of a read that failed so: it gave nothing if it was broken off or would have waited; otherwise the
-- session is over
abbrev pub failed_read : ErrorKind → Result (Unit {0}) SessionEnd
failed_read Interrupted = Ok tt
failed_read WouldBlock = Ok tt
failed_read kind = Err ends.ReadFault

-- The history goes on from what a desk had seen, and meanwhile the desk handed in these events, in order.
abbrev pub Adds : ℕ → List Step → List Entry → List Entry → Type 0
Adds desk steps seen after = HandedIn desk (reverse steps) seen after

-- The events that a desk handed in meanwhile are the first units of these bytes, in order, and then the fault after
-- them, or none.
pub record HandsIn (k : Settings) (desk c : ℕ) (limits : Limits) (bytes rest : List ℕ) (fault : Option UnitFault) (seen after : List Entry) : Type 0 where
  pub items : List Item
  pub begins : BeginsWith limits bytes items rest
  pub stands : IfSome fault (λ fault. IsFaultAt limits rest fault)
  pub adds : Adds desk (steps_of k c items fault) seen after

-- the input is used up, or the reader failed, or it read as many pieces as it may
abbrev pub IsWhole : SessionEnd → Type 0
IsWhole ends.Ended = Unit {0}
IsWhole ends.ReadFault = Unit {0}
IsWhole ends.Shut = ⊥
IsWhole ends.Memory = ⊥
IsWhole ends.Turns = Unit {0}
IsWhole ends.Stopped = ⊥
IsWhole ends.NoThread = ⊥

-- whether all whole units were handed in if a session ended so, and nothing more can be read
abbrev pub ends_whole : SessionEnd → Bool
ends_whole ends.Ended = true
ends_whole ends.ReadFault = true
ends_whole ends.Shut = false
ends_whole ends.Memory = false
ends_whole ends.Turns = true
ends_whole ends.Stopped = false
ends_whole ends.NoThread = false

-- a unit couldn't be applied
abbrev pub IsBroken : SessionEnd → Type 0
IsBroken ends.Shut = Unit {0}
IsBroken ends.Memory = Unit {0}
IsBroken end = ⊥

-- ---- why a session found its slot shut

-- the event was handed in at this desk, and the book refused it for another reason than memory
pub record Refuses (k : Settings) (taped : Bool) (s : Step) (desk : ℕ) (after : List Entry) : Type 0 where
  pub error : ApplyError
  pub seen : List Entry
  pub called : Called k taped s desk (Err error) seen after
  pub reason : error ≡ refusals.Memory → ⊥

-- this event of slot c comes next in the bytes
pub data StandsNext (k : Settings) (c : ℕ) (limits : Limits) (bytes : List ℕ) : Step → Type 0 where
  unit : (item : Item) (later : List ℕ) → IsUnitThen limits bytes item later → StandsNext k c limits bytes (step_of_unit k c item)
  broken : (fault : UnitFault) → IsFaultAt limits bytes fault → StandsNext k c limits bytes (Fault c fault)

-- The fault at the rest was handed in; or the book refused what comes there.
abbrev pub IsShutBy : Settings → Bool → ℕ → ℕ → Limits → List ℕ → Option UnitFault → List Entry → Type 0
IsShutBy k taped desk c limits rest (Some fault) after = Unit {0}
IsShutBy k taped desk c limits rest None after = (s : Step) × StandsNext k c limits rest s × Refuses k taped s desk after

-- ---- a session

-- The bytes that a session read, and the units of them that it handed in: all units and no fault, if the input is used
-- up, the reader failed or it read as many pieces as it may; then there is no unit at the rest, and no fault. If it
-- found its slot shut, why.
pub record Reads (k : Settings) (taped : Bool) (desk c : ℕ) (limits : Limits) (old new : Option (List ℕ)) (end : SessionEnd) (seen after : List Entry) : Type 0 where
  pub read : List ℕ
  pub consumes : Consumes old new read
  pub rest : List ℕ
  pub fault : Option UnitFault
  pub hands : HandsIn k desk c limits read rest fault seen after
  pub whole : IsWhole end → (fault ≡ None) × Waits limits rest
  pub shut : end ≡ ends.Shut → IsShutBy k taped desk c limits rest fault after

-- ---- in small

-- an event was applied, or nothing was and the session is over
abbrev pub Applies : Settings → Bool → ℕ → Step → Result (Unit {0}) SessionEnd → List Entry → List Entry → Type 0
Applies k taped desk s (Ok done) seen after = Adds desk (s ∷ []) seen after
Applies k taped desk s (Err end) seen after = Adds desk [] seen after × IsBroken end × (end ≡ ends.Shut → Refuses k taped s desk after)

-- the fault that comes next was applied, or nothing was, and the session is over
pub record Stops (k : Settings) (taped : Bool) (desk c : ℕ) (old : Stream) (end : SessionEnd) (seen after : List Entry) : Type 0 where
  pub fault : Option UnitFault
  pub stands : IfSome fault (λ fault. IsFaultAt old.limits old.pending fault)
  pub adds : Adds desk (fault_steps c fault) seen after
  pub broken : IsBroken end
  pub shut : end ≡ ends.Shut → IsShutBy k taped desk c old.limits old.pending fault after

-- the outcome for the next unit: it was applied; or there is none, and more bytes are waited for; or the session is
-- over
abbrev pub TakesNext : Settings → Bool → ℕ → ℕ → Stream → Result Taken SessionEnd → List Entry → List Entry → Stream → Type 0
TakesNext k taped desk c old (Ok (AUnit is_line)) seen after new = (item : Item) × GivesUnit old item new × Adds desk (step_of_unit k c item ∷ []) seen after
TakesNext k taped desk c old (Ok Nothing) seen after new = GivesNone old new × (after ≡ seen)
TakesNext k taped desk c old (Err end) seen after new = Stops k taped desk c old end seen after

-- after a turn the session goes on: all whole units were taken, unless some may be left
pub record GoesOn (k : Settings) (desk c : ℕ) (limits : Limits) (bytes : List ℕ) (units : Bool) (seen after : List Entry) (new : Stream) : Type 0 where
  pub hands : HandsIn k desk c limits bytes new.pending None seen after
  pub waits : units ≡ false → Waits limits new.pending
  pub limited : new.limits ≡ limits

-- after a turn the session is over
pub record Breaks (k : Settings) (taped : Bool) (desk c : ℕ) (limits : Limits) (bytes : List ℕ) (end : SessionEnd) (seen after : List Entry) : Type 0 where
  pub rest : List ℕ
  pub fault : Option UnitFault
  pub hands : HandsIn k desk c limits bytes rest fault seen after
  pub broken : IsBroken end
  pub shut : end ≡ ends.Shut → IsShutBy k taped desk c limits rest fault after

-- the outcome for these bytes in a turn
abbrev pub Takes : Settings → Bool → ℕ → ℕ → Limits → List ℕ → Result (Unit {0}) SessionEnd → Bool → List Entry → List Entry → Stream → Type 0
Takes k taped desk c limits bytes (Ok done) units seen after new = GoesOn k desk c limits bytes units seen after new
Takes k taped desk c limits bytes (Err end) units seen after new = Breaks k taped desk c limits bytes end seen after

abbrev pub Unloads : Settings → Bool → ℕ → ℕ → Stream → Result (Unit {0}) SessionEnd → Bool → List Entry → List Entry → Stream → Type 0
Unloads k taped desk c old outcome units seen after new = Takes k taped desk c old.limits old.pending outcome units seen after new

-- ---- a step: a piece is read, unless whole units may be left, and then there is a turn

-- these bytes came after those that were left, and were heard
pub record Fed (input left heard after_heard : Option (List ℕ)) (old new : Stream) : Type 0 where
  pub piece : List ℕ
  pub consumes : Consumes input left piece
  pub hears : Appends heard after_heard piece
  pub kept : new ≡ with_bytes old piece

-- a piece came, or none was asked for; or the session is over, and nothing was read
abbrev pub Fills : Bool → Option (List ℕ) → Option (List ℕ) → Option (List ℕ) → Option (List ℕ) → Stream → Stream → Result (Unit {0}) SessionEnd → Type 0
Fills units input left heard after_heard old new (Ok done) = Fed input left heard after_heard old new
Fills units input left heard after_heard old new (Err end) = (units ≡ false) × Consumes input left [] × Keeps heard after_heard × (end ≡ ends.Shut → ⊥)

-- A session is over in which these bytes were left, perhaps with whole units: a piece was read, and it broke; or no
-- whole unit was left, nothing was read, and nothing was handed in.
pub data Ends (k : Settings) (taped : Bool) (desk c : ℕ) (old : Stream) (units : Bool) (input left : Option (List ℕ)) (heard after_heard : Option (List ℕ)) (end : SessionEnd)
    (seen after : List Entry) : Type 0 where
  broke : (piece : List ℕ) → Consumes input left piece → Appends heard after_heard piece → Breaks k taped desk c old.limits (old.pending ++ piece) end seen after
      → Ends k taped desk c old units input left heard after_heard end seen after
  unread : units ≡ false → Consumes input left [] → Keeps heard after_heard → (end ≡ ends.Shut → ⊥) → after ≡ seen → Ends k taped desk c old units input left heard after_heard end seen after

-- a piece was read and heard, or none, and the session goes on, perhaps with whole units
pub record Reaches (k : Settings) (desk c : ℕ) (old : Stream) (input left heard after_heard : Option (List ℕ)) (units : Bool) (seen after : List Entry) (new : Stream) : Type 0 where
  pub piece : List ℕ
  pub consumes : Consumes input left piece
  pub hears : Appends heard after_heard piece
  pub goes_on : GoesOn k desk c old.limits (old.pending ++ piece) units seen after new

-- whole units may have been left before the step, and may be after it
abbrev pub Steps : Settings → Bool → ℕ → ℕ → Stream → Bool → Option (List ℕ) → Option (List ℕ) → Option (List ℕ) → Option (List ℕ) → Result (Unit {0}) SessionEnd → Bool → List Entry → List Entry → Stream → Type 0
Steps k taped desk c old units input left heard after_heard (Ok done) later seen after new = Reaches k desk c old input left heard after_heard later seen after new
Steps k taped desk c old units input left heard after_heard (Err end) later seen after new = Ends k taped desk c old units input left heard after_heard end seen after

-- ---- why: what the source answered, if that is known

-- whether the session is over once its source answered so: it is at its end, or it failed; a read that was broken off
-- or would have waited is neither
abbrev pub ends_by : Answer → Option SessionEnd
ends_by (Moved zero size) = Some ends.Ended
ends_by (Moved (suc count) size) = None
ends_by (Failed Interrupted) = None
ends_by (Failed WouldBlock) = None
ends_by (Failed kind) = Some ends.ReadFault

-- the source was asked once, and what it answered says that
abbrev pub AsksOnce : Option (List Answer) → Option (List Answer) → Option SessionEnd → Type 0
AsksOnce old new says = (answer : Answer) × Answered old new answer × (ends_by answer ≡ says)

-- No piece is asked for if whole units may be left. Otherwise a piece came; or the session is over because the source
-- said so, or because there was no memory for a piece, and then the source wasn't asked.
abbrev pub AsksToFill : Bool → Option (List Answer) → Option (List Answer) → Result (Unit {0}) SessionEnd → Type 0
AsksToFill true old new (Ok done) = Unasked old new
AsksToFill true old new (Err end) = ⊥
AsksToFill false old new (Ok done) = AsksOnce old new None
AsksToFill false old new (Err ends.Ended) = AsksOnce old new (Some ends.Ended)
AsksToFill false old new (Err ends.ReadFault) = AsksOnce old new (Some ends.ReadFault)
AsksToFill false old new (Err ends.Memory) = Unasked old new
AsksToFill false old new (Err end) = ⊥

-- In a step the source is asked once, unless whole units may be left, or there is no memory. Only what it answered says
-- that it is at its end, or that it failed.
abbrev pub AsksInStep : Bool → Option (List Answer) → Option (List Answer) → Result (Unit {0}) SessionEnd → Type 0
AsksInStep true old new (Ok done) = Unasked old new
AsksInStep true old new (Err end) = Unasked old new × IsBroken end
AsksInStep false old new (Ok done) = AsksOnce old new None
AsksInStep false old new (Err ends.Ended) = AsksOnce old new (Some ends.Ended)
AsksInStep false old new (Err ends.ReadFault) = AsksOnce old new (Some ends.ReadFault)
AsksInStep false old new (Err ends.Memory) = Unasked old new ⊎ AsksOnce old new None
AsksInStep false old new (Err ends.Shut) = AsksOnce old new None
AsksInStep false old new (Err end) = ⊥
