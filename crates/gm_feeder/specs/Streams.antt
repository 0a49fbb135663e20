-- The calls of a feeder.
use Rattle.std.specs.Prelude.{◌≡◌, ℕ, List, [], ◌∷◌, ◌++◌, length, drop, Option, Some, None, Result, Ok, Err, IfSome}
use Rattle.std.specs.Io.KnownBytes.{Consumes, Appends}
use Rattle.gm_feeder.specs.declared.units.Limits.{Limits}
use Rattle.gm_feeder.specs.declared.units.FeedFault.{FeedFault}
use Rattle.gm_feeder.specs.declared.units.Unit.{Unit as Given}
use Rattle.gm_feeder.specs.declared.units.Unit.TheVariants.{Packet, Line}
use Rattle.gm_feeder.specs.declared.units.OwnedPacket.{OwnedPacket}
use Rattle.gm_feeder.specs.Units.{Item, APacket, ALine, IsUnitThen, IsFaultOf, Waits}

-- a feeder as its callers see it: the bytes that came and were not yet given out, and the fault that it has returned
pub record Stream : Type 0 where
  pub limits : Limits
  pub pending : List ℕ
  pub fault : Option FeedFault

-- the contents of a unit, wherever its bytes lie
abbrev pub item_of : Given → Item
item_of (Packet kind bytes) = APacket kind bytes.now
item_of (Line bytes) = ALine bytes.now

-- the same of a packet with the memory in which it came
abbrev pub item_in : OwnedPacket → Item
item_in packet = APacket packet.kind (drop packet.data_at packet.bytes.items)

-- the stream with a piece more
abbrev pub with_bytes : Stream → List ℕ → Stream
with_bytes stream piece = record stream { pending = stream.pending ++ piece }

-- these bytes of the input, as many as the count, came after the pending ones, and just these were heard
pub record TakesIn (input rest heard after : Option (List ℕ)) (old new : Stream) (count : ℕ) : Type 0 where
  pub piece : List ℕ
  pub consumes : Consumes input rest piece
  pub hears : Appends heard after piece
  pub len : length piece ≡ count
  pub kept : new ≡ with_bytes old piece

-- the stream without its first `len` bytes
abbrev pub without_first : ℕ → Stream → Stream
without_first len stream = record stream { pending = drop len stream.pending }

-- the stream on which this fault was returned
abbrev pub with_fault : Stream → FeedFault → Stream
with_fault stream fault = record stream { fault = Some fault }

-- The bytes began with a unit that says this, and what came after it is left.
pub record GivesUnit (old : Stream) (item : Item) (new : Stream) : Type 0 where
  pub running : old.fault ≡ None
  pub unit : IsUnitThen old.limits old.pending item new.pending
  pub kept : new ≡ record old { pending = new.pending }

-- More bytes are needed, and nothing changes.
pub record GivesNone (old new : Stream) : Type 0 where
  pub running : old.fault ≡ None
  pub waits : Waits old.limits old.pending
  pub kept : new ≡ old

-- The rest has this fault, and from then on it is returned.
pub record GivesFault (old : Stream) (fault : FeedFault) (new : Stream) : Type 0 where
  pub standing : IfSome old.fault (λ before. before ≡ fault)
  pub stands : IsFaultOf old.limits old.pending fault
  pub kept : new ≡ with_fault old fault

-- the next unit, and the rest
abbrev pub GivesNext : Stream → Result (Option Given) FeedFault → Stream → Type 0
GivesNext old (Ok (Some unit)) new = GivesUnit old (item_of unit) new
GivesNext old (Ok None) new = GivesNone old new
GivesNext old (Err fault) new = GivesFault old fault new

-- an event of a feeder: a piece is fed, or a unit with these contents is given
pub data Event : Type 0 where
  Fed : List ℕ → Event
  Gave : Item → Event

-- these events, in this order, lead from old to new
abbrev pub Runs : Stream → List Event → Stream → Type 0
Runs old [] new = new ≡ old
Runs old (Fed piece ∷ events) new = Runs (with_bytes old piece) events new
Runs old (Gave item ∷ events) new = (mid : Stream) × GivesUnit old item mid × Runs mid events new

-- the pieces fed, joined
abbrev pub all_fed : List Event → List ℕ
all_fed [] = []
all_fed (Fed piece ∷ events) = piece ++ all_fed events
all_fed (Gave item ∷ events) = all_fed events

-- the contents of the units given
abbrev pub all_given : List Event → List Item
all_given [] = []
all_given (Fed piece ∷ events) = all_given events
all_given (Gave item ∷ events) = item ∷ all_given events
