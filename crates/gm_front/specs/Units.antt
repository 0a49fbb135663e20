-- The units of a slot's bytes: units, and the fault after them.
use Rattle.std.specs.Prelude.{◌≡◌, ◌⊎◌, ℕ, List, [], ◌∷◌, ◌++◌, map, Option, Some, None}
use Rattle.gm_feeder.specs.declared.units.Limits.{Limits}
use Rattle.gm_feeder.specs.declared.units.FeedFault.{FeedFault}
use Rattle.gm_feeder.specs.declared.units.FeedFault.TheVariants as feeds
use Rattle.gm_feeder.specs.Units.{Item, APacket, ALine, IsUnitThen, IsFaultOf, Waits}
use Rattle.gm_feeder.specs.Streams.{Stream, GivesUnit, GivesNone, GivesFault}
use Rattle.gm_notes.specs.declared.event.UnitFault.{UnitFault}
use Rattle.gm_notes.specs.declared.event.UnitFault.TheVariants as faults
use Rattle.gm_notes.specs.Settings.{Settings}
use Rattle.gm_notes.specs.Steps.{Step, Packet, Line, Fault}
use Rattle.gm_notes.specs.Servers.{step_of, IsSized}
use Rattle.gm_front.specs.Readings.{packet_read}
use Rattle.gm_front.specs.declared.units.Next.{Next}
use Rattle.gm_front.specs.declared.units.Next.TheVariants as nexts

-- the step that a unit of slot c says, before the server reads it
abbrev pub step_said : ℕ → Item → Step
step_said c (APacket kind bytes) = Packet c kind bytes
step_said c (ALine bytes) = Line c bytes

-- the step that a unit of slot c is, as the server reads it
abbrev pub step_of_unit : Settings → ℕ → Item → Step
step_of_unit k c (APacket kind bytes) = Packet c (packet_read k.as_gearmand kind bytes).0 (packet_read k.as_gearmand kind bytes).1
step_of_unit k c (ALine bytes) = Line c bytes

-- the step that a fault of slot c is, if there is one
abbrev pub fault_steps : ℕ → Option UnitFault → List Step
fault_steps c None = []
fault_steps c (Some fault) = Fault c fault ∷ []

-- the steps that these units of slot c are, and the fault after them
abbrev pub steps_of : Settings → ℕ → List Item → Option UnitFault → List Step
steps_of k c items fault = map (step_of_unit k c) items ++ fault_steps c fault

-- the fault of a feeder as the server's; Memory is none
abbrev pub unit_fault : FeedFault → Option UnitFault
unit_fault feeds.BadMagic = Some faults.BadMagic
unit_fault feeds.PacketTooLarge = Some faults.PacketTooLarge
unit_fault feeds.LineTooLong = Some faults.LineTooLong
unit_fault feeds.Memory = None

-- there is a fault at the rest of a stream, and this is its name for the server
pub record IsFaultAt (limits : Limits) (rest : List ℕ) (fault : UnitFault) : Type 0 where
  pub fed : FeedFault
  pub named : unit_fault fed ≡ Some fault
  pub stands : IsFaultOf limits rest fed

-- the state at the rest of a stream: this fault, or none, and more bytes are waited for
abbrev pub Stands : Limits → List ℕ → Option UnitFault → Type 0
Stands limits rest None = Waits limits rest
Stands limits rest (Some fault) = IsFaultAt limits rest fault

-- these units are at the head of the bytes, one after another, and then comes this rest
abbrev pub BeginsWith : Limits → List ℕ → List Item → List ℕ → Type 0
BeginsWith limits bytes [] rest = bytes ≡ rest
BeginsWith limits bytes (item ∷ items) rest = (after : List ℕ) × IsUnitThen limits bytes item after × BeginsWith limits after items rest

-- a unit is at the head of this rest, or a fault
abbrev pub ComesNext : Limits → List ℕ → Type 0
ComesNext limits rest = ((item : Item) × (after : List ℕ) × IsUnitThen limits rest item after) ⊎ ((fault : UnitFault) × IsFaultAt limits rest fault)

-- ---- the next event

-- an event that is handed in is no larger than a packet may be
abbrev pub IsSizedNext : Next → Type 0
IsSizedNext (nexts.Unit event) = IsSized event
IsSizedNext nexts.Wait = Unit {0}
IsSizedNext (nexts.Fault fault) = Unit {0}

-- the feeder gave a unit, and this event of slot c says it, before the server reads it
pub record GivesEvent (c : ℕ) (old : Stream) (s : Step) (new : Stream) : Type 0 where
  pub item : Item
  pub is_step : s ≡ step_said c item
  pub gives : GivesUnit old item new

-- the feeder answers a fault, and this is its name for the server
pub record GivesFaultAs (old : Stream) (fault : UnitFault) (new : Stream) : Type 0 where
  pub fed : FeedFault
  pub named : unit_fault fed ≡ Some fault
  pub gives : GivesFault old fed new

-- the next unit or fault, and the rest of the stream
abbrev pub GivesNext : ℕ → Stream → Next → Stream → Type 0
GivesNext c old (nexts.Unit event) new = GivesEvent c old (step_of event) new
GivesNext c old nexts.Wait new = GivesNone old new
GivesNext c old (nexts.Fault fault) new = GivesFaultAs old fault new
