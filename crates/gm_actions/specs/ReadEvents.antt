-- Facts of an event whose packet was read.
use Rattle.std.specs.Prelude.{◌≡◌, ℕ, ◌≤◌, Bool, true, false, List, length, Result, Ok, IfOk}
use Rattle.gm_packet.specs.Kinds.{kind_of}
use Rattle.gm_packet.specs.Requests.{request_of}
use Rattle.gm_notes.specs.declared.event.Event.{Event}
use Rattle.gm_notes.specs.declared.event.Event.TheVariants as events
use Rattle.gm_notes.specs.Settings.{Settings}
use Rattle.gm_notes.specs.Past.{Past}
use Rattle.gm_notes.specs.Requests.{packet_of}
use Rattle.gm_notes.specs.Withdrawals.{asks_a_job}
use Rattle.gm_actions.specs.declared.actions.Action.{Action}
use Rattle.gm_actions.specs.declared.actions.Action.TheVariants.{Grab}
use Rattle.gm_actions.specs.declared.refusal.Refusal.{Refusal}
use Rattle.gm_actions.specs.Actions.{acted, HasGoodNames, CanBeTold, NeedsNoMemory, ActsWithoutMemory}

-- the packet asks for a job
abbrev pub grabs : Result Action Refusal → Bool
grabs (Ok (Grab with_unique)) = true
grabs other = false

-- a packet of this kind, with these data, asks this, or is refused for this
pub record ReadsPacket (kind : ℕ) (bytes : List ℕ) (action : Result Action Refusal) : Type 0 where
  pub does : (k : Settings) (c : ℕ) (past : Past) → acted k c action past ≡ packet_of k c (kind_of kind) bytes past
  pub named : IfOk action HasGoodNames
  pub told : length bytes ≤ 1073741824 → IfOk action CanBeTold
  pub memory : NeedsNoMemory kind bytes → ActsWithoutMemory action
  pub grab : grabs action ≡ asks_a_job (request_of kind bytes)

-- an event's packet asks this; of other events nothing is known
abbrev pub ReadsEvent : Event → Result Action Refusal → Type 0
ReadsEvent (events.Packet slot kind bytes) action = ReadsPacket kind bytes.bytes.now action
ReadsEvent other action = Unit {0}
