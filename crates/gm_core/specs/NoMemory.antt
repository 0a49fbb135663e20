-- Events for which a core needs no memory.
use Rattle.std.specs.Prelude.{max}
use Rattle.gm_notes.specs.declared.event.Event.{Event}
use Rattle.gm_notes.specs.declared.event.Event.TheVariants as events
use Rattle.gm_jobs.specs.Live.{is_due}
use Rattle.gm_jobs.specs.Tables.{IsLast}
use Rattle.gm_actions.specs.Actions as actions
use Rattle.gm_core.specs.declared.server.Tables.{Tables}

-- a packet of RESET_ABILITIES or PRE_SLEEP, a closing, and a tick that reaches no deadline
abbrev pub NeedsNoMemory : Tables → Event → Type 0
NeedsNoMemory core (events.Packet slot number bytes) = actions.NeedsNoMemory number bytes.bytes.now
NeedsNoMemory core (events.Close slot) = Unit {0}
NeedsNoMemory core (events.Tick now) = IsLast (is_due (max now core.moment)) 0 core.jobs.live
NeedsNoMemory core event = ⊥
