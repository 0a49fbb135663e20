use Rattle.std.proofs.Common.{◌≡◌, ◌-◌}
use Rattle.gm_notes.specs.Steps.{free_from}
use Rattle.gm_plain.proofs.connections.free_slot.Given as goal

abbrev pub invariant-loop-slot : goal.invariant-loop-slot
invariant-loop-slot l = free_from 0 l.slots l.log.notes ≡ free_from l.slot (l.slots - l.slot) l.log.notes
