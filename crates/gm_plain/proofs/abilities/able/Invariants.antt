use Rattle.std.proofs.Common.{◌≡◌, ◌+◌, ◌-◌, ◌≤◌, filter, length}
use Rattle.std.specs.Prelude.{◌&&◌}
use Rattle.gm_notes.specs.Notes.{is_open, slots_from}
use Rattle.gm_notes.specs.Jobs.{is_able, able}
use Rattle.gm_plain.proofs.abilities.able.Given as goal

abbrev pub invariant-loop-slot : goal.invariant-loop-slot
invariant-loop-slot l =
    (l.count + length (filter (λ c. is_open c l.log.notes && is_able c l.function l.log.notes) (slots_from l.slot (l.config.slots - l.slot))) ≡ able l.config l.function l.log.notes)
    × (l.count ≤ l.slot)
