use Rattle.std.proofs.Common.{◌≡◌, take}
use Rattle.std.specs.Prelude.{reverse}
use Rattle.gm_notes.specs.Jobs.{listeners}
use Rattle.gm_plain.proofs.jobs.listeners.Given as goal

abbrev pub invariant-loop-note : goal.invariant-loop-note
invariant-loop-note l = l.slots.items ≡ listeners l.job (reverse (take l.note-index l.notes))
