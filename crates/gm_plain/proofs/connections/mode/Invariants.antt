use Rattle.std.proofs.Common.{◌≡◌, take, reverse}
use Rattle.gm_notes.specs.Notes.{mode}
use Rattle.gm_plain.proofs.connections.mode.Given as goal

abbrev pub invariant-loop-note : goal.invariant-loop-note
invariant-loop-note l = l.last ≡ mode (reverse (take l.note-index l.notes))
