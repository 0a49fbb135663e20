use Rattle.std.proofs.Common.{◌≡◌, take, reverse}
use Rattle.gm_notes.specs.Notes.{moment}
use Rattle.gm_plain.proofs.connections.moment.Given as goal

abbrev pub invariant-loop-note : goal.invariant-loop-note
invariant-loop-note l = l.last ≡ moment (reverse (take l.note-index l.notes))
