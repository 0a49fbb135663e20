use Rattle.std.proofs.Common.{◌≡◌, take, reverse}
use Rattle.gm_notes.specs.Jobs.{as_they_came}
use Rattle.gm_plain.proofs.abilities.as_they_came.Given as goal

abbrev pub invariant-loop-note : goal.invariant-loop-note
invariant-loop-note l = l.jobs.items ≡ as_they_came (reverse (take l.note-index l.notes))
