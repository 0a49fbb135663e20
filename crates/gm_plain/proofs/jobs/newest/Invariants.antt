use Rattle.std.proofs.Common.{◌≡◌, take, reverse}
use Rattle.gm_notes.specs.Jobs.{made}
use Rattle.gm_notes.specs.Steps.{newest}
use Rattle.gm_plain.proofs.jobs.newest.Given as goal

abbrev pub invariant-loop-note : goal.invariant-loop-note
invariant-loop-note l = l.newest ≡ newest (made (reverse (take l.note-index l.notes)))
