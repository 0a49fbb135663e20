use Rattle.std.proofs.Common.{◌≡◌, ◌≤◌, length, take, reverse}
use Rattle.gm_notes.specs.Jobs.{made}
use Rattle.gm_plain.proofs.jobs.count_made.Given as goal

abbrev pub invariant-loop-note : goal.invariant-loop-note
invariant-loop-note l = (l.count ≡ length (made (reverse (take l.note-index l.notes)))) × (l.count ≤ l.note-index)
