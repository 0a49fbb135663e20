use Rattle.std.proofs.Common.{◌≡◌, find, take, reverse}
use Rattle.gm_notes.specs.Jobs.{made, is_live_named}
use Rattle.gm_plain.proofs.jobs.joined.Given as goal

abbrev pub invariant-loop-note : goal.invariant-loop-note
invariant-loop-note l = l.found ≡ find (is_live_named l.function l.unique l.log.notes) (made (reverse (take l.note-index l.notes)))
