use Rattle.std.proofs.Common.{◌≡◌, take, reverse}
use Rattle.gm_plain.specs.Searches.{is_listening}
use Rattle.gm_plain.proofs.jobs.is_listening.Given as goal

abbrev pub invariant-loop-note : goal.invariant-loop-note
invariant-loop-note l = l.is_listening ≡ is_listening l.job l.slot (reverse (take l.note-index l.notes))
