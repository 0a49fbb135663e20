use Rattle.std.proofs.Common.{◌≤◌, take, reverse}
use Rattle.gm_plain.specs.Searches.{Knows}
use Rattle.gm_plain.proofs.jobs.known_in.Given as goal

abbrev pub invariant-loop-note : goal.invariant-loop-note
invariant-loop-note l = Knows l.job (reverse (take l.note-index l.notes)) l.facts × (l.facts.returns ≤ l.note-index)
