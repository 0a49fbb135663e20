use Rattle.std.proofs.Common.{take, reverse}
use Rattle.gm_plain.specs.Searches.{Sees}
use Rattle.gm_plain.proofs.connections.seen.Given as goal

abbrev pub invariant-loop-note : goal.invariant-loop-note
invariant-loop-note l = Sees l.slot (reverse (take l.note-index l.notes)) l.facts
