use Rattle.std.proofs.Common.{◌≡◌, false, take, reverse}
use Rattle.gm_notes.specs.Notes.{last_said}
use Rattle.gm_plain.specs.Searches.{says_able}
use Rattle.gm_plain.proofs.abilities.is_able.Given as goal

abbrev pub invariant-loop-note : goal.invariant-loop-note
invariant-loop-note l = l.is_able ≡ last_said (says_able l.slot l.function) false (reverse (take l.note-index l.notes))
