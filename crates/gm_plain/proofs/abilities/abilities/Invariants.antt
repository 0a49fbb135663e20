use Rattle.std.proofs.Common.{◌≡◌, take, reverse, map}
use Rattle.gm_notes.specs.Jobs.{abilities}
use Rattle.gm_plain.specs.Searches.{ability_of}
use Rattle.gm_plain.proofs.abilities.abilities.Given as goal

abbrev pub invariant-loop-note : goal.invariant-loop-note
invariant-loop-note l = map ability_of l.abilities.items ≡ abilities l.slot (reverse (take l.note-index l.notes))
