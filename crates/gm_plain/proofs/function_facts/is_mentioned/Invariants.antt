use Rattle.std.proofs.Common.{◌≡◌, false, take, reverse}
use Rattle.gm_notes.specs.Notes.{last_said}
use Rattle.gm_plain.specs.Searches.{says_mentioned}
use Rattle.gm_plain.proofs.function_facts.is_mentioned.Given as goal

abbrev pub invariant-loop-note : goal.invariant-loop-note
invariant-loop-note l = l.is_mentioned ≡ last_said (says_mentioned l.function) false (reverse (take l.note-index l.notes))
