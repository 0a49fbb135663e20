use Rattle.std.proofs.Common.{◌≡◌, length, reverse}
use Rattle.gm_notes.specs.Jobs.{last_function}
use Rattle.gm_plain.proofs.abilities.last_function.Given as goal

abbrev pub invariant-loop-note : goal.invariant-loop-note
invariant-loop-note l = last_function l.slot (reverse l.notes) ≡ last_function l.slot l.log.notes

abbrev pub decreases-loop-note : goal.decreases-loop-note
decreases-loop-note l = length l.notes
