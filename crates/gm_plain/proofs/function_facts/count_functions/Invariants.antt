use Rattle.std.proofs.Common.{◌≡◌, take, ◌≤◌, length}
use Rattle.std.specs.Prelude.{reverse}
use Rattle.gm_notes.specs.Jobs.{functions}
use Rattle.gm_plain.proofs.function_facts.count_functions.Given as goal

abbrev pub invariant-loop-note : goal.invariant-loop-note
invariant-loop-note l = (l.count ≡ length (functions (reverse (take l.note-index l.notes)))) × (l.count ≤ l.note-index)
