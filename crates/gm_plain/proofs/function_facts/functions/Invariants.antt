use Rattle.std.proofs.Common.{◌≡◌, take, reverse, map}
use Rattle.gm_notes.specs.Jobs.{functions}
use Rattle.gm_plain.proofs.function_facts.functions.Given as goal

abbrev pub invariant-loop-note : goal.invariant-loop-note
invariant-loop-note l = map (λ name. name.now) l.functions.items ≡ functions (reverse (take l.note-index l.notes))
