use Rattle.std.proofs.Common.{◌≡◌, take, reverse}
use Rattle.gm_notes.specs.Jobs.{limit}
use Rattle.gm_plain.proofs.function_facts.limit.Given as goal

abbrev pub invariant-loop-note : goal.invariant-loop-note
invariant-loop-note l = l.limit ≡ limit l.function (reverse (take l.note-index l.notes))
