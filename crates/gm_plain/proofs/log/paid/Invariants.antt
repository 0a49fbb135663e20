use Rattle.std.proofs.Common.{◌≡◌, take, reverse}
use Rattle.gm_plain.specs.Logs.{paid}
use Rattle.gm_plain.proofs.log.paid.Given as goal

abbrev pub invariant-loop-note : goal.invariant-loop-note
invariant-loop-note l = l.count ≡ paid (reverse (take l.note-index l.notes))
