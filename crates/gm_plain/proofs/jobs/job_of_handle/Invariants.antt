use Rattle.std.proofs.Common.{◌≡◌, find, take, reverse}
use Rattle.std.specs.Prelude.{◌==◌}
use Rattle.gm_notes.specs.Jobs.{made}
use Rattle.gm_plain.proofs.jobs.job_of_handle.Given as goal

abbrev pub invariant-loop-note : goal.invariant-loop-note
invariant-loop-note l = l.found ≡ find (λ m. m == l.number) (made (reverse (take l.note-index l.notes)))
