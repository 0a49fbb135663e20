use Rattle.std.proofs.Common.{◌≡◌, drop, find}
use Rattle.gm_notes.specs.Jobs.{is_queued}
use Rattle.gm_plain.proofs.abilities.first_in.Given as goal

abbrev pub invariant-loop-job : goal.invariant-loop-job
invariant-loop-job l = find (is_queued l.function l.priority l.log.notes) l.jobs ≡ find (is_queued l.function l.priority l.log.notes) (drop l.job-index l.jobs)
