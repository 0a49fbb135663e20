use Rattle.std.proofs.Common.{◌≡◌, ◌≤◌, length, filter, take, reverse}
use Rattle.gm_notes.specs.Jobs.{made}
use Rattle.gm_plain.specs.Searches.{is_counted}
use Rattle.gm_plain.proofs.function_facts.count_jobs.Given as goal

abbrev pub invariant-loop-note : goal.invariant-loop-note
invariant-loop-note l =
    (l.count ≡ length (filter (is_counted l.only_running l.function l.log.notes) (made (reverse (take l.note-index l.notes))))) × (l.count ≤ l.note-index)
