use Rattle.std.proofs.Common.{◌≡◌, ◌-◌, ◌++◌, filter, map}
use Rattle.gm_admin.specs.Views.{worker_of}
use Rattle.gm_notes.specs.Notes.{is_open, slots_from}
use Rattle.gm_notes.specs.Lines.{worker_rows}
use Rattle.gm_plain.specs.Listings.{worker_line_of}
use Rattle.gm_plain.proofs.lists.worker_rows.Given as goal

abbrev pub invariant-loop-slot : goal.invariant-loop-slot
invariant-loop-slot l =
    map worker_of l.rows.items ++ map (worker_line_of l.log.notes) (filter (λ c. is_open c l.log.notes) (slots_from l.slot (l.config.slots - l.slot))) ≡ worker_rows l.config l.log.notes
