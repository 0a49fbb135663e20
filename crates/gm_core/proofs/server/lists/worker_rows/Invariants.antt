use Rattle.std.proofs.Common.{◌≡◌, ◌-◌, ◌++◌, map, filter, length}
use Rattle.gm_admin.specs.Views.{worker_of}
use Rattle.gm_notes.specs.Notes.{slots_from}
use Rattle.gm_conns.specs.ConnTables.{conn}
use Rattle.gm_core.specs.Listings.{worker_line_of, worker_lines}
use Rattle.gm_core.proofs.server.lists.worker_rows.Given as goal

abbrev pub invariant-loop-slot : goal.invariant-loop-slot
invariant-loop-slot l =
    map worker_of l.rows.items ++ map (worker_line_of l.conns l.functions) (filter (λ c. (conn l.conns c).is_open) (slots_from l.slot (length l.conns.conns - l.slot)))
    ≡ worker_lines l.conns l.functions
