use Rattle.std.proofs.Common.{◌≡◌, ◌-◌, ◌++◌, map, length}
use Rattle.gm_admin.specs.Views.{status_of}
use Rattle.gm_notes.specs.Notes.{slots_from}
use Rattle.gm_core.specs.Listings.{status_line_of, status_lines}
use Rattle.gm_core.proofs.server.lists.status_rows.Given as goal

abbrev pub invariant-loop-f : goal.invariant-loop-f
invariant-loop-f l =
    map status_of l.rows.items ++ map (status_line_of l.conns l.functions) (slots_from l.f (length l.functions.names - l.f)) ≡ status_lines l.conns l.functions
