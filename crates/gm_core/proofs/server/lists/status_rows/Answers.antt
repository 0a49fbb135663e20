use Rattle.std.proofs.Common.{◌+◌, ◌-◌, ◌++◌, ◌∙◌, List, ap, arith, map, length}
use Rattle.gm_admin.specs.declared.lines.StatusRow.{StatusRow}
use Rattle.gm_admin.specs.Views.{status_of}
use Rattle.gm_notes.specs.Notes.{slots_from}
use Rattle.gm_core.specs.Listings.{status_line_of}
use Rattle.gm_core.proofs.ListLemmas.{row_next}
use Rattle.gm_core.proofs.server.lists.status_rows.Goals as goal

pub loop-f-preserved : goal.loop-f-preserved
loop-f-preserved c =
    let below = c.loop-f-test.true in
    let end = c.len-f-end.ensures.value in
    let line = status_line_of c.args.conns.now c.args.functions.now in
    let left = length c.args.functions.now.names - c.loop-f.f in
    let rest = length c.args.functions.now.names - (c.loop-f.f + 1) in
    ap (λ (l : List StatusRow). map status_of l ++ map line (slots_from (c.loop-f.f + 1) rest)) c.in_ok-push.ensures.items
    ∙ (row_next status_of line c.loop-f.rows.items c.loop-f.f left rest c.status_row.result (omega (arith, below, end)) c.status_row.ensures
    ∙ c.loop-f.invariant)
