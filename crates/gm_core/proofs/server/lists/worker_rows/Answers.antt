use Rattle.std.proofs.Common.{◌+◌, ◌-◌, ◌++◌, ◌∙◌, List, sym, ap, arith, map, filter, length}
use Rattle.gm_admin.specs.declared.lines.WorkerRow.{WorkerRow}
use Rattle.gm_admin.specs.Views.{worker_of}
use Rattle.gm_notes.specs.Notes.{slots_from}
use Rattle.gm_conns.specs.ConnTables.{conn}
use Rattle.gm_core.specs.Listings.{worker_line_of}
use Rattle.gm_core.proofs.ListLemmas.{row_here, row_not}
use Rattle.gm_core.proofs.server.lists.worker_rows.Goals as goal
use Rattle.gm_core.proofs.server.lists.worker_rows.Goals.{then-is_open+in_ok-worker_row+in_ok-push, else-is_open}

pub loop-slot-preserved : goal.loop-slot-preserved
loop-slot-preserved c =
    let below = c.loop-slot-test.true in
    let end = c.slots-slot-end.ensures.value in
    let table = c.args.conns.now in
    let line = worker_line_of table c.args.functions.now in
    let left = length table.conns - c.loop-slot.slot in
    let rest = length table.conns - (c.loop-slot.slot + 1) in
    let others = map line (filter (λ d. (conn table d).is_open) (slots_from (c.loop-slot.slot + 1) rest)) in
    elim c.if-is_open.branch [
      | then-is_open+in_ok-worker_row+in_ok-push w ↦
          ap (λ (l : List WorkerRow). map worker_of l ++ others) (ap (λ v. v.items) w.rows-is ∙ w.in_ok-push.ensures.items)
          ∙ (row_here worker_of line c.loop-slot.rows.items c.loop-slot.slot left (λ d. (conn table d).is_open) rest w.in_ok-worker_row.field-0 (omega (arith, below, end))
          (sym c.is_open.ensures.value ∙ w.if-is_open.true) w.in_ok-worker_row.ensures
          ∙ c.loop-slot.invariant)
      | else-is_open w ↦
          ap (λ (l : List WorkerRow). map worker_of l ++ others) (ap (λ v. v.items) w.rows-is)
          ∙ (row_not worker_of line c.loop-slot.rows.items c.loop-slot.slot left (λ d. (conn table d).is_open) rest (omega (arith, below, end)) (sym c.is_open.ensures.value ∙ w.if-is_open.false)
          ∙ c.loop-slot.invariant)
    ]
