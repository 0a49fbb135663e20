use Rattle.std.proofs.Common.{◌+◌, ◌-◌, ◌++◌, ◌∙◌, List, sym, ap, arith, map, filter}
use Rattle.gm_admin.specs.declared.lines.WorkerRow.{WorkerRow}
use Rattle.gm_admin.specs.Views.{worker_of}
use Rattle.gm_notes.specs.Notes.{is_open, slots_from}
use Rattle.gm_plain.specs.Listings.{worker_line_of}
use Rattle.gm_plain.proofs.Counting.{row_here, row_not}
use Rattle.gm_plain.proofs.lists.worker_rows.Goals as goal
use Rattle.gm_plain.proofs.lists.worker_rows.Goals.{then-is_open+in_ok-worker_of+in_ok-push, else-is_open}

pub loop-slot-preserved : goal.loop-slot-preserved
loop-slot-preserved c =
    let below = c.loop-slot-test.true in
    let end = c.slots-slot-end.ensures.value in
    let left = c.args.config.now.slots - c.loop-slot.slot in
    let rest = c.args.config.now.slots - (c.loop-slot.slot + 1) in
    let others = map (worker_line_of c.args.log.now.notes) (filter (λ d. is_open d c.args.log.now.notes) (slots_from (c.loop-slot.slot + 1) rest)) in
    elim c.if-is_open.branch [
      | then-is_open+in_ok-worker_of+in_ok-push w ↦
          ap (λ (l : List WorkerRow). map worker_of l ++ others) (ap (λ v. v.items) w.rows-is ∙ w.in_ok-push.ensures.items)
          ∙ (row_here worker_of c.loop-slot.rows.items c.args.log.now.notes c.loop-slot.slot left rest w.in_ok-worker_of.field-0 (omega (arith, below, end)) (sym c.is_open.ensures.value ∙ w.if-is_open.true) w.in_ok-worker_of.ensures
          ∙ c.loop-slot.invariant)
      | else-is_open w ↦
          ap (λ (l : List WorkerRow). map worker_of l ++ others) (ap (λ v. v.items) w.rows-is)
          ∙ (row_not worker_of c.loop-slot.rows.items c.args.log.now.notes c.loop-slot.slot left rest (omega (arith, below, end)) (sym c.is_open.ensures.value ∙ w.if-is_open.false)
          ∙ c.loop-slot.invariant)
    ]
