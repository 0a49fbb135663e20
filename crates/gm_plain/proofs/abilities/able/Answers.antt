use Rattle.std.proofs.Common.{◌+◌, ◌-◌, ◌∙◌, sym, ap, arith, length, filter}
use Rattle.std.specs.Prelude.{◌&&◌}
use Rattle.gm_notes.specs.Notes.{is_open, slots_from}
use Rattle.gm_notes.specs.Jobs.{is_able}
use Rattle.gm_plain.proofs.Counting.{counted_here, counted_not}
use Rattle.gm_plain.proofs.abilities.able.Goals as goal
use Rattle.gm_plain.proofs.abilities.able.Goals.{then-is_worker, else-is_worker}

pub loop-slot-preserved : goal.loop-slot-preserved
loop-slot-preserved c =
    let below = c.loop-slot-test.true in
    let end = c.slots-slot-end.ensures.value in
    let left = c.args.config.now.slots - c.loop-slot.slot in
    let rest = c.args.config.now.slots - (c.loop-slot.slot + 1) in
    elim c.if-is_worker.branch [
      | then-is_worker w ↦ (
        ap (λ n. n + length (filter (λ d. is_open d c.args.log.now.notes && is_able d c.args.function.now c.args.log.now.notes) (slots_from (c.loop-slot.slot + 1) rest))) w.count-is
            ∙ (counted_here (λ d. is_open d c.args.log.now.notes && is_able d c.args.function.now c.args.log.now.notes) c.loop-slot.slot left rest c.loop-slot.count (omega (arith, below, end)) (sym c.is_worker.ensures ∙ w.if-is_worker.true)
            ∙ c.loop-slot.invariant.0),
        omega (arith, w.count-is, c.loop-slot.invariant.1),
      )
      | else-is_worker w ↦ (
        ap (λ n. n + length (filter (λ d. is_open d c.args.log.now.notes && is_able d c.args.function.now c.args.log.now.notes) (slots_from (c.loop-slot.slot + 1) rest))) w.count-is
            ∙ (counted_not (λ d. is_open d c.args.log.now.notes && is_able d c.args.function.now c.args.log.now.notes) c.loop-slot.slot left rest c.loop-slot.count (omega (arith, below, end)) (sym c.is_worker.ensures ∙ w.if-is_worker.false)
            ∙ c.loop-slot.invariant.0),
        omega (arith, w.count-is, c.loop-slot.invariant.1),
      )
    ]
