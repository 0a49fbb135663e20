use Rattle.std.proofs.Common.{arith, ◌∙◌, ◌-◌, sym, ◌+◌, ap}
use Rattle.gm_notes.specs.Steps.{free_from}
use Rattle.gm_plain.proofs.NoteLemmas.{free_here, free_later}
use Rattle.gm_plain.proofs.connections.free_slot.Goals as goal

pub returns-then-not-is_open : goal.returns-then-not-is_open
returns-then-not-is_open c =
    sym (ap (λ n. free_from 0 n c.args.log.now.notes) (sym c.slots-slots.ensures.value) ∙ c.loop-slot.invariant
    ∙ free_here c.loop-slot.slot (c.slots-slots.result - c.loop-slot.slot) _ (omega arith) (sym c.is_open.ensures.value ∙ c.if-not-is_open.true))

pub loop-slot-preserved : goal.loop-slot-preserved
loop-slot-preserved c =
    c.loop-slot.invariant ∙ free_later c.loop-slot.slot (c.slots-slots.result - c.loop-slot.slot) (c.slots-slots.result - (c.loop-slot.slot + 1)) _ (omega arith) (sym c.is_open.ensures.value ∙ c.if-not-is_open.false)
