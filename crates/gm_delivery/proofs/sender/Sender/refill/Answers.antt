use Rattle.std.proofs.Common.{ap, ◌∙◌}
use Rattle.gm_delivery.specs.Sendings.{is_clear}
use Rattle.gm_delivery.proofs.Accounting.{refill_gives, refill_elsewhere, refill_none}
use Rattle.gm_delivery.proofs.sender.Sender.refill.Goals as goal

pub invariant_of-self-then-drained-self : goal.invariant_of-self-then-drained-self
invariant_of-self-then-drained-self g c =
    let t = c.take-took.ensures in
    let d = c.drain-drained.ensures in
    refill_gives (λ p. p.slot) (λ p. p.seat.takes) (λ p. p.seat.tries) (λ p. p.witness.seen) c.self.inside.pen c.take-took.new.self c.drain-drained.new.self t.slot (ap (λ w. w.seen) t.witness)
    d.slot (ap (λ s. s.takes) d.seat) c.take-took.result t.takes _ _ _ _ _ _ c.in-Some.is (ap is_clear c.self.view_is ∙ c.requires) c.self.invariant _ _
    c.in-Ok.drained c.if-drained-self.true c.in-Ok.ensures.called _ c.new.ensures

pub invariant_of-self-in-Ok-2 : goal.invariant_of-self-in-Ok-2
invariant_of-self-in-Ok-2 g c =
    let t = c.take-took.ensures in
    let d = c.drain-drained.ensures in
    refill_elsewhere (λ p. p.slot) (λ p. p.seat.takes) (λ p. p.seat.tries) (λ p. p.witness.seen) c.self.inside.pen c.take-took.new.self c.drain-drained.new.self t.slot (ap (λ w. w.seen) t.witness)
    d.slot (ap (λ s. s.takes) d.seat) c.take-took.result t.takes _ _ _ _ _ _ c.in-Some.is (ap is_clear c.self.view_is ∙ c.requires) c.self.invariant _ _
    c.in-Ok.drained c.if-drained-self.false c.in-Ok.ensures.called _ c.cut.ensures

pub invariant_of-self-in-Err : goal.invariant_of-self-in-Err
invariant_of-self-in-Err g c =
    let t = c.take-took.ensures in
    let d = c.drain-drained.ensures in
    refill_none (λ p. p.slot) (λ p. p.seat.takes) (λ p. p.seat.tries) (λ p. p.witness.seen) c.self.inside.pen c.take-took.new.self c.drain-drained.new.self t.slot (ap (λ w. w.seen) t.witness)
    d.slot (ap (λ s. s.takes) d.seat) c.take-took.result t.takes _ _ _ _ _ _ c.in-Some.is (ap is_clear c.self.view_is ∙ c.requires) c.self.invariant _ _
    c.in-Err.field-0 c.in-Err.ensures.called _ c.cut-in-Err.ensures
