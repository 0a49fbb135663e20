use Rattle.std.proofs.Common.{drop-cons, ap, ◌∙◌}
use Rattle.std.proofs.Math.Numerals.{add-one}
use Rattle.gm_plain.specs.Outboxes.{with_bytes_each}
use Rattle.gm_plain.proofs.outboxes.Outboxes.give_all.Goals as goal

pub loop-slot-preserved : goal.loop-slot-preserved
loop-slot-preserved c =
    let so_far = c.loop-slot.invariant in
    record {
      bytes = rw (add-one, c.in_ok-give.ensures.ok) (so_far.bytes ∙ ap (λ l. with_bytes_each c.args.text.now l c.loop-slot.copy) (drop-cons c.args.slots.now c.loop-slot.slot-index 0 c.loop-slot-test.true));
      len = c.give.ensures.len ∙ so_far.len;
    }
