use Rattle.std.proofs.Common.{bit_and, sym, ap, ◌∙◌, arith}
use Rattle.std.proofs.Common.{◌+◌}
use Rattle.gm_poll.specs.Pollers.{called}
use Rattle.gm_poll.proofs.HeedLemmas.{one_bit, marked_none, none_marked, set_marked, clear_marked, called_within}
use Rattle.gm_poll.proofs.poller.Poller.call_marked.Goals as goal
use Rattle.gm_poll.proofs.poller.Poller.call_marked.Goals.{then-bits-bit-ne0, else-bits-bit-ne0}

pub returns-then-bits-eq0 : goal.returns-then-bits-eq0
returns-then-bits-eq0 c = rw c.if-bits-eq0.true (sym (none_marked c.args.marks.first 64 c.args.self.now))

pub loop-bit-init : goal.loop-bit-init
loop-bit-init c = marked_none c.args.marks.first c.args.marks.bits c.args.self.now

pub loop-bit-preserved : goal.loop-bit-preserved
loop-bit-preserved c =
    let first = c.args.marks.first in
    let bits = c.args.marks.bits in
    let bit = c.loop-bit.bit in
    let old = c.args.self.now in
    let one = ap (bit_and bits) (sym (one_bit bit c.loop-bit-test.true)) in
    elim c.if-bits-bit-ne0.branch [
      | then-bits-bit-ne0 w ↦
          let at = w.saturating_add.result in
          let same = called_within at (first + bit) c.loop-bit.self w.call.ensures.fits (omega arith) in
          w.self-is ∙ w.call.ensures.called ∙ same ∙ ap (called (first + bit)) c.loop-bit.invariant ∙ set_marked first bits bit old (λ clear. w.if-bits-bit-ne0.true (sym one ∙ clear))
      | else-bits-bit-ne0 w ↦ w.self-is ∙ c.loop-bit.invariant ∙ clear_marked first bits bit old (one ∙ w.if-bits-bit-ne0.false)
    ]
