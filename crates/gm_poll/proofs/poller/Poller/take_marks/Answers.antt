use Rattle.std.proofs.Common.{◌∷◌, ◌∙◌, ◌*◌, ◌≡◌, length, suc, ap, sym, arith, add-one}
use Rattle.gm_poll.specs.Pollers.{marked}
use Rattle.gm_poll.proofs.poller.Poller.take_marks.Goals as goal

pub loop-at-preserved : goal.loop-at-preserved
loop-at-preserved c =
    let before = c.loop-at.invariant.0 in
    let bits = c.take_marks-marks.result.bits in
    let first : c.take_marks-marks.result.first ≡ length before * 64 = omega (arith, c.take_marks-marks.ensures, c.loop-at.invariant.1) in
    (bits ∷ before, ap suc c.loop-at.invariant.1 ∙ sym (add-one c.loop-at.at), c.call_marked.ensures ∙ ap (λ n. marked n bits 64 c.loop-at.self) first ∙ ap (marked (length before * 64) bits 64) c.loop-at.invariant.2)
