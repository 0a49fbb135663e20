use Rattle.std.proofs.Common.{◌≡◌, ◌<◌, true, false, sym, subst, ◌∙◌, arith}
use Rattle.gm_slots.proofs.ending.are_closed.Goals as goal

pub returns-then-is_open : goal.returns-then-is_open
returns-then-is_open c = λ k steps sized agrees closed.
    let slot = c.loop-slot.slot in
    let less : slot < k.slots = subst (λ n. slot < n) (sym sized) c.loop-slot-test.true in
    let wrong : true ≡ false = sym c.if-is_open.true ∙ (c.is_open.ensures.value ∙ ((c.parts.ensures.held k steps agrees).conns.opens slot ∙ closed slot less)) in
    absurd cc

pub returns : goal.returns
returns c = λ k steps sized agrees x less.
    let before : x < c.loop-slot.slot = let end = c.loop-slot-test.false in omega (arith, less, sized, end) in
    sym ((c.parts.ensures.held k steps agrees).conns.opens x) ∙ c.loop-slot.invariant x before
