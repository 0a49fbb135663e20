use Rattle.std.proofs.Common.{◌≡◌, map, ◌++◌, ◌∷◌}
use Rattle.gm_shared.specs.declared.tape.Actor.TheVariants as actors
use Rattle.gm_shared.specs.Shared.{numbers_below}
use Rattle.gm_slots.proofs.ending.everybody.Given as goal

abbrev pub invariant-loop-number : goal.invariant-loop-number
invariant-loop-number l = l.actors.items ≡ map actors.Desk (numbers_below l.number)

abbrev pub invariant-loop-slot : goal.invariant-loop-slot
invariant-loop-slot l = l.actors.items ≡ map actors.Desk (numbers_below l.slots) ++ (actors.Desk l.slots ∷ map actors.Pen (numbers_below l.slot))
