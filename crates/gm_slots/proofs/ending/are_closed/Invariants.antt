use Rattle.std.proofs.Common.{◌≡◌, ℕ, ◌<◌, false}
use Rattle.gm_conns.specs.ConnTables.{conn}
use Rattle.gm_slots.proofs.ending.are_closed.Given as goal

abbrev pub invariant-loop-slot : goal.invariant-loop-slot
invariant-loop-slot l = (c : ℕ) → c < l.slot → (conn l.conns c).is_open ≡ false
