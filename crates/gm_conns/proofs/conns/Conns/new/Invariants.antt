use Rattle.std.proofs.Common.{◌≡◌, ℕ, nat_lt, length}
use Rattle.gm_conns.specs.Slots.{has}
use Rattle.gm_conns.specs.Connections.{closed}
use Rattle.gm_conns.specs.ConnTables.{in_slot}
use Rattle.gm_conns.proofs.conns.Conns.new.Given as goal

abbrev pub invariant-loop-slot : goal.invariant-loop-slot
invariant-loop-slot l = record {
  long : length l.conns.items ≡ l.slot;
  shut : (c : ℕ) → in_slot l.conns.items c ≡ closed;
  frees : (c : ℕ) → has l.free c ≡ nat_lt c l.slot;
}
