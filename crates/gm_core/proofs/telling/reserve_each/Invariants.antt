use Rattle.std.proofs.Common.{◌≤◌, ◌+◌, ℕ, take, filter}
use Rattle.gm_conns.specs.ConnTables.{conn}
use Rattle.gm_core.specs.Telling.{hears, needed, Roomed}
use Rattle.gm_core.proofs.telling.reserve_each.Given as goal

abbrev pub invariant-loop-slot : goal.invariant-loop-slot
invariant-loop-slot l = record {
  roomed : Roomed l.fn.conns l.conns;
  room : (c : ℕ) → (conn l.fn.conns c).room + needed l.count c (filter (hears l.fn.conns l.exceptions_only) (take l.slot-index l.slots)) ≤ (conn l.conns c).room;
}
