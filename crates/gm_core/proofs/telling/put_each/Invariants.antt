use Rattle.std.proofs.Common.{◌≡◌, ◌≤◌, ◌+◌, ℕ, Bool, List, length, drop, filter}
use Rattle.gm_notes.specs.Settings.{Settings}
use Rattle.gm_conns.specs.ConnTables.{conn}
use Rattle.gm_core.specs.Facts.{ConnFacts}
use Rattle.gm_core.specs.Holds.{HoldsConns, AllTouched}
use Rattle.gm_core.specs.Telling.{hears, needed}
use Rattle.gm_core.specs.Writing.{CanBePut}
use Rattle.gm_core.proofs.TellLemmas.{Pouring}
use Rattle.gm_core.proofs.telling.put_each.Given as goal

abbrev pub invariant-loop-slot : goal.invariant-loop-slot
invariant-loop-slot l = record {
  hear : (e : Bool) (c : ℕ) → hears l.conns e c ≡ hears l.fn.conns e c;
  room : (c : ℕ) → needed l.fn.text.cost c (filter (hears l.fn.conns l.exceptions_only) (drop l.slot-index l.slots)) ≤ (conn l.conns c).room;
  text : l.text ≡ record l.fn.text { owners = l.text.owners };
  owned : CanBePut (length (drop l.slot-index l.slots)) l.text;
  touched : AllTouched l.fn.conns l.conns;
  left : (c : ℕ) → (conn l.fn.conns c).room + needed l.fn.text.cost c (filter (hears l.fn.conns l.exceptions_only) (drop l.slot-index l.slots))
      ≤ (conn l.conns c).room + needed l.fn.text.cost c (filter (hears l.fn.conns l.exceptions_only) l.slots);
  holds : (k : Settings) (names : List (List ℕ)) (facts : ConnFacts) (bytes : ℕ → List ℕ) → HoldsConns k l.fn.conns names facts bytes
      → Pouring k l.conns names facts l.fn.text.bytes (filter (hears l.fn.conns l.exceptions_only) l.slots) (filter (hears l.fn.conns l.exceptions_only) (drop l.slot-index l.slots)) bytes;
}
