use Rattle.std.proofs.Common.{◌≡◌, ◌-◌}
use Rattle.gm_notes.specs.Past.{Past}
use Rattle.gm_core.specs.Holds.{AllTouched, Keeps}
use Rattle.gm_core.proofs.CommandLemmas.{Shutting}
use Rattle.gm_core.proofs.server.Tables.shut_each.Given as goal

abbrev pub invariant-loop-slot : goal.invariant-loop-slot
invariant-loop-slot l = record {
  config : l.self.config ≡ l.fn.self.config;
  others : AllTouched l.fn.self.conns l.self.conns;
  past : (past : Past) → Keeps l.fn.self past → Shutting l.self l.slot (l.fn.self.config.slots - l.slot) l.fn.self.config past;
}
