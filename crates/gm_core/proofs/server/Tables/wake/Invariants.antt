use Rattle.std.proofs.Common.{◌≡◌, ◌≤◌, ◌-◌}
use Rattle.gm_notes.specs.Past.{Past}
use Rattle.gm_core.specs.Holds.{AllTouched, Keeps, name_at}
use Rattle.gm_core.proofs.WakeLemmas.{Waking}
use Rattle.gm_core.proofs.server.Tables.wake.Given as goal

abbrev pub invariant-loop-slot : goal.invariant-loop-slot
invariant-loop-slot l = record {
  config : l.self.config ≡ l.fn.self.config;
  others : AllTouched l.fn.self.conns l.self.conns;
  functions : l.self.functions ≡ l.fn.self.functions;
  most : l.from ≤ 1024;
  past : (past : Past) → Keeps l.fn.self past → Waking l.self (name_at l.fn.self.functions.names l.f) l.from (l.fn.self.config.slots - l.from) l.fn.self.config past;
}

abbrev pub decreases-loop-slot : goal.decreases-loop-slot
decreases-loop-slot l = 1024 - l.from
