use Rattle.std.proofs.Common.{◌≡◌, ◌-◌}
use Rattle.gm_notes.specs.Past.{Past}
use Rattle.gm_notes.specs.Jobs.{made}
use Rattle.gm_plain.specs.Holds.{Keeps}
use Rattle.gm_plain.proofs.ServerLoops.{Waking}
use Rattle.gm_plain.proofs.server.PlainServer.wake.Given as goal

abbrev pub invariant-loop-slot : goal.invariant-loop-slot
invariant-loop-slot l = record {
  config : l.self.config ≡ l.fn.self.config;
  jobs : made l.self.log.notes ≡ made l.fn.self.log.notes;
  past : (past : Past) → Keeps l.fn.self past → Waking l.self l.number l.slot (l.fn.self.config.slots - l.slot) l.fn.self.config past;
}
