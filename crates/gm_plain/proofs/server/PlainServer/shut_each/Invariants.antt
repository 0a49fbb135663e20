use Rattle.std.proofs.Common.{◌≡◌, ◌≤◌, ◌-◌}
use Rattle.gm_notes.specs.Notes.{slots_from}
use Rattle.gm_notes.specs.Past.{Past}
use Rattle.gm_notes.specs.Lines.{shut_each}
use Rattle.gm_plain.specs.Holds.{Keeps}
use Rattle.gm_plain.proofs.ServerLoops.{Folding}
use Rattle.gm_plain.proofs.server.PlainServer.shut_each.Given as goal

abbrev pub invariant-loop-slot : goal.invariant-loop-slot
invariant-loop-slot l = record {
  config : l.self.config ≡ l.fn.self.config;
  room : l.fn.self.config.slots - l.slot ≤ l.self.log.free;
  past : (past : Past) → Keeps l.fn.self past → Folding l.self shut_each (slots_from l.slot (l.fn.self.config.slots - l.slot)) (slots_from 0 l.fn.self.config.slots) past;
}
