use Rattle.std.proofs.Common.{◌≡◌, ◌-◌, ◌^◌}
use Rattle.gm_notes.specs.Past.{Past}
use Rattle.gm_notes.specs.Closings.{discard_each}
use Rattle.gm_core.specs.Holds.{AllTouched, Keeps}
use Rattle.gm_core.proofs.RisingLemmas.{Rising}
use Rattle.gm_core.proofs.server.Tables.discard_each.Given as goal

abbrev pub invariant-loop-job : goal.invariant-loop-job
invariant-loop-job l = record {
  config : l.self.config ≡ l.fn.self.config;
  others : AllTouched l.fn.self.conns l.self.conns;
  past : (past : Past) → Keeps l.fn.self past → Rising l.self discard_each l.fn.self.config.first_job l.after past;
}

abbrev pub decreases-loop-job : goal.decreases-loop-job
decreases-loop-job l = 2 ^ 64 - l.after
