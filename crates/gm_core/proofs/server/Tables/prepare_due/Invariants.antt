use Rattle.std.proofs.Common.{◌≡◌, ◌≤◌, ◌-◌, ◌^◌, ◌++◌, ℕ, List, false}
use Rattle.gm_conns.specs.ConnTables.{conn}
use Rattle.gm_core.specs.Holds.{Goes}
use Rattle.gm_core.specs.Telling.{hears}
use Rattle.gm_core.specs.Ticks.{AreLate, late_bytes}
use Rattle.gm_core.specs.declared.server.ticking.Late.{Late}
use Rattle.gm_core.proofs.server.Tables.prepare_due.Given as goal

abbrev pub invariant-loop-job : goal.invariant-loop-job
invariant-loop-job l = record {
  goes : Goes l.fn.self l.self (λ past. past);
  jobs : l.self.jobs ≡ l.fn.self.jobs;
  moment : l.self.moment ≡ l.fn.self.moment;
  late : (rest : List Late) → AreLate l.fn.self.config l.now l.fn.self.jobs.live l.after rest → AreLate l.fn.self.config l.now l.fn.self.jobs.live 0 (l.lates.items ++ rest);
  room : (c : ℕ) → late_bytes (hears l.self.conns false) l.fn.self.jobs c l.lates.items ≤ (conn l.self.conns c).room;
}

abbrev pub decreases-loop-job : goal.decreases-loop-job
decreases-loop-job l = 2 ^ 64 - l.after
