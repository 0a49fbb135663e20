use Rattle.std.proofs.Common.{◌≡◌, ℕ, map, drop, take}
use Rattle.gm_notes.specs.Jobs.{pick_from}
use Rattle.gm_notes.specs.Past.{Past}
use Rattle.gm_conns.specs.ConnTables.{conn}
use Rattle.gm_core.specs.declared.server.Tables.{Tables}
use Rattle.gm_core.specs.Holds.{Keeps, ability_named}
use Rattle.gm_core.proofs.server.Tables.pick_among.Given as goal

-- no ability before this one leads to a job
abbrev pub NoneBefore : ℕ → ℕ → ℕ → ℕ → Tables → Type 0
NoneBefore slot from to i core = (past : Past) → Keeps core past
    → pick_from (map (ability_named core.functions.names) (drop from (take to (conn core.conns slot).abilities))) past.notes
    ≡ pick_from (map (ability_named core.functions.names) (drop i (take to (conn core.conns slot).abilities))) past.notes

abbrev pub invariant-loop-i : goal.invariant-loop-i
invariant-loop-i l = (l.self ≡ l.initial.self) × NoneBefore l.slot l.from l.to l.i l.self
