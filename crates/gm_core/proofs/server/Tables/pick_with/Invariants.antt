use Rattle.std.proofs.Common.{◌≡◌, ℕ, drop, take}
use Rattle.gm_notes.specs.declared.states.Priority.{Priority}
use Rattle.gm_notes.specs.Past.{Past}
use Rattle.gm_conns.specs.ConnTables.{conn}
use Rattle.gm_core.specs.declared.server.Tables.{Tables}
use Rattle.gm_core.specs.Holds.{Keeps}
use Rattle.gm_core.proofs.PickLemmas.{with_of}
use Rattle.gm_core.proofs.server.Tables.pick_with.Given as goal

-- no ability before this one leads to a job of the priority
abbrev pub NoneBefore : ℕ → ℕ → ℕ → ℕ → Priority → Tables → Type 0
NoneBefore slot from to i priority core = (past : Past) → Keeps core past
    → with_of core past priority (drop from (take to (conn core.conns slot).abilities)) ≡ with_of core past priority (drop i (take to (conn core.conns slot).abilities))

abbrev pub invariant-loop-i : goal.invariant-loop-i
invariant-loop-i l = (l.self ≡ l.initial.self) × NoneBefore l.slot l.from l.to l.i l.priority l.self
