use Rattle.std.proofs.Common.{◌≡◌, ◌≤◌, ◌<◌, ◌-◌, ℕ, false}
use Rattle.gm_conns.specs.Slots.{has}
use Rattle.gm_notes.specs.declared.states.Mode.TheVariants.{Running}
use Rattle.gm_threads.proofs.state.ServerState.notify.Given as goal

abbrev pub invariant-loop-due : goal.invariant-loop-due
invariant-loop-due g l = record {
  spent : (slot : ℕ) → slot < l.from → has l.effects.touched slot ≡ false;
  mode : l.effects.mode ≡ Running;
  few : l.from ≤ g.K.BookName.settings.slots;
}

abbrev pub decreases-loop-due : goal.decreases-loop-due
decreases-loop-due g l = g.K.BookName.settings.slots - l.from
