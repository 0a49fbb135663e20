use Rattle.std.proofs.Common.{◌≡◌, ℕ, ◌*◌, ◌<◌, ◌≤◌, ◌-◌, false, ◌&&◌}
use Rattle.gm_conns.specs.Slots.{has}
use Rattle.gm_conns.proofs.slot_set.SlotSet.first_in_both.Given as goal

abbrev pub invariant-loop-at : goal.invariant-loop-at
invariant-loop-at l = record {
  reached : l.fn.from ≤ l.at;
  within : l.at ≤ 16;
  out : (i : ℕ) → l.fn.from * 64 ≤ i → i < l.at * 64 → (has l.self-inside.words i && has l.other-inside.words i) ≡ false;
}

abbrev pub decreases-loop-at : goal.decreases-loop-at
decreases-loop-at l = 16 - l.at
