use Rattle.std.proofs.Common.{◌≡◌, ℕ, ◌+◌, ◌-◌, vec_len}
use Rattle.gm_conns.specs.Slots.{has}
use Rattle.gm_conns.specs.ConnTables.{able_of}
use Rattle.gm_conns.proofs.able.cover.Given as goal

abbrev pub invariant-loop-able : goal.invariant-loop-able
invariant-loop-able l = record {
  slots : (g i : ℕ) → has (able_of l.able.items g).slots i ≡ has (able_of l.initial.able.items g).slots i;
  counts : (g : ℕ) → (able_of l.able.items g).count ≡ (able_of l.initial.able.items g).count;
}

abbrev pub decreases-loop-able : goal.decreases-loop-able
decreases-loop-able l = (l.f + 1) - vec_len l.able
