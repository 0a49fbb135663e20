use Rattle.std.proofs.Common.{◌≡◌, ℕ, None, length, slice_index_or}
use Rattle.gm_front.proofs.front.Front.new.Given as goal

abbrev pub invariant-loop-slot : goal.invariant-loop-slot
invariant-loop-slot g l = record {
  count : length l.feeders.items ≡ l._slot;
  empty : (c : ℕ) → slice_index_or l.feeders.items c None ≡ None;
}
