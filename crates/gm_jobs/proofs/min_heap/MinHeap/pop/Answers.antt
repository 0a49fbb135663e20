use Rattle.std.proofs.Common.{◌≡◌, ◌⊎◌, List, Some, sym, subst}
use Rattle.gm_jobs.specs.MinHeap.{Pair, Has, first_of}
use Rattle.gm_jobs.proofs.MinHeapLemmas.{popped}
use Rattle.gm_jobs.proofs.min_heap.MinHeap.pop.Goals as goal

pub returns-clause-kept : goal.returns-clause-kept
returns-clause-kept c = λ a b there.
    subst (λ (xs : List Pair). Has c.pop-first.new.self.data.items a b ⊎ (first_of xs ≡ Some (a, b))) c.self.view_is
    (popped c.pop-first.result c.self.inside.pairs.data.items c.pop-first.new.self.data.items _ c.pop-first.ensures.top c.pop-first.ensures.permutation c.pop-first.ensures.unchanged a b
    (subst (λ (xs : List Pair). Has xs a b) (sym c.self.view_is) there))
