use Rattle.std.proofs.Common.{List, subst, sym, ◌∙◌}
use Rattle.std.proofs.lemmas.Bool.{false≢true}
use Rattle.gm_jobs.specs.MinHeap.{Pair, pair, Has}
use Rattle.gm_jobs.proofs.MinHeapLemmas.{came, stayed}
use Rattle.gm_jobs.proofs.min_heap.MinHeap.put.Goals as goal
use Rattle.gm_jobs.proofs.min_heap.MinHeap.put.Goals.{in-Ok, in-Err}

pub returns-clause-stands : goal.returns-clause-stands
returns-clause-stands c = λ put.
    elim c.match-push.branch [
      | in-Ok w ↦ came c.self.inside.pairs.data.items c.push.new.self.data.items c.args.first c.args.second w.in-Ok.ensures.permutation
      | in-Err w ↦ absurd (false≢true (sym w.result-is ∙ put))
    ]

pub returns-clause-kept : goal.returns-clause-kept
returns-clause-kept c = λ a b there.
    let was = subst (λ (xs : List Pair). Has xs a b) (sym c.self.view_is) there in
    elim c.match-push.branch [
      | in-Ok w ↦ stayed (pair c.args.first c.args.second) c.self.inside.pairs.data.items c.push.new.self.data.items a b w.in-Ok.ensures.permutation was
      | in-Err w ↦ subst (λ (xs : List Pair). Has xs a b) (sym w.in-Err.ensures.unchanged.0) was
    ]
