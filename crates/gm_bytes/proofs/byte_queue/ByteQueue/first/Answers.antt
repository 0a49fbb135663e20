use Rattle.std.proofs.Common.{◌≡◌, ◌+◌, ◌-◌, ◌<◌, ◌≤◌, ◌∷◌, ◌++◌, ℕ, List, length, take, drop, min, subst, ap, sym, ◌∙◌, refl, arith}
use Rattle.std.proofs.lemmas.List.{length-drop}
use Rattle.std.proofs.Math.Seq.{drop-cons}
use Rattle.gm_bytes.specs.declared.run.Run.{Run}
use Rattle.gm_bytes.specs.Queues.{Queued, with_shared, before_last, first_len}
use Rattle.gm_bytes.proofs.QueueLemmas.{begins, parts, front-run, front-before}
use Rattle.gm_bytes.proofs.byte_queue.ByteQueue.first.Goals as goal

pub returns-in-Some-clause-front : goal.returns-in-Some-clause-front
returns-in-Some-clause-front c =
    let q = c.self.inside in
    let runs = q.runs.items in
    let run = c.in-Some.run'.now in
    let rest = drop 1 runs in
    let copied = drop q.start q.copied.items in
    let others = with_shared rest (drop run.before copied) in
    let is : runs ≡ run ∷ rest = drop-cons runs 0 run (c.in-Some.ensures.item.3.0) ∙ (λ j. sym c.in-Some.ensures.lookup j ∷ rest) in
    let p = parts runs rest run q.copied.items q.start q.passed q.behind is c.self.invariant.0 c.self.invariant.2 in (
      others,
      ap (λ (x : Queued). x.bytes) (sym c.self.view_is)
          ∙ (begins runs rest run copied q.passed is p.0 p.2
          ∙ (front-run run.before q.passed copied run.bytes others (omega (arith, p.1, length-drop q.start q.copied.items)) (omega (arith, c.if-self-run.true)) (omega (arith, p.2))
          ∙ ap (λ (l : List ℕ). take (length l - (q.passed - run.before)) (drop (q.passed - run.before) l) ++ others) (sym c.as_slice.ensures))),
    )

pub returns-in-Some-2-clause-front : goal.returns-in-Some-2-clause-front
returns-in-Some-2-clause-front c =
    let q = c.self.inside in
    let runs = q.runs.items in
    let run = c.in-Some.run'.now in
    let rest = drop 1 runs in
    let copied = drop q.start q.copied.items in
    let others = with_shared rest (drop run.before copied) in
    let is : runs ≡ run ∷ rest = drop-cons runs 0 run (c.in-Some.ensures.item.3.0) ∙ (λ j. sym c.in-Some.ensures.lookup j ∷ rest) in
    let p = parts runs rest run q.copied.items q.start q.passed q.behind is c.self.invariant.0 c.self.invariant.2 in (
      run.bytes ++ others,
      ap (λ (x : Queued). x.bytes) (sym c.self.view_is)
          ∙ (begins runs rest run copied q.passed is p.0 p.2
          ∙ (front-before q.start run.before q.passed q.copied.items run.bytes others (omega (arith, p.1)) (omega (arith, c.if-self-run.false))
          ∙ ap (λ (l : List ℕ). take ((q.start + run.before) - (q.start + q.passed)) (drop (q.start + q.passed) l) ++ (run.bytes ++ others)) (sym c.deref.ensures.value))),
    )
