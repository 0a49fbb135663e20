use Rattle.std.proofs.Common.{◌≡◌, ◌+◌, ◌-◌, ◌/◌, ◌<◌, ◌≤◌, ◌∷◌, [], ◌++◌, ℕ, List, length, drop, min, subst, ap, sym, ◌∙◌, refl, arith, length-append}
use Rattle.std.proofs.lemmas.Bool.Decides.{nat_tests}
use Rattle.std.proofs.lemmas.List.Elements.{All-append, All-cons}
use Rattle.std.specs.List.{All}
use Rattle.gm_bytes.specs.declared.run.Run.{Run}
use Rattle.gm_bytes.specs.Queues.{Queued, with_bytes, with_shared, before_last, first_len}
use Rattle.gm_bytes.proofs.QueueLemmas.{before_last-more, first_some, first_more, run-behind}
use Rattle.gm_bytes.proofs.byte_queue.ByteQueue.share.Goals as goal

pub invariant_of-self : goal.invariant_of-self
invariant_of-self c =
    let q = c.self.inside in
    let runs = q.runs.items in
    let run : Run = record { before = q.behind; bytes = c.args.tail } in
    let kept = c.self.invariant in
    let items = c.push_back_reserved.ensures.items in
    let shrinks : (q.room - 512) / 512 + 1 ≤ q.room / 512 = omega (arith, c.requires, ap (λ (x : Queued). x.room) c.self.view_is) in
    let some : 0 < length c.args.tail = (let is = c.is_empty.ensures in let there = c.if-not-is_empty.true in let bytes = ap length c.as_slice.ensures in grind (arith, nat_tests)) in (
      subst (λ (l : List Run). q.start + before_last l + 0 ≡ length q.copied.items) (sym items) (omega (arith, before_last-more runs run, kept.0)),
      subst (λ (l : List Run). All (λ (run : Run). 0 < length run.bytes) l) (sym items)
          (All-append (λ (run : Run). 0 < length run.bytes) runs (run ∷ []) kept.1 (All-cons (λ (run : Run). 0 < length run.bytes) run [] some (λ k d lt. absurd (omega (arith, lt))))),
      subst (λ (l : List Run). q.passed + min 1 (length l) ≤ first_len l 0) (sym items) (first_more runs run q.passed kept.2 some),
      omega (arith, kept.3),
      omega (arith, kept.4, shrinks, c.push_back_reserved.ensures.len, c.push_back_reserved.ensures.capacity),
    )

pub returns-then-not-is_empty : goal.returns-then-not-is_empty
returns-then-not-is_empty c =
    let q = c.self.inside in
    let run : Run = record { before = q.behind; bytes = c.args.tail } in
    ap (λ (b : List ℕ). record { bytes = b; room = q.room - 512 })
    (ap (λ (l : List Run). drop q.passed (with_shared l (drop q.start q.copied.items))) c.push_back_reserved.ensures.items
    ∙ run-behind q.runs.items q.copied.items q.start q.passed q.behind c.self.invariant.0 c.self.invariant.2 run refl)
    ∙ ap (with_bytes c.args.tail 512) c.self.view_is
