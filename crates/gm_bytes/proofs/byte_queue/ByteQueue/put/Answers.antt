use Rattle.std.proofs.Common.{◌≡◌, ◌+◌, ◌-◌, ◌≤◌, ℕ, List, ◌++◌, length, drop, ap, ap₂, ◌∙◌, refl, arith, length-append}
use Rattle.std.proofs.lemmas.List.{drop-append-le, length-drop}
use Rattle.gm_bytes.specs.Queues.{Queued, with_bytes, with_shared, before_last}
use Rattle.gm_bytes.proofs.QueueLemmas.{put-behind}
use Rattle.gm_bytes.proofs.byte_queue.ByteQueue.put.Goals as goal

pub returns : goal.returns
returns c =
    let kept = c.self.invariant in
    let items = rw c.unwrap.ensures at c.extend_from_slice.ensures.items in
    ap (λ (b : List ℕ). record { bytes = b; room = c.self.inside.room - length c.args.bytes.now })
    (ap (λ l. drop c.self.inside.passed (with_shared c.self.inside.runs.items (drop c.self.inside.start l))) items
    ∙ put-behind c.self.inside.runs.items c.self.inside.copied.items c.self.inside.start c.self.inside.passed c.self.inside.behind kept.0 kept.2
    c.args.bytes.now)
    ∙ ap (with_bytes c.args.bytes.now (length c.args.bytes.now)) c.self.view_is
