use Rattle.std.proofs.Common.{◌≡◌, ◌-◌, ◌≤◌, ◌++◌, ℕ, List, length, take, drop, ap, sym, ◌∙◌, arith}
use Rattle.gm_bytes.proofs.QueueLemmas.{passed_within, all_copied}
use Rattle.gm_bytes.proofs.byte_queue.ByteQueue.to_vec.Goals as goal

pub rotate_left-requires : goal.rotate_left-requires
rotate_left-requires c =
    let q = c.self.inside in
    let new = c.extend_from_slice-2.new.self in
    let is = ap (λ (l : List ℕ). c.loop-at.copy.items ++ take (length l - c.loop-at.from) (drop c.loop-at.from l)) c.deref-2.ensures.value in
    let all = all_copied q.runs.items q.copied.items c.loop-at.copy.items new.items q.start c.loop-at.from c.loop-at.at
    (omega (arith, c.loop-at-test.false, c.len-at-end.ensures)) c.loop-at.invariant.copied (c.in_ok-extend_from_slice-3.ensures.items ∙ is) in
    omega (arith, new.ok.0, ap length all, passed_within q.runs.items q.copied.items q.start q.passed q.behind c.self.invariant.0 c.self.invariant.2)

pub overflow_sub-len : goal.overflow_sub-len
overflow_sub-len c =
    let q = c.self.inside in
    let new = c.extend_from_slice-2.new.self in
    let is = ap (λ (l : List ℕ). c.loop-at.copy.items ++ take (length l - c.loop-at.from) (drop c.loop-at.from l)) c.deref-2.ensures.value in
    let all = all_copied q.runs.items q.copied.items c.loop-at.copy.items new.items q.start c.loop-at.from c.loop-at.at
    (omega (arith, c.loop-at-test.false, c.len-at-end.ensures)) c.loop-at.invariant.copied (c.in_ok-extend_from_slice-3.ensures.items ∙ is) in
    omega (
      arith,
      new.ok.0,
      ap length all,
      passed_within q.runs.items q.copied.items q.start q.passed q.behind c.self.invariant.0 c.self.invariant.2,
      c.rotate_left.ensures.len,
      c.len.ensures,
    )
