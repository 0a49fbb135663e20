use Rattle.std.proofs.Common.{◌≡◌, ◌+◌, ◌/◌, ◌<◌, ◌≤◌, length, drop, min, vec_len, vec_capacity, deque_len, deque_capacity}
use Rattle.std.specs.List.{All}
use Rattle.gm_bytes.specs.declared.run.Run.{Run}
use Rattle.gm_bytes.specs.Queues.{with_shared, before_last, first_len}
use Rattle.gm_bytes.proofs.byte_queue.ByteQueue.advance.Given as goal

abbrev pub invariant-loop-run : goal.invariant-loop-run
invariant-loop-run l = record {
  all : l.self-inside.start + before_last l.self-inside.runs.items + l.self-inside.behind ≡ length l.self-inside.copied.items;
  some : All (λ (run : Run). 0 < length run.bytes) l.self-inside.runs.items;
  within : l.self-inside.passed + min 1 (length l.self-inside.runs.items) ≤ first_len l.self-inside.runs.items l.self-inside.behind;
  fits : vec_len l.self-inside.copied + l.self-inside.room ≤ vec_capacity l.self-inside.copied;
  places : deque_len l.self-inside.runs + l.self-inside.room / 512 ≤ deque_capacity l.self-inside.runs;
  room_is : l.self-inside.room ≡ l.fn.self.room;
  left : l.left ≤ length (drop l.self-inside.passed (with_shared l.self-inside.runs.items (drop l.self-inside.start l.self-inside.copied.items)));
  rest : drop l.left (drop l.self-inside.passed (with_shared l.self-inside.runs.items (drop l.self-inside.start l.self-inside.copied.items))) ≡ drop l.fn.count l.fn.self.bytes;
}

abbrev pub decreases-loop-run : goal.decreases-loop-run
decreases-loop-run l = length l.self-inside.runs.items
