use Rattle.std.proofs.Common.{◌≡◌, ◌+◌, ◌++◌, length, drop}
use Rattle.gm_bytes.specs.Queues.{with_shared, before_last}
use Rattle.gm_bytes.proofs.byte_queue.ByteQueue.to_vec.Given as goal

abbrev pub invariant-loop-at : goal.invariant-loop-at
invariant-loop-at l = record {
  all : l.from + before_last (drop l.at l.self-inside.runs.items) + l.self-inside.behind ≡ length l.self-inside.copied.items;
  copied : l.copy.items ++ with_shared (drop l.at l.self-inside.runs.items) (drop l.from l.self-inside.copied.items)
      ≡ with_shared l.self-inside.runs.items (drop l.self-inside.start l.self-inside.copied.items);
}
