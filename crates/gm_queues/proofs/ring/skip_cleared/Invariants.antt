use Rattle.std.proofs.Common.{◌≡◌, ◌≤◌}
use Rattle.std.specs.VecDeque.{deque_len, deque_capacity}
use Rattle.gm_queues.specs.Queues.{jobs_in}
use Rattle.gm_queues.proofs.ring.skip_cleared.Given as goal

abbrev pub invariant-loop-entries : goal.invariant-loop-entries
invariant-loop-entries l = record {
  same_jobs : jobs_in l.entries.items ≡ jobs_in l.initial.entries.items;
  shorter : deque_len l.entries ≤ deque_len l.initial.entries;
  capacity : deque_capacity l.entries ≡ deque_capacity l.initial.entries;
}

abbrev pub decreases-loop-entries : goal.decreases-loop-entries
decreases-loop-entries l = deque_len l.entries
