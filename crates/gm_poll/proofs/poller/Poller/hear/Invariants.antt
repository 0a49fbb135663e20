use Rattle.std.proofs.Common.{◌≡◌, ◌≤◌, length, vec_len}
use Rattle.std.specs.VecDeque.{deque_capacity}
use Rattle.std.specs.Slice.Iter.{iter_rest}
use Rattle.gm_poll.specs.Pollers.{PollerState, IsOrderly, heard}
use Rattle.gm_poll.proofs.poller.Poller.hear.Given as goal

-- The fields follow one another, since some are lent out: the seventh has the calls, and the eighth what is ready.
abbrev pub invariant-loop-event : goal.invariant-loop-event
invariant-loop-event l =
    let calls = l.self-inside.1.1.1.1.1.1.0 in
    let ready = l.self-inside.1.1.1.1.1.1.1.0 in
    let p : PollerState = record l.fn.self { calls = calls.items; ready = ready.items } in
    record {
      next : goal.iterator-loop-event.can_next l.event-iterator;
      finite : goal.iterator-loop-event.is_finite l.event-iterator;
      orderly : IsOrderly p;
      room : vec_len calls ≤ deque_capacity ready;
      slots : length calls.items ≡ length l.fn.self.calls;
      heard : heard (iter_rest l.event-iterator) p ≡ heard l.fn.self.events l.fn.self;
    }
