use Rattle.std.proofs.Common.{◌≡◌}
use Rattle.gm_poll.specs.Pollers.{marked}
use Rattle.gm_poll.proofs.poller.Poller.call_marked.Given as goal

abbrev pub invariant-loop-bit : goal.invariant-loop-bit
invariant-loop-bit l = l.self ≡ marked l.first l.bits l.bit l.fn.self
