use Rattle.std.proofs.Common.{◌≡◌, ◌+◌, length}
use Rattle.gm_poll.specs.Pollers.{looked_at}
use Rattle.gm_poll.proofs.poller.Poller.look_again.Given as goal

abbrev pub invariant-loop : goal.invariant-loop
invariant-loop g l = record { rest : looked_at l.self.again l.self ≡ looked_at l.fn.self.again l.fn.self; left : length l.self.again + l.counter ≡ l.end }
