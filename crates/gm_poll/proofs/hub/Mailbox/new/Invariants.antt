use Rattle.std.proofs.Common.{◌≡◌, length}
use Rattle.gm_poll.proofs.hub.Mailbox.new.Given as goal

abbrev pub invariant-loop : goal.invariant-loop
invariant-loop l = length l.marks.items ≡ l.counter
