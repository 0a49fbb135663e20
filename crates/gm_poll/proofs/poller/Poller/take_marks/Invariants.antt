use Rattle.std.proofs.Common.{◌≡◌, ℕ, List, length}
use Rattle.gm_poll.specs.Pollers.{all_marked}
use Rattle.gm_poll.proofs.poller.Poller.take_marks.Given as goal

abbrev pub invariant-loop-at : goal.invariant-loop-at
invariant-loop-at l = (words : List ℕ) × (length words ≡ l.at) × (l.self ≡ all_marked words l.fn.self)
