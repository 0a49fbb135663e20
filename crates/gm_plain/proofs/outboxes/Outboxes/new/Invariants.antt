use Rattle.std.proofs.Common.{◌≡◌, map, replicate, []}
use Rattle.gm_plain.proofs.OutboxLemmas.{items_of}
use Rattle.gm_plain.proofs.outboxes.Outboxes.new.Given as goal

abbrev pub invariant-loop : goal.invariant-loop
invariant-loop l = map items_of l.outboxes.items ≡ replicate l.counter []
