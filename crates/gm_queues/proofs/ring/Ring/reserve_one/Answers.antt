use Rattle.std.proofs.Common.{length, ap, arith}
use Rattle.gm_queues.proofs.QueueLemmas.{length-jobs_in}
use Rattle.gm_queues.proofs.ring.Ring.reserve_one.Goals as goal

pub make_room-requires : goal.make_room-requires
make_room-requires c = omega (arith, length-jobs_in c.self.inside.entries.items)

pub invariant_of-self : goal.invariant_of-self
invariant_of-self c =
    let same = ap length c.make_room.ensures.jobs in
    let shorter = length-jobs_in c.self.inside.entries.items in
    (omega arith, omega arith, omega arith, omega arith)
