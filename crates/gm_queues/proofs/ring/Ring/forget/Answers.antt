use Rattle.std.proofs.Common.{◌-◌, set, None, subst, arith}
use Rattle.gm_queues.specs.Queues.{Queue, Leaves, jobs_in}
use Rattle.gm_queues.proofs.QueueLemmas.{length-cleared, Leaves-cleared, Leaves-once}
use Rattle.gm_queues.proofs.ring.Ring.forget.Goals as goal

pub invariant_of-self : goal.invariant_of-self
invariant_of-self c =
    let fewer = length-cleared c.self.inside.entries.items c.in-Some.index c.args.job c.in-Some.ensures.found in
    (omega arith, omega arith, omega arith, omega arith)

pub returns-clause-leaves : goal.returns-clause-leaves
returns-clause-leaves c =
    subst (λ (q : Queue). Leaves c.args.job q (record { jobs = jobs_in (set c.self.inside.entries.items c.in-Some.index None); reserved = c.self.inside.reserved - 1 })) c.self.view_is
    (Leaves-cleared c.self.inside.entries.items c.in-Some.index c.args.job c.self.inside.reserved c.in-Some.ensures.found)

pub returns-clause-once : goal.returns-clause-once
returns-clause-once c = Leaves-once c.args.job c.args.self.now _ (returns-clause-leaves c)
