use Rattle.std.proofs.Common.{arith}
use Rattle.gm_queues.proofs.QueueLemmas.{jobs_in_none}
use Rattle.gm_queues.proofs.ring.index_of.Goals as goal

pub returns-clause-missing : goal.returns-clause-missing
returns-clause-missing c =
    let long = c.args.entries.now.ok.0 in
    jobs_in_none c.args.entries.now.items c.args.job (λ k h. c.loop-index.invariant k (omega arith))
