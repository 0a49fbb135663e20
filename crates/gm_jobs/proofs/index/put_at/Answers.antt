use Rattle.std.proofs.Common.{arith}
use Rattle.gm_jobs.proofs.HintLemmas.{kept_hinted, set_hinted}
use Rattle.gm_jobs.proofs.index.put_at.Goals as goal

pub returns-clause-kept : goal.returns-clause-kept
returns-clause-kept c = λ d n h.
    set_hinted c.args.lists.now.items c.args.slot (omega arith) c.index_mut-list.result.now c.put.new.self c.index_mut-list.ensures.value d n
    (kept_hinted c.index_mut-list.result.now c.put.new.self n c.put.ensures.kept tt) h
