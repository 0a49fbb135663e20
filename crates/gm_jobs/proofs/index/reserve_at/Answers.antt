use Rattle.std.proofs.Common.{arith}
use Rattle.gm_jobs.proofs.HintLemmas.{kept_hinted, set_hinted}
use Rattle.gm_jobs.proofs.index.reserve_at.Goals as goal

pub returns : goal.returns
returns c = λ d n live h.
    set_hinted c.args.lists.now.items c.args.slot (omega arith) c.index_mut-list.result.now c.reserve_one.new.self c.index_mut-list.ensures.value d n
    (kept_hinted c.index_mut-list.result.now c.reserve_one.new.self n c.reserve_one.ensures live) h
