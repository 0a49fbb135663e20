use Rattle.std.proofs.Common.{sym, subst, arith}
use Rattle.gm_jobs.specs.Hints.{HintList, IsHinted}
use Rattle.gm_jobs.proofs.HintLemmas.{slot_is}
use Rattle.gm_jobs.proofs.index.next_run_at.Goals as goal

pub next-next-requires : goal.next-next-requires
next-next-requires c = λ n met.
    subst (λ (l : HintList). IsHinted l n) (sym (slot_is c.args.lists.now.items c.args.slot (omega arith) c.index_mut-list.result.now c.index_mut-list.result.now c.index_mut-list.ensures.value)) (c.requires c.args.slot n met)
