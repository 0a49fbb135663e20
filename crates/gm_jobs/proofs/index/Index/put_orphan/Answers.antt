use Rattle.std.proofs.Common.{subst, sym}
use Rattle.gm_jobs.specs.Hints.{HintTable, IsHinted, hints_of}
use Rattle.gm_jobs.proofs.HintLemmas.{kept_hinted, table_hinted}
use Rattle.gm_jobs.proofs.index.Index.put_orphan.Goals as goal

pub returns-clause-kept : goal.returns-clause-kept
returns-clause-kept c = λ q n h.
    let t = c.self.inside in
    table_hinted (record { heard = t.heard.items; runs = t.runs.items; orphans = t.orphans }) (record { heard = t.heard.items; runs = t.runs.items; orphans = c.put_if_met.new.self })
    (λ n h. kept_hinted t.orphans c.put_if_met.new.self n c.put_if_met.ensures.kept tt h) (λ d n h. h) (λ d n h. h) q n (subst (λ (x : HintTable). IsHinted (hints_of x q) n) (sym c.self.view_is) h)
