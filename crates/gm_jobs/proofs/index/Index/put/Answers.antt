use Rattle.std.proofs.Common.{subst, sym}
use Rattle.gm_jobs.specs.Hints.{HintTable, IsHinted, hints_of}
use Rattle.gm_jobs.proofs.HintLemmas.{kept_hinted, table_hinted}
use Rattle.gm_jobs.proofs.index.Index.put.Goals as goal

pub returns-in-Orphan-clause-kept : goal.returns-in-Orphan-clause-kept
returns-in-Orphan-clause-kept c = λ q n h.
    let t = c.self.inside in
    table_hinted (record { heard = t.heard.items; runs = t.runs.items; orphans = t.orphans }) (record { heard = t.heard.items; runs = t.runs.items; orphans = c.put.new.self })
    (λ n h. kept_hinted t.orphans c.put.new.self n c.put.ensures.kept tt h) (λ d n h. h) (λ d n h. h) q n (subst (λ (x : HintTable). IsHinted (hints_of x q) n) (sym c.self.view_is) h)

pub returns-in-RunBy-clause-kept : goal.returns-in-RunBy-clause-kept
returns-in-RunBy-clause-kept c = λ q n h.
    let t = c.self.inside in
    table_hinted (record { heard = t.heard.items; runs = t.runs.items; orphans = t.orphans }) (record { heard = t.heard.items; runs = c.put_at.new.lists.items; orphans = t.orphans })
    (λ n h. h) c.put_at.ensures.kept (λ d n h. h) q n (subst (λ (x : HintTable). IsHinted (hints_of x q) n) (sym c.self.view_is) h)

pub returns-in-HeardBy-clause-kept : goal.returns-in-HeardBy-clause-kept
returns-in-HeardBy-clause-kept c = λ q n h.
    let t = c.self.inside in
    table_hinted (record { heard = t.heard.items; runs = t.runs.items; orphans = t.orphans }) (record { heard = c.put_at-in-HeardBy.new.lists.items; runs = t.runs.items; orphans = t.orphans })
    (λ n h. h) (λ d n h. h) c.put_at-in-HeardBy.ensures.kept q n (subst (λ (x : HintTable). IsHinted (hints_of x q) n) (sym c.self.view_is) h)
