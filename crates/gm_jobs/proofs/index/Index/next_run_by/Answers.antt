use Rattle.std.proofs.Common.{subst, sym}
use Rattle.gm_jobs.specs.declared.job.Query.TheVariants.{RunBy, HeardBy, Orphan}
use Rattle.gm_jobs.specs.Hints.{HintTable, AllFound}
use Rattle.gm_jobs.proofs.HintLemmas.{table_found}
use Rattle.gm_jobs.proofs.index.Index.next_run_by.Goals as goal

pub next_run_at-requires : goal.next_run_at-requires
next_run_at-requires c = λ d. subst (λ (t : HintTable). AllFound c.args.jobs.now.entries t) (sym c.self.view_is) c.requires (RunBy d)

pub returns-clause-kept : goal.returns-clause-kept
returns-clause-kept c =
    let found = subst (λ (t : HintTable). AllFound c.args.jobs.now.entries t) (sym c.self.view_is) c.requires in
    table_found c.args.jobs.now.entries (record { heard = c.self.inside.heard.items; runs = c.next_run_at.new.lists.items; orphans = c.self.inside.orphans }) (found Orphan) c.next_run_at.ensures.kept (λ d. found (HeardBy d))
