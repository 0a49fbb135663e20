use Rattle.std.proofs.Common.{sym, subst}
use Rattle.gm_jobs.specs.Deadlines.{DeadlineTable, AllListed, AllLater}
use Rattle.gm_jobs.proofs.DeadlineLemmas.{listed_kept}
use Rattle.gm_jobs.proofs.deadlines.Deadlines.collect.Goals as goal

pub gather-requires : goal.gather-requires
gather-requires c =
    listed_kept c.args.jobs.now.entries c.self.inside.waiting c.self.inside.reached c.keep.new.self (subst (λ (t : DeadlineTable). AllListed c.args.jobs.now.entries t) (sym c.self.view_is) c.requires) c.keep.ensures

pub returns-else-is_reached-clause-later : goal.returns-else-is_reached-clause-later
returns-else-is_reached-clause-later c = subst (λ (t : DeadlineTable). AllLater c.args.now t.waiting) c.self.view_is (c.is_reached.ensures c.if-is_reached.false)
