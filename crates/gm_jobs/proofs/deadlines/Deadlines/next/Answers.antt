use Rattle.std.proofs.Common.{sym, subst}
use Rattle.gm_jobs.specs.Deadlines.{DeadlineTable, AllListed, AllLater}
use Rattle.gm_jobs.proofs.DeadlineLemmas.{due_reached, listed_kept}
use Rattle.gm_jobs.proofs.deadlines.Deadlines.next.Goals as goal

pub next-requires : goal.next-requires
next-requires c =
    due_reached c.args.jobs.now.entries c.self.inside.waiting c.self.inside.reached c.args.now (subst (λ (t : DeadlineTable). AllListed c.args.jobs.now.entries t) (sym c.self.view_is) c.collect.ensures.listed)
    (subst (λ (t : DeadlineTable). AllLater c.args.now t.waiting) (sym c.self.view_is) c.collect.ensures.later)

pub returns-clause-listed : goal.returns-clause-listed
returns-clause-listed c =
    listed_kept c.args.jobs.now.entries c.self.inside.waiting c.self.inside.reached c.next.new.self (subst (λ (t : DeadlineTable). AllListed c.args.jobs.now.entries t) (sym c.self.view_is) c.collect.ensures.listed) c.next.ensures.kept
