use Rattle.std.proofs.Common.{◌≡◌, true, subst, sym}
use Rattle.gm_jobs.specs.Live.{is_named}
use Rattle.gm_jobs.specs.Tables.{Table, find_job, passes}
use Rattle.gm_jobs.proofs.JobLemmas.{beside, one_named}
use Rattle.gm_jobs.proofs.jobs.Jobs.find.Goals as goal

pub returns-in-Some-clause-only : goal.returns-in-Some-clause-only
returns-in-Some-clause-only c = λ m other.
    let t = c.self.inside in
    one_named (beside t) t.jobs.entries t.reservation _ c.self.invariant c.args.f c.args.unique.now m c.in-Some.number other.joins
    (subst (λ (s : Table). passes (is_named c.args.f c.args.unique.now) (find_job s.live m) ≡ true) (sym c.self.view_is) other.named) c.in-Some.ensures.found
