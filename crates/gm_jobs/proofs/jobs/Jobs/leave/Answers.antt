use Rattle.std.proofs.Common.{◌^◌, unwrap_or, refl, subst}
use Rattle.gm_jobs.specs.Tables.{Table, Leaves}
use Rattle.gm_jobs.proofs.JobLemmas.{beside, kept_left}
use Rattle.gm_jobs.proofs.jobs.Jobs.leave.Goals as goal

pub leave-requires : goal.leave-requires
leave-requires c = c.self.invariant.found

pub invariant_of-self : goal.invariant_of-self
invariant_of-self c =
    let t = c.self.inside in
    kept_left c.args.slot t.jobs.entries c.leave.new.jobs.entries c.leave.ensures.left (beside t) c.leave.new.self t.reservation _ _ c.self.invariant c.leave.ensures.slots c.leave.ensures.found

pub returns : goal.returns
returns c =
    let now : Table = record { seed = c.self.inside.seed; first = c.self.inside.first; next = unwrap_or c.self.inside.next (2 ^ 64); room = c.self.inside.reservation; live = c.leave.new.jobs.entries } in
    subst (λ (t : Table). Leaves c.args.slot t now) c.self.view_is (record { seed = refl; first = refl; next = refl; room = refl; jobs = c.leave.ensures.left })
