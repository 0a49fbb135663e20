use Rattle.std.proofs.Common.{sym, subst}
use Rattle.slab.specs.Slab.{Slab}
use Rattle.gm_jobs.specs.declared.by_number.Entry.{Entry}
use Rattle.gm_jobs.specs.ByNumber.{held, IsIndexed}
use Rattle.gm_jobs.proofs.by_number.JobMap.reserve_one.Goals as goal

pub invariant_of-self-2 : goal.invariant_of-self-2
invariant_of-self-2 c =
    subst (λ (s : Slab Entry). IsIndexed c.reserve.new.self.entries (held s)) (sym c.reserve-2.ensures.rest_kept)
    (subst (λ es. IsIndexed es (held c.self.inside.slab)) (sym c.in_ok-reserve.ensures.entries) c.self.invariant)
