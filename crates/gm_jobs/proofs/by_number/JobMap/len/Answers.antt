use Rattle.std.proofs.Common.{length, sym, ap, ◌∙◌}
use Rattle.gm_jobs.specs.ByNumber.{JobTable, held}
use Rattle.gm_jobs.proofs.EntryLemmas.{length_is}
use Rattle.gm_jobs.proofs.by_number.JobMap.len.Goals as goal

pub returns-clause-count : goal.returns-clause-count
returns-clause-count c =
    let t = c.self.inside in
    c.len.ensures.len ∙ sym (length_is (held t.slab) t.keys.entries c.self.invariant) ∙ ap (λ (s : JobTable). length s.entries) c.self.view_is
