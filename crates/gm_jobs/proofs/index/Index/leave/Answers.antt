use Rattle.std.proofs.Common.{inl, inr, sym, ap, subst, ◌∙◌}
use Rattle.gm_jobs.specs.declared.job.Query.TheVariants.{HeardBy}
use Rattle.gm_jobs.specs.Hints.{HintList, HintTable, IsHinted, at_slot}
use Rattle.gm_jobs.proofs.HintLemmas.{kept_hinted}
use Rattle.gm_jobs.proofs.LeaveLemmas.{found_left}
use Rattle.gm_jobs.proofs.index.Index.leave.Goals as goal

pub leave_each-requires : goal.leave_each-requires
leave_each-requires c = λ n met. kept_hinted c.take-hints.result c.sort.new.self n c.sort.ensures.kept tt
    (subst (λ (l : HintList). IsHinted l n) (sym c.take-hints.ensures.taken) (c.requires (HeardBy c.args.slot) n met))

pub returns-clause-found : goal.returns-clause-found
returns-clause-found c =
    let old = c.args.self.now in
    let t = c.self.inside in
    let took = c.take-hints.ensures in
    found_left c.args.slot c.args.jobs.now.entries c.leave_each.new.jobs.entries c.leave_each.ensures.left old (record { heard = t.heard.items; runs = t.runs.items; orphans = c.join.new.self }) c.requires
    (λ n met which. elim which [
      | inl orphan ↦ c.join.ensures.kept n (subst (λ (l : HintList). IsHinted l n) (sym (ap (λ (x : HintTable). x.orphans) c.self.view_is ∙ took.orphans)) orphan)
      | inr heard ↦
          c.join.ensures.came n (kept_hinted c.take-hints.result c.sort.new.self n c.sort.ensures.kept tt (subst (λ (l : HintList). IsHinted l n) (sym took.taken) heard))
    ])
    (ap (λ (x : HintTable). x.runs) c.self.view_is ∙ took.runs)
    (λ d ne. ap (λ (x : HintTable). at_slot x.heard d) c.self.view_is ∙ took.others d ne)
