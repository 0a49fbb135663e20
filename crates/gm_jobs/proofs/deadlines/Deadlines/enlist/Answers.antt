use Rattle.std.proofs.Common.{inl, inr, is_some, sym, ap, subst, ◌∙◌}
use Rattle.std.proofs.lemmas.Bool.{cases_eq}
use Rattle.gm_jobs.specs.Tables.{find_job}
use Rattle.gm_jobs.specs.MinHeap.{Has}
use Rattle.gm_jobs.specs.Deadlines.{DeadlineTable, IsListed}
use Rattle.gm_jobs.proofs.NumberLemmas.{not_some}
use Rattle.gm_jobs.proofs.deadlines.Deadlines.enlist.Goals as goal
use Rattle.std.proofs.lemmas.Option.{same_Some}

pub returns-else-not-put : goal.returns-else-not-put
returns-else-not-put c = λ n live found whole d runs is.
    elim (cases_eq n c.args.number) [
      | inl same ↦
          let until = same_Some c.in-Some.deadline d (sym c.in-Some.is ∙ sym (c.requires.this live (ap (find_job c.args.jobs.now.entries) (sym same) ∙ found)) ∙ is) in
          inl (subst (λ e. Has c.put.new.self e n) until (subst (λ i. Has c.put.new.self c.in-Some.deadline i) (sym same) (c.put.ensures.stands c.if-not-put.false)))
      | inr ne ↦
          elim (subst (λ (t : DeadlineTable). IsListed t n live) (sym c.self.view_is) (c.requires.others n live ne found) whole d runs is) [
            | inl there ↦ inl (c.put.ensures.kept d n there)
            | inr there ↦ inr there
          ]
    ]

pub returns-in_default : goal.returns-in_default
returns-in_default c = λ n live found whole d runs is.
    elim (cases_eq n c.args.number) [
      | inl same ↦ absurd (not_some live.deadline (c.requires.this live (ap (find_job c.args.jobs.now.entries) (sym same) ∙ found) ∙ c.in_default.is) (ap is_some is))
      | inr ne ↦ c.requires.others n live ne found whole d runs is
    ]
