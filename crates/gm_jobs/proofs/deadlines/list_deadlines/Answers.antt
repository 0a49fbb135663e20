use Rattle.std.proofs.Common.{◌≡◌, inl, inr, slice_get, sym, ap, ◌∙◌, arith}
use Rattle.std.proofs.lemmas.Bool.{cases_lt}
use Rattle.gm_jobs.proofs.ListLemmas.{found_at}
use Rattle.gm_jobs.proofs.deadlines.list_deadlines.Goals as goal

pub loop-i-preserved : goal.loop-i-preserved
loop-i-preserved c = λ k n d live w at is.
    elim (cases_lt k c.loop-i.i) [
      | inl before ↦ c.list_deadline.ensures.kept d n (c.loop-i.invariant k n d live before at is)
      | inr last ↦
          let same : k ≡ c.loop-i.i = omega arith in
          c.list_deadline.ensures.stands c.if-not-list_deadline.false n d live (ap (slice_get c.args.jobs.now.entries) (sym same) ∙ at) is
    ]

pub returns : goal.returns
returns c = λ _ n d live found is.
    let at = found_at c.args.jobs.now.entries n live found in
    c.loop-i.invariant at.0 n d live (omega (arith, at.1, c.len-i-end.ensures.count)) at.2 is
