use Rattle.std.proofs.Common.{eqb, sym, ap, subst, ◌∙◌, arith, Some}
use Rattle.std.specs.Option.{option_eq}
use Rattle.std.proofs.lemmas.Bool.{false≢true}
use Rattle.std.proofs.lemmas.Bool.Decides.{nat_tests}
use Rattle.gm_jobs.specs.Hints.{HintList}
use Rattle.gm_jobs.specs.Deadlines.{AllListed, listing}
use Rattle.gm_jobs.proofs.DeadlineLemmas.{listed_popped}
use Rattle.gm_jobs.proofs.deadlines.gather.Goals as goal
use Rattle.gm_jobs.proofs.deadlines.gather.Goals.{then-eq, else-eq}

pub loop-deadline-preserved : goal.loop-deadline-preserved
loop-deadline-preserved c =
    let jobs = c.args.jobs.now.entries in
    let old = c.loop-deadline in
    let popped = listed_popped jobs old.waiting c.pop.new.self old.reached in
    elim c.if-eq.branch [
      | then-eq w ↦ subst (λ (r : HintList). AllListed jobs (listing c.pop.new.self r)) (sym w.reached-is)
          (popped w.put_once.new.self c.in-Some.deadline c.in-Some.number old.invariant c.pop.ensures.kept w.put_once.ensures.kept (sym c.first.ensures.first ∙ c.in-Some.is) (λ _. w.put_once.ensures.stands))
      | else-eq w ↦ subst (λ (r : HintList). AllListed jobs (listing c.pop.new.self r)) (sym w.reached-is)
          (popped old.reached c.in-Some.deadline c.in-Some.number old.invariant c.pop.ensures.kept (record { whole = λ e. e; numbers = λ n s h. h }) (sym c.first.ensures.first ∙ c.in-Some.is) (λ is. absurd (false≢true (sym w.if-eq.false ∙ c.eq.ensures ∙ ap (λ o. option_eq eqb o (Some c.in-Some.deadline)) (c.deadline_of.ensures ∙ is) ∙ grind (arith, nat_tests)))))
    ]

pub returns-then-deadline-now-clause-later : goal.returns-then-deadline-now-clause-later
returns-then-deadline-now-clause-later c = λ d n there. let least = c.in-Some.ensures.least d n there in omega arith
