use Rattle.std.proofs.Common.{List, sym, subst}
use Rattle.gm_jobs.specs.MinHeap.{Pair}
use Rattle.gm_jobs.specs.Hints.{HintList}
use Rattle.gm_jobs.specs.Deadlines.{DeadlineTable, AllListed, listing}
use Rattle.gm_jobs.proofs.deadlines.Deadlines.reserve.Goals as goal

pub returns-in_err-reserve : goal.returns-in_err-reserve
returns-in_err-reserve c = λ all.
    subst (λ (ps : List Pair). AllListed c.args.jobs.now.entries (listing ps c.self.inside.reached)) (sym c.reserve.ensures) (subst (λ (t : DeadlineTable). AllListed c.args.jobs.now.entries t) (sym c.self.view_is) all)

pub returns-in_err-reserve-2 : goal.returns-in_err-reserve-2
returns-in_err-reserve-2 c = λ all.
    subst (λ (r : HintList). AllListed c.args.jobs.now.entries (listing c.reserve.new.self r)) (sym c.reserve-2.ensures)
    (subst (λ (ps : List Pair). AllListed c.args.jobs.now.entries (listing ps c.self.inside.reached)) (sym c.reserve.ensures) (subst (λ (t : DeadlineTable). AllListed c.args.jobs.now.entries t) (sym c.self.view_is) all))
