use Rattle.std.proofs.Common.{sym, subst}
use Rattle.gm_jobs.specs.Deadlines.{AllListed}
use Rattle.gm_jobs.proofs.jobs.make_room.Goals as goal

pub returns-in_err-reserve-clause-listed : goal.returns-in_err-reserve-clause-listed
returns-in_err-reserve-clause-listed c = λ all.
    subst (λ es. AllListed es c.reserve.new.self) c.in_ok-reserve_one.ensures.entries (c.reserve.ensures (subst (λ es. AllListed es c.args.deadlines.now) (sym c.in_ok-reserve_one.ensures.entries) all))

pub returns-clause-listed : goal.returns-clause-listed
returns-clause-listed c = λ all.
    subst (λ es. AllListed es c.reserve.new.self) c.in_ok-reserve_one.ensures.entries (c.reserve.ensures (subst (λ es. AllListed es c.args.deadlines.now) (sym c.in_ok-reserve_one.ensures.entries) all))
