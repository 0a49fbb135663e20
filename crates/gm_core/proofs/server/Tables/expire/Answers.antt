use Rattle.std.proofs.Common.{ap, false}
use Rattle.gm_packet.specs.Answers.{work_fail}
use Rattle.gm_notes.specs.Closings.{expire_one}
use Rattle.gm_notes.specs.Jobs.{handle, listeners}
use Rattle.gm_notes.specs.Past.{tell_all}
use Rattle.gm_notes.specs.Workers.{hearers}
use Rattle.gm_core.specs.Holds.{Goes}
use Rattle.gm_core.specs.Writing.{Text}
use Rattle.gm_core.proofs.CoreLemmas.{goes_then, goes_as, kept_then}
use Rattle.gm_core.proofs.TickLemmas.{due_runs, expires_so}
use Rattle.gm_core.proofs.WorkLemmas.{told_goes}
use Rattle.gm_core.proofs.server.Tables.expire.Goals as goal
use Rattle.gm_core.proofs.server.Tables.expire.Goals.{After-put_each}

-- its listeners were told
told : (c : After-put_each) → Goes c.args.self.now (record c.args.self.now { conns = c.put_each.new.conns })
    (λ past. tell_all (work_fail (handle c.args.self.now.config c.args.late.job)) (hearers false (listeners c.args.late.job past.notes) past.notes) past)
told c =
    let old = c.args.self.now in
    let n = c.args.late.job in
    told_goes old c.put_each.new.conns n false c.args.late.text.bytes c.listeners-slots.result.now (due_runs old.moment _ c.requires.due) c.listeners-slots.ensures c.put_each.ensures.poured.touched c.put_each.ensures.holds (work_fail (handle old.config n))
    (ap (λ (t : Text). t.bytes) c.requires.text)

pub end-ended-requires-clause-kept : goal.end-ended-requires-clause-kept
end-ended-requires-clause-kept c = kept_then (told (goal.at.end-ended-requires-clause-kept c).After-put_each) c.requires.kept

pub returns-clause-goes : goal.returns-clause-goes
returns-clause-goes c =
    let old = c.args.self.now in
    let n = c.args.late.job in
    let k = old.config in
    goes_as (expire_one k n)
    (goes_then (told (goal.at.returns-clause-goes c).After-put_each) c.end-ended.ensures.goes)
    (λ p keeps. expires_so old p keeps n k c.requires.due)
