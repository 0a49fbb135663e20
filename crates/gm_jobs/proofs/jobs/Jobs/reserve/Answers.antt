use Rattle.std.proofs.Common.{Some, is_some, sym, ap, subst}
use Rattle.gm_jobs.specs.Kept.{IsKept}
use Rattle.gm_jobs.proofs.JobLemmas.{beside, kept_room, kept_ready, listed_of}
use Rattle.gm_jobs.proofs.jobs.Jobs.reserve.Goals as goal
use Rattle.gm_jobs.proofs.jobs.Jobs.reserve.Goals.{After-make_room}

-- room in each table leaves what is kept
roomy : (c : After-make_room) → IsKept (record (beside c.self.inside) { uniques = c.make_room.new.uniques; deadlines = c.make_room.new.deadlines }) c.self.inside.reservation c.make_room.new.jobs.room c.self.inside.jobs.entries
roomy c =
    let t = c.self.inside in
    let e = c.make_room.ensures in
    kept_room (beside t) t.jobs.entries c.make_room.new.uniques t.index c.make_room.new.deadlines t.reservation _ _ c.self.invariant e.slots e.led e.ids c.self.invariant.found (e.listed (listed_of (beside t) t.jobs.entries t.reservation _ c.self.invariant))

pub invariant_of-self : goal.invariant_of-self
invariant_of-self c =
    let t = c.self.inside in
    subst (λ es. IsKept (record (beside t) { uniques = c.make_room.new.uniques; deadlines = c.make_room.new.deadlines }) t.reservation c.make_room.new.jobs.room es) (sym c.make_room.ensures.jobs)
    (roomy (goal.at.invariant_of-self c).After-make_room)

pub invariant_of-self-2 : goal.invariant_of-self-2
invariant_of-self-2 c =
    let t = c.self.inside in
    let b = record (beside t) { uniques = c.make_room.new.uniques; deadlines = c.make_room.new.deadlines } in
    let ok = c.in_ok-make_room.ensures.ok in
    subst (λ es. IsKept b (Some c.in_ok-reservation.reservation) c.make_room.new.jobs.room es) (sym c.make_room.ensures.jobs)
    (kept_ready b t.jobs.entries t.reservation (Some c.in_ok-reservation.reservation) c.make_room.new.jobs.room (roomy (goal.at.invariant_of-self-2 c).After-make_room)
    (record { job = ok.0; id = ok.1; number = ap is_some c.in-Some.is }))
