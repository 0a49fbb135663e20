use Rattle.std.proofs.Common.{◌≡◌, ◌<◌, Some, IsOk, [], ◌∷◌, ◌++◌, length, sym, ap, subst, ◌∙◌, arith, length-append}
use Rattle.gm_queues.specs.Queues.{Queue, with_job, jobs_in}
use Rattle.gm_queues.proofs.QueueLemmas.{jobs_in-append}
use Rattle.gm_queues.proofs.ring.Ring.push.Goals as goal
use Rattle.gm_queues.proofs.ring.Ring.push.Goals.{After-add}

-- room is reserved, so the job is the last entry
entries_after : (c : After-add) → c.push_back-pushed.new.self.items ≡ c.self.inside.entries.items ++ Some c.args.job ∷ []
entries_after c =
    let free = subst (λ (q : Queue). length q.jobs < q.reserved) (sym c.self.view_is) c.requires in
    let ok : IsOk c.push_back-pushed.result = c.push_back-pushed.ensures.succeeds (omega arith) in
    rw ok at c.push_back-pushed.ensures.items

jobs_after : (c : After-add) → jobs_in c.push_back-pushed.new.self.items ≡ jobs_in c.self.inside.entries.items ++ c.args.job ∷ []
jobs_after c = ap jobs_in (entries_after c) ∙ jobs_in-append c.self.inside.entries.items (Some c.args.job ∷ [])

pub invariant_of-self : goal.invariant_of-self
invariant_of-self c =
    let d = (goal.at.invariant_of-self c).After-add in
    let free = subst (λ (q : Queue). length q.jobs < q.reserved) (sym c.self.view_is) c.requires in
    let longer = ap length (jobs_after d) ∙ length-append (jobs_in c.self.inside.entries.items) (c.args.job ∷ []) in
    let ok : IsOk c.push_back-pushed.result = c.push_back-pushed.ensures.succeeds (omega arith) in
    let len = rw ok at c.push_back-pushed.ensures.len in
    (omega arith, omega arith, omega arith, omega arith)

pub returns : goal.returns
returns c =
    ap (λ jobs. record { jobs = jobs; reserved = c.self.inside.reserved }) (jobs_after (goal.at.returns c).After-add)
    ∙ ap (with_job c.args.job) c.self.view_is
