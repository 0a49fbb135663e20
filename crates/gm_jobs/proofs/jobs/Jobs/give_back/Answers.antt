use Rattle.std.proofs.Common.{refl, ap, ◌∙◌}
use Rattle.std.specs.Option.{option_map}
use Rattle.gm_jobs.specs.Live.{given_back, is_orphan}
use Rattle.gm_jobs.specs.Tables.{passes}
use Rattle.gm_jobs.proofs.JobLemmas.{beside, kept_changed, listed_of, listed_others, given_back_same, given_back_found, this_job}
use Rattle.gm_jobs.proofs.jobs.Jobs.give_back.Goals as goal

pub enlist-requires-clause-others : goal.enlist-requires-clause-others
enlist-requires-clause-others c =
    let t = c.self.inside in
    listed_others c.args.n (given_back c.args.limit) t.jobs.entries c.change-changed.new.self.entries (c.change-changed.ensures.free refl) t.deadlines (listed_of (beside t) t.jobs.entries t.reservation _ c.self.invariant)

pub invariant_of-self : goal.invariant_of-self
invariant_of-self c =
    let t = c.self.inside in
    kept_changed (beside t) c.args.n (given_back c.args.limit) t.jobs.entries c.change-changed.new.self.entries c.put_orphan.new.self c.enlist.new.self t.reservation _ _ c.self.invariant (c.change-changed.ensures.free refl)
    (λ l. given_back_same c.args.limit l (λ x. x.function) refl refl) (λ l. given_back_same c.args.limit l (λ x. x.unique) refl refl) c.change-changed.ensures.room
    (λ q m s h. c.put_orphan.ensures.kept q m h)
    (λ q l at met. given_back_found c.args.limit l c.put_orphan.new.self c.args.n
    (λ orphan. c.put_orphan.ensures.stands (ap (passes is_orphan) (this_job c.args.n (given_back c.args.limit) t.jobs.entries c.change-changed.new.self.entries (c.change-changed.ensures.free refl) ∙ ap (option_map (given_back c.args.limit)) at) ∙ orphan)) q met)
    c.enlist.ensures
