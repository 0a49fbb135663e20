use Rattle.std.proofs.Common.{refl, sym, ap, ◌∙◌}
use Rattle.gm_jobs.specs.Live.{Live, assigned}
use Rattle.gm_jobs.proofs.HintLemmas.{assigned_found}
use Rattle.gm_jobs.proofs.JobLemmas.{beside, kept_changed, listed_of, listed_others, this_job, mapped}
use Rattle.gm_jobs.proofs.jobs.Jobs.assign.Goals as goal

pub enlist-requires-clause-others : goal.enlist-requires-clause-others
enlist-requires-clause-others c =
    let t = c.self.inside in
    listed_others c.args.n (assigned c.args.slot c.args.deadline) t.jobs.entries c.change-changed.new.self.entries (c.change-changed.ensures.free refl) t.deadlines (listed_of (beside t) t.jobs.entries t.reservation _ c.self.invariant)

pub enlist-requires-clause-this : goal.enlist-requires-clause-this
enlist-requires-clause-this c = λ live found.
    let t = c.self.inside in
    let change = c.change-changed.ensures.free refl in
    let was = mapped c.args.n (assigned c.args.slot c.args.deadline) t.jobs.entries c.change-changed.new.self.entries change _ live (sym (this_job c.args.n (assigned c.args.slot c.args.deadline) t.jobs.entries c.change-changed.new.self.entries change) ∙ found) in
    ap (λ (l : Live). l.deadline) (sym was.2)

pub invariant_of-self : goal.invariant_of-self
invariant_of-self c =
    let t = c.self.inside in
    kept_changed (beside t) c.args.n (assigned c.args.slot c.args.deadline) t.jobs.entries c.change-changed.new.self.entries c.put.new.self c.enlist.new.self t.reservation _ _ c.self.invariant
    (c.change-changed.ensures.free refl) (λ l. refl) (λ l. refl) c.change-changed.ensures.room (λ q m s h. c.put.ensures.kept q m h) (λ q l at met. assigned_found c.put.new.self c.args.n c.args.slot c.args.deadline c.put.ensures.stands q l met) c.enlist.ensures
