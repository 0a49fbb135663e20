use Rattle.std.proofs.Common.{◌≡◌, ◌≢◌, ℕ, ◌==◌, if◌then◌else◌, List, Option, None, refl, sym, ap, subst, ◌∙◌}
use Rattle.std.specs.Option.{option_map}
use Rattle.gm_jobs.specs.Live.{Live}
use Rattle.gm_jobs.specs.declared.by_number.Entry.{Entry}
use Rattle.gm_jobs.specs.Tables.{find_job}
use Rattle.gm_jobs.specs.ByNumber.{JobTable, card, held, jobs_of, IsIndexed}
use Rattle.gm_jobs.proofs.EntryLemmas.{find_here, find_none, indexed_removed, find_removed}
use Rattle.gm_jobs.proofs.NumberLemmas.{at_number}
use Rattle.gm_jobs.proofs.by_number.JobMap.remove.Goals as goal
use Rattle.gm_jobs.proofs.by_number.JobMap.remove.Goals.{After-remove, In_err-key}

others : (c : After-remove) (j : ℕ) → j ≢ c.in_ok-key.key → held c.remove.new.self j ≡ held c.self.inside.slab j
others c j ne = ap card (c.remove.ensures.updates.others j ne)

indexed : (c : After-remove) → IsIndexed c.swap_remove.new.self.entries (held c.remove.new.self)
indexed c =
    let t = c.self.inside in
    indexed_removed t.keys.entries (held t.slab) c.self.invariant c.args.number c.in_ok-key.key (held c.remove.new.self) (others c) c.swap_remove.new.self.entries c.swap_remove.ensures.unique
    (sym c.in_ok-key.ensures.value) c.swap_remove.ensures.updates.0 (ap card c.remove.ensures.updates.changed)

pub invariant_of-self-2 : goal.invariant_of-self-2
invariant_of-self-2 c = indexed (goal.at.invariant_of-self-2 c).After-remove

pub returns-clause-jobs : goal.returns-clause-jobs
returns-clause-jobs c =
    let d = (goal.at.returns-clause-jobs c).After-remove in
    let t = c.self.inside in
    λ m. subst (λ (s : JobTable). find_job (jobs_of c.swap_remove.new.self.entries (held c.remove.new.self)) m ≡ (if c.args.number == m then None else find_job s.entries m)) c.self.view_is
    (find_removed t.keys.entries (held t.slab) c.self.invariant c.args.number c.in_ok-key.key (held c.remove.new.self) (others d) c.swap_remove.new.self.entries c.swap_remove.ensures.unique
    (sym c.in_ok-key.ensures.value) c.swap_remove.ensures.updates.0 (ap card c.remove.ensures.updates.changed) m)

pub returns-clause-removed : goal.returns-clause-removed
returns-clause-removed c =
    let t = c.self.inside in
    sym (ap (λ (o : Option Entry). option_map (λ (q : ℕ × Live). q.1) (card o)) c.remove.ensures.value)
    ∙ sym (find_here t.keys.entries (held t.slab) c.self.invariant c.args.number c.in_ok-key.key (sym c.in_ok-key.ensures.value))
    ∙ ap (λ (s : JobTable). find_job s.entries c.args.number) c.self.view_is

none_of : (c : In_err-key) → find_job c.args.self.now.entries c.args.number ≡ None
none_of c =
    let t = c.self.inside in
    ap (λ (s : JobTable). find_job s.entries c.args.number) (sym c.self.view_is) ∙ find_none t.keys.entries (held t.slab) c.self.invariant c.args.number (sym c.in_err-key.ensures.value)

pub returns-in_err-key-clause-removed : goal.returns-in_err-key-clause-removed
returns-in_err-key-clause-removed c = c.from_residual.ensures ∙ sym (none_of (goal.at.returns-in_err-key-clause-removed c).In_err-key)

pub returns-in_err-key-clause-jobs : goal.returns-in_err-key-clause-jobs
returns-in_err-key-clause-jobs c =
    let t = c.self.inside in
    λ m. ap (λ (es : List (ℕ × ℕ)). find_job (jobs_of es (held t.slab)) m) c.in_err-key.ensures.unchanged ∙ ap (λ (s : JobTable). find_job s.entries m) c.self.view_is
    ∙ at_number c.args.number m _ _ _ (λ e. ap (find_job c.args.self.now.entries) (sym e) ∙ none_of (goal.at.returns-in_err-key-clause-jobs c).In_err-key) (λ ne. refl)
