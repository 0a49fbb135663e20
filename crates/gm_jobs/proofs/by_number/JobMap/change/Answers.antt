use Rattle.std.proofs.Common.{◌≡◌, ◌⊎◌, ℕ, Option, Some, None, is_some, inl, inr, refl, sym, ap, subst, ◌∙◌}
use Rattle.std.specs.Map.{keys_of}
use Rattle.std.proofs.lemmas.Bool.{cases_eq}
use Rattle.gm_jobs.specs.Live.{Live}
use Rattle.gm_jobs.specs.Tables.{find_job}
use Rattle.gm_jobs.specs.Changes.{changed, ChangesJob}
use Rattle.gm_jobs.specs.ByNumber.{JobTable, held, jobs_of, with_live, Changed, IsIndexed}
use Rattle.gm_jobs.proofs.EntryLemmas.{find_none, indexed_changed, changes_job, changes_none, numbers_same}
use Rattle.gm_jobs.proofs.NumberLemmas.{either, on_ok, on_ok_map}
use Rattle.gm_jobs.proofs.by_number.JobMap.change.Goals as goal
use Rattle.gm_jobs.proofs.by_number.JobMap.change.Goals.{After-change_at}

module _ (c : After-change_at) (f : Live → Live) (change : Changed c.in-Some.key.now f c.self.inside.slab c.change_at.new.slab) where
  indexed : IsIndexed c.self.inside.keys.entries (held c.change_at.new.slab)
  indexed = indexed_changed c.self.inside.keys.entries (held c.self.inside.slab) c.self.invariant c.args.number c.in-Some.key.now (held c.change_at.new.slab) change.others (sym c.in-Some.ensures.value) f change.here

  changes : ChangesJob c.args.number f c.args.self.now.entries (jobs_of c.self.inside.keys.entries (held c.change_at.new.slab))
  changes = subst (λ (s : JobTable). ChangesJob c.args.number f s.entries (jobs_of c.self.inside.keys.entries (held c.change_at.new.slab))) c.self.view_is
      (changes_job c.self.inside.keys.entries (held c.self.inside.slab) c.self.invariant c.args.number c.in-Some.key.now (held c.change_at.new.slab) change.others (sym c.in-Some.ensures.value) f change.here)

pub invariant_of-self : goal.invariant_of-self
invariant_of-self c =
    let d = (goal.at.invariant_of-self c).After-change_at in
    elim (either c.change_at.result c.change_at.ensures.ok c.change_at.ensures.err) [
      | inl change ↦ indexed d (changed c.args.change) change
      | inr same ↦ indexed d (λ live. live) same
    ]

pub returns-in-Some-clause-ok : goal.returns-in-Some-clause-ok
returns-in-Some-clause-ok c =
    let d = (goal.at.returns-in-Some-clause-ok c).After-change_at in
    on_ok_map c.change_at.result (changes d (changed c.args.change)) c.change_at.ensures.ok

pub returns-in-Some-clause-free : goal.returns-in-Some-clause-free
returns-in-Some-clause-free c =
    let d = (goal.at.returns-in-Some-clause-free c).After-change_at in
    λ free. changes d (changed c.args.change) (on_ok c.change_at.result (c.change_at.ensures.succeeds free) c.change_at.ensures.ok)

pub returns-in-None-clause-ok : goal.returns-in-None-clause-ok
returns-in-None-clause-ok c =
    let t = c.self.inside in
    changes_none c.args.number (changed c.args.change) c.args.self.now.entries (sym (ap (λ (s : JobTable). find_job s.entries c.args.number) c.self.view_is) ∙ find_none t.keys.entries (held t.slab) c.self.invariant c.args.number (sym c.in-None.ensures.value))

pub returns-in-None-clause-free : goal.returns-in-None-clause-free
returns-in-None-clause-free c =
    let t = c.self.inside in
    λ free. changes_none c.args.number (changed c.args.change) c.args.self.now.entries (sym (ap (λ (s : JobTable). find_job s.entries c.args.number) c.self.view_is) ∙ find_none t.keys.entries (held t.slab) c.self.invariant c.args.number (sym c.in-None.ensures.value))

stays_there : (c : After-change_at) (f : Live → Live) → Changed c.in-Some.key.now f c.self.inside.slab c.change_at.new.slab → (k : ℕ) → is_some (held c.change_at.new.slab k) ≡ is_some (held c.self.inside.slab k)
stays_there c f change k = by (cases_eq k c.in-Some.key.now)
  where
    with_some : (o : Option (ℕ × Live)) → is_some (with_live f o) ≡ is_some o
    with_some None = refl
    with_some (Some q) = refl

    by : (k ≡ c.in-Some.key.now) ⊎ (k ≡ c.in-Some.key.now → ⊥) → is_some (held c.change_at.new.slab k) ≡ is_some (held c.self.inside.slab k)
    by (inl e) = subst (λ i. is_some (held c.change_at.new.slab i) ≡ is_some (held c.self.inside.slab i)) (sym e) (ap is_some change.here ∙ with_some (held c.self.inside.slab c.in-Some.key.now))
    by (inr ne) = ap is_some (change.others k ne)

pub returns-in-Some-clause-numbers : goal.returns-in-Some-clause-numbers
returns-in-Some-clause-numbers c =
    let d = (goal.at.returns-in-Some-clause-numbers c).After-change_at in
    numbers_same c.self.inside.keys.entries (held c.self.inside.slab) (held c.change_at.new.slab)
    (elim (either c.change_at.result c.change_at.ensures.ok c.change_at.ensures.err) [
      | inl change ↦ stays_there d (changed c.args.change) change
      | inr same ↦ stays_there d (λ live. live) same
    ])
    ∙ ap (λ (s : JobTable). keys_of s.entries) c.self.view_is
