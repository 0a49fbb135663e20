use Rattle.std.proofs.Common.{◌≡◌, ◌≢◌, ℕ, ◌==◌, if◌then◌else◌, nat_eq, IsOk, Some, None, ap, subst, ◌∙◌, arith}
use Rattle.std.specs.Map.{lookup}
use Rattle.gm_jobs.specs.Tables.{find_job}
use Rattle.gm_jobs.specs.ByNumber.{JobTable, card, held, jobs_of, IsIndexed}
use Rattle.gm_jobs.proofs.EntryLemmas.{leads_nowhere, indexed_inserted, find_inserted}
use Rattle.slab.specs.Slab.{get}
use Rattle.gm_jobs.proofs.NumberLemmas.{on_ok}
use Rattle.gm_jobs.proofs.by_number.JobMap.insert.Goals as goal
use Rattle.gm_jobs.proofs.by_number.JobMap.insert.Goals.{After-insert-fits}

fits : (c : After-insert-fits) → IsOk c.insert-fits.result
fits c = c.insert-fits.ensures.succeeds (let room = ap (λ (s : JobTable). s.room) c.self.view_is in omega (arith, c.requires.room))

absent : (c : After-insert-fits) → lookup (nat_eq c.args.number) c.self.inside.keys.entries ≡ None
absent c = leads_nowhere c.self.inside.keys.entries (held c.self.inside.slab) c.self.invariant c.args.number (ap (λ (s : JobTable). find_job s.entries c.args.number) c.self.view_is ∙ c.requires.absent)

others : (c : After-insert-fits) (j : ℕ) → j ≢ c.insert_reserved-key.result → held c.insert_reserved-key.new.self j ≡ held c.self.inside.slab j
others c j ne = ap card (c.insert_reserved-key.ensures.updates.others j ne)

came : (c : After-insert-fits) (q : ℕ) → lookup (nat_eq q) c.insert-fits.new.self.entries ≡ (if c.args.number == q then Some c.insert_reserved-key.result else lookup (nat_eq q) c.self.inside.keys.entries)
came c = (on_ok c.insert-fits.result (fits c) c.insert-fits.ensures.updates).0

here : (c : After-insert-fits) → get c.insert_reserved-key.new.self c.insert_reserved-key.result ≡ Some (record { number = c.args.number; job = c.args.job })
here c = c.insert_reserved-key.ensures.updates.changed

indexed : (c : After-insert-fits) → IsIndexed c.insert-fits.new.self.entries (held c.insert_reserved-key.new.self)
indexed c =
    let t = c.self.inside in
    indexed_inserted t.keys.entries (held t.slab) c.self.invariant c.args.number c.insert_reserved-key.result (held c.insert_reserved-key.new.self) (others c) c.insert-fits.new.self.entries c.insert-fits.ensures.unique
    c.args.job (absent c) (ap card c.insert_reserved-key.ensures.was_vacant) (came c) (ap card (here c))

pub invariant_of-self : goal.invariant_of-self
invariant_of-self c = indexed (goal.at.invariant_of-self c).After-insert-fits

pub returns : goal.returns
returns c =
    let d = (goal.at.returns c).After-insert-fits in
    let t = c.self.inside in
    record {
      jobs = λ m. subst (λ (s : JobTable). find_job (jobs_of c.insert-fits.new.self.entries (held c.insert_reserved-key.new.self)) m ≡ (if c.args.number == m then Some c.args.job else find_job s.entries m)) c.self.view_is
          (find_inserted t.keys.entries (held t.slab) c.self.invariant c.args.number c.insert_reserved-key.result (held c.insert_reserved-key.new.self) (others d) c.insert-fits.new.self.entries c.insert-fits.ensures.unique
          c.args.job (absent d) (ap card c.insert_reserved-key.ensures.was_vacant) (came d) (ap card (here d)) m);
    }
