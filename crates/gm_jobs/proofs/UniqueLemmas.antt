-- What is true of the jobs to which unique ids lead.
use Rattle.std.proofs.Common.{◌≡◌, ℕ, List, subst}
use Rattle.std.specs.declared.hash.RandomState.{RandomState}
use Rattle.gm_jobs.specs.Uniques.{IdTable, LeadsTo, digest_of}

-- what one name leads to the same name leads to
pub leads_same : (ids : IdTable) (seed : RandomState) (f g n m : ℕ) (u v : List ℕ) → f ≡ g → u ≡ v → n ≡ m → LeadsTo ids (digest_of seed f u) n → LeadsTo ids (digest_of seed g v) m
leads_same ids seed f g n m u v e h k l =
    subst (λ i. LeadsTo ids (digest_of seed g v) i) k (subst (λ w. LeadsTo ids (digest_of seed g w) n) h (subst (λ i. LeadsTo ids (digest_of seed i u) n) e l))
