-- How the live jobs are kept in a slab, under keys that their numbers lead to.
use Rattle.std.specs.Prelude.{◌≡◌, ◌≢◌, ℕ, nat_eq, List, [], ◌∷◌, Option, Some, None}
use Rattle.std.specs.List.{IsDistinct}
use Rattle.std.specs.Map.{lookup, keys_of}
use Rattle.slab.specs.Slab.{Slab, get, slab_len}
use Rattle.gm_jobs.specs.declared.by_number.Entry.{Entry}
use Rattle.gm_jobs.specs.Live.{Live}

abbrev pub card : Option Entry → Option (ℕ × Live)
card None = None
card (Some entry) = Some (entry.number, entry.job)

-- the number and the job at each key
abbrev pub held : Slab Entry → ℕ → Option (ℕ × Live)
held slab k = card (get slab k)

-- the live jobs by their numbers, and for how many more there is room
pub record JobTable : Type 0 where
  pub entries : List (ℕ × Live)
  pub room : ℕ

abbrev pub with_job : ℕ → Option (ℕ × Live) → List (ℕ × Live) → List (ℕ × Live)
with_job n None rest = rest
with_job n (Some q) rest = (n, q.1) ∷ rest

-- these numbers, each with the job that its key leads to
abbrev pub jobs_of : List (ℕ × ℕ) → (ℕ → Option (ℕ × Live)) → List (ℕ × Live)
jobs_of [] at = []
jobs_of (p ∷ ps) at = with_job p.0 (at p.1) (jobs_of ps at)

-- A number leads to the key at which it is, and no number is there twice.
pub record IsIndexed (keys : List (ℕ × ℕ)) (at : ℕ → Option (ℕ × Live)) : Type 0 where
  pub leads : (n k : ℕ) → lookup (nat_eq n) keys ≡ Some k → (live : Live) × (at k ≡ Some (n, live))
  pub stands : (k n : ℕ) (live : Live) → at k ≡ Some (n, live) → lookup (nat_eq n) keys ≡ Some k
  pub distinct : IsDistinct nat_eq (keys_of keys)

abbrev pub with_live : (Live → Live) → Option (ℕ × Live) → Option (ℕ × Live)
with_live change None = None
with_live change (Some q) = Some (q.0, change q.1)

-- The job at a key, if there is one, is what the change makes of it, and the others are as before.
pub record Changed (key : ℕ) (change : Live → Live) (old new : Slab Entry) : Type 0 where
  pub here : held new key ≡ with_live change (held old key)
  pub others : (k : ℕ) → k ≢ key → held new k ≡ held old k
  pub len : slab_len new ≡ slab_len old
  pub capacity : new.capacity ≡ old.capacity
