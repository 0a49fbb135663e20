-- What a table with other functions is to its callers.
use Rattle.std.proofs.Common.{◌≡◌, ℕ, zero, suc, ◌+◌, ◌*◌, ◌≤◌, inl, inr, List, [], ◌∷◌, ◌++◌, length, get_or, take, refl, sym, arith}
use Rattle.std.proofs.lemmas.List.{get_or_past}
use Rattle.std.proofs.lemmas.Bool.{cases_lt}
use Rattle.gm_notes.specs.declared.states.Priority.{Priority}
use Rattle.gm_notes.specs.declared.states.Priority.TheVariants.{High, Normal, Low}
use Rattle.gm_queues.specs.Queues.{no_jobs}
use Rattle.gm_notes.specs.Jobs.{rank}
use Rattle.gm_queues.specs.FunctionTables.{Table, ChangesNames, IsFree}

module _ {A : Type 0} (d : A) where
  -- a list with defaults at its end has the same element everywhere
  padded : (xs ys : List A) → ((i : ℕ) → get_or ys i d ≡ d) → (i : ℕ) → get_or (xs ++ ys) i d ≡ get_or xs i d
  padded [] ys all i = all i
  padded (x ∷ xs) ys all zero = refl
  padded (x ∷ xs) ys all (suc i) = padded xs ys all i

  -- and so has one that is cut, where there were defaults behind the cut
  cut : (xs : List A) (n i : ℕ) → (n ≤ i → get_or xs i d ≡ d) → get_or (take n xs) i d ≡ get_or xs i d
  cut [] zero i free = refl
  cut [] (suc n) i free = refl
  cut (x ∷ xs) zero i free = sym (free (omega arith))
  cut (x ∷ xs) (suc n) zero free = refl
  cut (x ∷ xs) (suc n) (suc i) free = cut xs n i (λ h. free (omega arith))

  one : (i : ℕ) → get_or (d ∷ []) i d ≡ d
  one zero = refl
  one (suc i) = refl

  three : (i : ℕ) → get_or (d ∷ d ∷ d ∷ []) i d ≡ d
  three zero = refl
  three (suc zero) = refl
  three (suc (suc zero)) = refl
  three (suc (suc (suc i))) = refl

-- a function more
pub with_function : (t : Table) (name : List ℕ)
    → ChangesNames (t.names ++ name ∷ []) t (record { seed = t.seed; most = t.most; names = t.names ++ name ∷ []; limits = t.limits ++ 0 ∷ []; queues = t.queues ++ no_jobs ∷ no_jobs ∷ no_jobs ∷ [] })
with_function t name = record {
  seed = refl;
  most = refl;
  names = refl;
  limits = λ g. padded 0 t.limits (0 ∷ []) (one 0) g;
  queues = λ g q. padded no_jobs t.queues (no_jobs ∷ no_jobs ∷ no_jobs ∷ []) (three no_jobs) (3 * g + rank q);
}

rank_small : (p : Priority) → rank p ≤ 2
rank_small High = omega arith
rank_small Normal = omega arith
rank_small Low = omega arith

module _ (t : Table) (last : ℕ) (limits : length t.limits ≡ last + 1) (queues : length t.queues ≡ 3 * (last + 1)) (free : IsFree last t) where
  no_limit : (g : ℕ) → last ≤ g → get_or t.limits g 0 ≡ 0
  no_limit g h = elim (cases_lt last g) [ inl above ↦ get_or_past t.limits g 0 (omega arith) | inr same ↦ (let e : g ≡ last = omega arith in rw e free.limit) ]

  no_queue : (g : ℕ) (q : Priority) → 3 * last ≤ 3 * g + rank q → get_or t.queues (3 * g + rank q) no_jobs ≡ no_jobs
  no_queue g q h =
      let small = rank_small q in
      elim (cases_lt last g) [ inl above ↦ get_or_past t.queues (3 * g + rank q) no_jobs (omega arith) | inr same ↦ (let e : g ≡ last = omega arith in rw e (free.queues q)) ]

  -- a function less
  pub without_function : ChangesNames (take last t.names) t (record { seed = t.seed; most = t.most; names = take last t.names; limits = take last t.limits; queues = take (3 * last) t.queues })
  without_function = record {
    seed = refl;
    most = refl;
    names = refl;
    limits = λ g. cut 0 t.limits last g (no_limit g);
    queues = λ g q. cut no_jobs t.queues (3 * last) (3 * g + rank q) (no_queue g q);
  }
