-- What is true of jobs that stand in a slab, under keys that their numbers lead to.
use Rattle.std.proofs.Common.{◌≡◌, ◌≢◌, ℕ, zero, suc, ◌⊎◌, inl, inr, Bool, true, false, cond, if◌then◌else◌, ◌==◌, List, []}
use Rattle.std.proofs.Common.{◌∷◌, length, slice_get, Option, Some, None, IsSome, is_some, nat_eq, refl, sym, ap, ◌∙◌, arith}
use Rattle.std.specs.Cmp.{nat_eq_equiv}
use Rattle.std.specs.List.{IsDistinct}
use Rattle.std.specs.Map.{lookup, keys_of}
use Rattle.std.proofs.lemmas.Map.Entries.{lookup_from_place}
use Rattle.std.specs.Option.{option_map}
use Rattle.std.proofs.lemmas.Bool.{cases_eq, false≢true}
use Rattle.gm_jobs.specs.Live.{Live}
use Rattle.gm_jobs.specs.Tables.{find_job}
use Rattle.gm_jobs.proofs.NumberLemmas.{at_number, number_same, number_other, not_some}
use Rattle.gm_jobs.specs.Changes.{ChangesJob}
use Rattle.gm_jobs.specs.ByNumber.{with_job, with_live, jobs_of, IsIndexed}
use Rattle.std.proofs.lemmas.Option.{same_Some}

abbrev At : Type 0
At = ℕ → Option (ℕ × Live)

abbrev found : Option ℕ → At → Option Live
found None at = None
found (Some k) at = option_map (λ (q : ℕ × Live). q.1) (at k)

-- what is found is what the number leads to
find_in : (n : ℕ) (keys : List (ℕ × ℕ)) (at : At) → ((k : ℕ) → lookup (nat_eq n) keys ≡ Some k → IsSome (at k)) → find_job (jobs_of keys at) n ≡ found (lookup (nat_eq n) keys) at
find_in n [] at h = refl
find_in n (p ∷ ps) at h = by (nat_eq n p.0) refl (at p.1) refl h (find_in n ps at)
  where
    by : (b : Bool) → nat_eq n p.0 ≡ b → (o : Option (ℕ × Live)) → at p.1 ≡ o → ((k : ℕ) → cond b (Some p.1) (lookup (nat_eq n) ps) ≡ Some k → IsSome (at k))
        → (((k : ℕ) → lookup (nat_eq n) ps ≡ Some k → IsSome (at k)) → find_job (jobs_of ps at) n ≡ found (lookup (nat_eq n) ps) at)
        → find_job (with_job p.0 o (jobs_of ps at)) n ≡ found (cond b (Some p.1) (lookup (nat_eq n) ps)) at
    by true e (Some q) f h rest = ap (λ t. cond t (Some q.1) (find_job (jobs_of ps at) n)) e ∙ sym (ap (option_map (λ (r : ℕ × Live). r.1)) f)
    by true e None f h rest = absurd (not_some (at p.1) f (h p.1 refl))
    by false e (Some q) f h rest = ap (λ t. cond t (Some q.1) (find_job (jobs_of ps at) n)) e ∙ rest h
    by false e None f h rest = rest h

number : (x y : ℕ × Live) → Some x ≡ Some y → x.0 ≡ y.0
number x y h = cc

module _ (keys : List (ℕ × ℕ)) (at : At) (i : IsIndexed keys at) where
  there : (n k : ℕ) → lookup (nat_eq n) keys ≡ Some k → IsSome (at k)
  there n k e = let l = i.leads n k e in ap is_some l.1

  pub find_found : (n : ℕ) → find_job (jobs_of keys at) n ≡ found (lookup (nat_eq n) keys) at
  find_found n = find_in n keys at (there n)

  pub find_here : (n k : ℕ) → lookup (nat_eq n) keys ≡ Some k → find_job (jobs_of keys at) n ≡ option_map (λ (q : ℕ × Live). q.1) (at k)
  find_here n k e = find_found n ∙ ap (λ o. found o at) e

  pub find_none : (n : ℕ) → lookup (nat_eq n) keys ≡ None → find_job (jobs_of keys at) n ≡ None
  find_none n e = find_found n ∙ ap (λ o. found o at) e

  -- where no job has the number, it leads nowhere
  pub leads_nowhere : (n : ℕ) → find_job (jobs_of keys at) n ≡ None → lookup (nat_eq n) keys ≡ None
  leads_nowhere n none = by (lookup (nat_eq n) keys) refl
    where
      by : (o : Option ℕ) → lookup (nat_eq n) keys ≡ o → o ≡ None
      by None e = refl
      by (Some k) e = let l = i.leads n k e in absurd (not_some (find_job (jobs_of keys at) n) none (ap is_some (find_here n k e ∙ ap (option_map (λ (q : ℕ × Live). q.1)) l.1)))

  -- two numbers don't lead to one key
  apart_keys : (n m k j : ℕ) → lookup (nat_eq n) keys ≡ Some k → lookup (nat_eq m) keys ≡ Some j → n ≢ m → j ≢ k
  apart_keys n m k j e f ne same =
      let l = i.leads n k e in
      let r = i.leads m j f in
      ne (number (n, l.0) (m, r.0) (sym l.1 ∙ ap at (sym same) ∙ r.1))

module _ (keys : List (ℕ × ℕ)) (at : At) (i : IsIndexed keys at) where
  -- what another number finds in other keys
  find_same : (keys' : List (ℕ × ℕ)) (at' : At) → IsIndexed keys' at' → (m : ℕ) → lookup (nat_eq m) keys' ≡ lookup (nat_eq m) keys → ((j : ℕ) → lookup (nat_eq m) keys ≡ Some j → at' j ≡ at j)
      → find_job (jobs_of keys' at') m ≡ find_job (jobs_of keys at) m
  find_same keys' at' i' m e same = find_found keys' at' i' m ∙ ap (λ o. found o at') e ∙ by (lookup (nat_eq m) keys) refl ∙ sym (find_found keys at i m)
    where
      by : (o : Option ℕ) → lookup (nat_eq m) keys ≡ o → found o at' ≡ found o at
      by None f = refl
      by (Some j) f = ap (option_map (λ (q : ℕ × Live). q.1)) (same j f)

  -- ---- a job changes, or ends, or comes
  module _ (n k : ℕ) (at' : At) (others : (j : ℕ) → j ≢ k → at' j ≡ at j) where
    module _ (here : lookup (nat_eq n) keys ≡ Some k) (f : Live → Live) (new : at' k ≡ with_live f (at k)) where
      pub indexed_changed : IsIndexed keys at'
      indexed_changed = record { leads = λ m j e. leads m j e (cases_eq j k); stands = λ j m live e. stands j m live e (cases_eq j k); distinct = i.distinct }
        where
          leads : (m j : ℕ) → lookup (nat_eq m) keys ≡ Some j → (j ≡ k) ⊎ (j ≡ k → ⊥) → (live : Live) × (at' j ≡ Some (m, live))
          leads m j e (inl same) =
              let l = i.leads m j e in
              (f l.0, ap at' same ∙ new ∙ ap (λ x. with_live f (at x)) (sym same) ∙ ap (with_live f) l.1)
          leads m j e (inr ne) = let l = i.leads m j e in (l.0, others j ne ∙ l.1)

          was : (o : Option (ℕ × Live)) (m : ℕ) (live : Live) → with_live f o ≡ Some (m, live) → (old : Live) × (o ≡ Some (m, old))
          was None m live e = cc
          was (Some q) m live e = (q.1, λ j. Some (number (q.0, f q.1) (m, live) e j, q.1))

          stands : (j m : ℕ) (live : Live) → at' j ≡ Some (m, live) → (j ≡ k) ⊎ (j ≡ k → ⊥) → lookup (nat_eq m) keys ≡ Some j
          stands j m live e (inl same) = let w = was (at j) m live (ap (λ x. with_live f (at x)) same ∙ sym new ∙ ap at' (sym same) ∙ e) in i.stands j m w.0 w.1
          stands j m live e (inr ne) = i.stands j m live (sym (others j ne) ∙ e)

      pub changes_job : ChangesJob n f (jobs_of keys at) (jobs_of keys at')
      changes_job = λ m. at_number n m _ _ _
          (λ same. ap (find_job (jobs_of keys at')) (sym same) ∙ find_here keys at' indexed_changed n k here ∙ ap (option_map (λ (q : ℕ × Live). q.1)) new ∙ twice (at k)
          ∙ sym (ap (option_map f) (ap (find_job (jobs_of keys at)) (sym same) ∙ find_here keys at i n k here)))
          (λ ne. find_same keys at' indexed_changed m refl (λ j e. others j (apart_keys keys at i n m k j here e ne)))
        where
          twice : (o : Option (ℕ × Live)) → option_map (λ (q : ℕ × Live). q.1) (with_live f o) ≡ option_map f (option_map (λ (q : ℕ × Live). q.1) o)
          twice None = refl
          twice (Some q) = refl

    module _ (keys' : List (ℕ × ℕ)) (distinct : IsDistinct nat_eq (keys_of keys')) where
      module _ (here : lookup (nat_eq n) keys ≡ Some k) (gone : (q : ℕ) → lookup (nat_eq q) keys' ≡ (if n == q then None else lookup (nat_eq q) keys)) (none : at' k ≡ None) where
        still : (q : ℕ) → n ≢ q → lookup (nat_eq q) keys' ≡ lookup (nat_eq q) keys
        still q ne = gone q ∙ number_other n q None (lookup (nat_eq q) keys) ne

        nowhere : lookup (nat_eq n) keys' ≡ None
        nowhere = gone n ∙ number_same n None (lookup (nat_eq n) keys)

        pub indexed_removed : IsIndexed keys' at'
        indexed_removed = record { leads = λ m j e. leads m j e (cases_eq n m); stands = λ j m live e. stands j m live e (cases_eq j k); distinct = distinct }
          where
            leads : (m j : ℕ) → lookup (nat_eq m) keys' ≡ Some j → (n ≡ m) ⊎ (n ≡ m → ⊥) → (live : Live) × (at' j ≡ Some (m, live))
            leads m j e (inl same) = absurd (not_some (lookup (nat_eq m) keys') (ap (λ x. lookup (nat_eq x) keys') (sym same) ∙ nowhere) (ap is_some e))
            leads m j e (inr ne) =
                let was = sym (still m ne) ∙ e in
                let l = i.leads m j was in
                (l.0, others j (apart_keys keys at i n m k j here was ne) ∙ l.1)

            stands : (j m : ℕ) (live : Live) → at' j ≡ Some (m, live) → (j ≡ k) ⊎ (j ≡ k → ⊥) → lookup (nat_eq m) keys' ≡ Some j
            stands j m live e (inl same) = absurd (not_some (at' j) (ap at' same ∙ none) (ap is_some e))
            stands j m live e (inr ne) =
                let was = i.stands j m live (sym (others j ne) ∙ e) in
                still m (λ same. ne (same_Some j k (sym was ∙ ap (λ x. lookup (nat_eq x) keys) (sym same) ∙ here))) ∙ was

        pub find_removed : (m : ℕ) → find_job (jobs_of keys' at') m ≡ (if n == m then None else find_job (jobs_of keys at) m)
        find_removed m = at_number n m _ _ _
            (λ same. ap (find_job (jobs_of keys' at')) (sym same) ∙ find_none keys' at' indexed_removed n nowhere)
            (λ ne. find_same keys' at' indexed_removed m (still m ne) (λ j e. others j (apart_keys keys at i n m k j here e ne)))

      module _ (live : Live) (absent : lookup (nat_eq n) keys ≡ None) (vacant : at k ≡ None) (came : (q : ℕ) → lookup (nat_eq q) keys' ≡ (if n == q then Some k else lookup (nat_eq q) keys)) (new : at' k ≡ Some (n, live)) where
        stays : (q : ℕ) → n ≢ q → lookup (nat_eq q) keys' ≡ lookup (nat_eq q) keys
        stays q ne = came q ∙ number_other n q (Some k) (lookup (nat_eq q) keys) ne

        here_now : lookup (nat_eq n) keys' ≡ Some k
        here_now = came n ∙ number_same n (Some k) (lookup (nat_eq n) keys)

        taken : (m j : ℕ) → lookup (nat_eq m) keys ≡ Some j → j ≢ k
        taken m j e same = not_some (at j) (ap at same ∙ vacant) (there keys at i m j e)

        pub indexed_inserted : IsIndexed keys' at'
        indexed_inserted = record { leads = λ m j e. leads m j e (cases_eq n m); stands = λ j m l e. stands j m l e (cases_eq j k); distinct = distinct }
          where
            leads : (m j : ℕ) → lookup (nat_eq m) keys' ≡ Some j → (n ≡ m) ⊎ (n ≡ m → ⊥) → (l : Live) × (at' j ≡ Some (m, l))
            leads m j e (inl same) =
                let is : j ≡ k = same_Some j k (sym e ∙ ap (λ x. lookup (nat_eq x) keys') (sym same) ∙ here_now) in
                (live, ap at' is ∙ new ∙ ap (λ x. Some (x, live)) same)
            leads m j e (inr ne) =
                let was = sym (stays m ne) ∙ e in
                let l = i.leads m j was in
                (l.0, others j (taken m j was) ∙ l.1)

            stands : (j m : ℕ) (l : Live) → at' j ≡ Some (m, l) → (j ≡ k) ⊎ (j ≡ k → ⊥) → lookup (nat_eq m) keys' ≡ Some j
            stands j m l e (inl same) =
                let is : n ≡ m = number (n, live) (m, l) (sym new ∙ ap at' (sym same) ∙ e) in
                ap (λ x. lookup (nat_eq x) keys') (sym is) ∙ here_now ∙ ap Some (sym same)
            stands j m l e (inr ne) =
                let was = i.stands j m l (sym (others j ne) ∙ e) in
                stays m (λ same. not_some (lookup (nat_eq m) keys) (ap (λ x. lookup (nat_eq x) keys) (sym same) ∙ absent) (ap is_some was)) ∙ was

        pub find_inserted : (m : ℕ) → find_job (jobs_of keys' at') m ≡ (if n == m then Some live else find_job (jobs_of keys at) m)
        find_inserted m = at_number n m _ _ _
            (λ same. ap (find_job (jobs_of keys' at')) (sym same) ∙ find_here keys' at' indexed_inserted n k here_now ∙ ap (option_map (λ (q : ℕ × Live). q.1)) new)
            (λ ne. find_same keys' at' indexed_inserted m (stays m ne) (λ j e. others j (taken m j e)))

-- ---- how many there are, and in what order

module _ (at : At) where
  abbrev AllThere : List (ℕ × ℕ) → Type 0
  AllThere keys = (i : ℕ) (p : ℕ × ℕ) → slice_get keys i ≡ Some p → IsSome (at p.1)

  pub length_all : (keys : List (ℕ × ℕ)) → AllThere keys → length (jobs_of keys at) ≡ length keys
  length_all [] all = refl
  length_all (p ∷ ps) all = by (at p.1) (all 0 p refl) (length_all ps (λ i q e. all (suc i) q e))
    where
      by : (o : Option (ℕ × Live)) → IsSome o → length (jobs_of ps at) ≡ length ps → length (with_job p.0 o (jobs_of ps at)) ≡ length (p ∷ ps)
      by None h rest = absurd (false≢true h)
      by (Some q) h rest = omega arith

  pub all_there : (keys : List (ℕ × ℕ)) → IsIndexed keys at → AllThere keys
  all_there keys i j p e = let l = i.leads p.0 p.1 (lookup_from_place nat_eq_equiv keys j p.0 p.1 i.distinct e) in ap is_some l.1

  pub length_is : (keys : List (ℕ × ℕ)) → IsIndexed keys at → length (jobs_of keys at) ≡ length keys
  length_is keys i = length_all keys (all_there keys i)

  abbrev pub named : Option (ℕ × ℕ) → Option (ℕ × Live)
  named None = None
  named (Some p) = option_map (λ (q : ℕ × Live). (p.0, q.1)) (at p.1)

  pub get_all : (keys : List (ℕ × ℕ)) → AllThere keys → (i : ℕ) → slice_get (jobs_of keys at) i ≡ named (slice_get keys i)
  get_all [] all i = refl
  get_all (p ∷ ps) all i = by (at p.1) refl (all 0 p refl) i (λ j. get_all ps (λ x q e. all (suc x) q e) j)
    where
      by : (o : Option (ℕ × Live)) → at p.1 ≡ o → IsSome o → (i : ℕ) → ((j : ℕ) → slice_get (jobs_of ps at) j ≡ named (slice_get ps j)) → slice_get (with_job p.0 o (jobs_of ps at)) i ≡ named (slice_get (p ∷ ps) i)
      by None e h i rest = absurd (false≢true h)
      by (Some q) e h zero rest = sym (ap (option_map (λ (r : ℕ × Live). (p.0, r.1))) e)
      by (Some q) e h (suc j) rest = rest j

-- a change at a key leaves the numbers
pub numbers_same : (keys : List (ℕ × ℕ)) (at at' : At) → ((k : ℕ) → is_some (at' k) ≡ is_some (at k)) → keys_of (jobs_of keys at') ≡ keys_of (jobs_of keys at)
numbers_same [] at at' same = refl
numbers_same (p ∷ ps) at at' same = by (at p.1) (at' p.1) (same p.1) (numbers_same ps at at' same)
  where
    by : (o o' : Option (ℕ × Live)) → is_some o' ≡ is_some o → keys_of (jobs_of ps at') ≡ keys_of (jobs_of ps at) → keys_of (with_job p.0 o' (jobs_of ps at')) ≡ keys_of (with_job p.0 o (jobs_of ps at))
    by None None e rest = rest
    by None (Some q) e rest = absurd (false≢true (sym e))
    by (Some q) None e rest = absurd (false≢true e)
    by (Some q) (Some r) e rest = ap (λ (ns : List ℕ). p.0 ∷ ns) rest

-- a job that isn't live doesn't change
pub changes_none : (n : ℕ) (f : Live → Live) (jobs : List (ℕ × Live)) → find_job jobs n ≡ None → ChangesJob n f jobs jobs
changes_none n f jobs none = λ m. at_number n m _ _ _
    (λ same. let gone = ap (find_job jobs) (sym same) ∙ none in gone ∙ sym (ap (option_map f) gone))
    (λ ne. refl)
