-- What is true of hints, and of what is asked of jobs.
use Rattle.std.proofs.Common.{◌≡◌, ℕ, ◌<◌, ◌≤◌, ◌⊎◌, inl, inr, Bool, true, false, not, ◌&&◌, ◌||◌, ◌==◌, ◌++◌, List, [], ◌∷◌, length, slice_index_or, get_or, set, min, Contains, Option, Some, slice_get, if◌then◌else◌}
use Rattle.std.proofs.Common.{None, refl, sym, ap, subst, ◌∙◌, arith, length-append}
use Rattle.std.specs.List.{list_any}
use Rattle.std.specs.List.Sorted.{IsNonDecreasingBy}
use Rattle.std.proofs.lemmas.Bool.{cases_lt, cases_eq, false≢true}
use Rattle.std.proofs.lemmas.Bool.Decides.{nat_tests}
use Rattle.std.proofs.lemmas.List.{get_or_default, get_or-set_other, get_or-set_same}
use Rattle.std.proofs.lemmas.List.Folds.{list_any-append}
use Rattle.gm_jobs.specs.declared.job.Query.{Query}
use Rattle.gm_jobs.specs.declared.job.Query.TheVariants.{Orphan, RunBy, HeardBy, Due, Started, Live as Lives}
use Rattle.gm_jobs.specs.Live.{Live, kept, reported, assigned, with_listener, waits, is_orphan, is_run_by}
use Rattle.gm_jobs.specs.Queries.{meets, is_heard_by}
use Rattle.gm_jobs.specs.Tables.{find_job, passes}
use Rattle.gm_jobs.specs.Hints.{HintList, HintTable, missing, IsHinted, AllHinted, KeepsHints, at_slot, hints_of, AllFound, least_of, numbers_in}
use Rattle.gm_jobs.proofs.ListLemmas.{found_at}
use Rattle.std.specs.Map.{keys_of}
use Rattle.std.specs.Option.{option_map}
use Rattle.std.proofs.lemmas.Map.Entries.{length-keys_of}
use Rattle.std.proofs.lemmas.Option.{slice_get-map, get_or_from_slice_get}

pub passes_live : (test : Live → Bool) (o : Option Live) → passes test o ≡ true → (live : Live) × (o ≡ Some live) × (test live ≡ true)
passes_live test None h = absurd (false≢true h)
passes_live test (Some live) h = (live, refl, h)

-- ---- one list

-- what stays is hinted at still
pub kept_hinted : {Stays : ℕ → Type 0} (old new : HintList) (n : ℕ) → KeepsHints Stays old new → Stays n → IsHinted old n → IsHinted new n
kept_hinted old new n keeps stays hinted = λ whole. keeps.numbers n stays (hinted (keeps.whole whole))

-- no job of a number above `after` and before an index passes
pub not_met : (test : Live → Bool) (jobs : List (ℕ × Live)) (numbers : List ℕ) (after i : ℕ) → IsNonDecreasingBy (λ n. n) numbers
    → ((k : ℕ) → k < i → after < slice_index_or numbers k 0 → passes test (find_job jobs (slice_index_or numbers k 0)) ≡ false)
    → (m : ℕ) → Contains numbers m → after < m → (i < length numbers → m < slice_index_or numbers i 0) → passes test (find_job jobs m) ≡ false
not_met test jobs numbers after i rises none m (k, w, e) above before = by (cases_lt k i)
  where
    is : slice_index_or numbers k 0 ≡ m
    is = get_or_default numbers k 0 m w ∙ e

    by : (k < i) ⊎ (i ≤ k) → passes test (find_job jobs m) ≡ false
    by (inl passed) = ap (λ n. passes test (find_job jobs n)) (sym is) ∙ none k passed (subst (λ n. after < n) (sym is) above)
    by (inr late) = absurd (let more = rises i k 0 late w in let less = before (omega arith) in omega (arith, is))

-- where a number is among those to be looked at
pub numbered : (test : Live → Bool) (jobs : List (ℕ × Live)) (hints : HintList) → AllHinted test jobs hints → (n : ℕ) → passes test (find_job jobs n) ≡ true → Contains (numbers_in hints jobs) n
numbered test jobs hints all n met = by hints.whole (all n met)
  where
    by : (whole : Bool) → (whole ≡ true → Contains hints.numbers n) → Contains (if whole then hints.numbers else keys_of jobs) n
    by true there = there refl
    by false there =
        let l = passes_live test (find_job jobs n) met in
        let at = found_at jobs n l.0 l.1 in
        let w = at.1 in
        let key : slice_get (keys_of jobs) at.0 ≡ Some n = slice_get-map (λ (p : ℕ × Live). p.0) jobs at.0 ∙ ap (option_map (λ (p : ℕ × Live). p.0)) at.2 in
        (at.0, omega (arith, w, length-keys_of jobs), get_or_from_slice_get (keys_of jobs) at.0 n n key)

-- ---- the lesser of two

pub least_some : (a b : Option ℕ) (n : ℕ) → least_of a b ≡ Some n → (a ≡ Some n) ⊎ (b ≡ Some n)
least_some None b n e = inr e
least_some (Some a) None n e = inl e
least_some (Some a) (Some b) n e = by (cases_lt a b)
  where
    by : (a < b) ⊎ (b ≤ a) → (Some a ≡ Some n) ⊎ (Some b ≡ Some n)
    by (inl less) = inl (let is : min a b ≡ a = omega arith in sym (ap (λ i. Some i) is) ∙ e)
    by (inr more) = inr (let is : min a b ≡ b = omega arith in sym (ap (λ i. Some i) is) ∙ e)

pub least_left : (a b : Option ℕ) (n : ℕ) → a ≡ Some n → (m : ℕ) × (least_of a b ≡ Some m) × (m ≤ n)
least_left None b n e = cc
least_left (Some a) None n e = (n, e, omega arith)
least_left (Some a) (Some b) n e = (min a b, refl, let is = number a n e in omega arith)
  where
    number : (x y : ℕ) → Some x ≡ Some y → x ≡ y
    number x y h = cc

pub least_right : (a b : Option ℕ) (n : ℕ) → b ≡ Some n → (m : ℕ) × (least_of a b ≡ Some m) × (m ≤ n)
least_right None b n e = (n, e, omega arith)
least_right (Some a) None n e = cc
least_right (Some a) (Some b) n e = (min a b, refl, let is = number b n e in omega arith)
  where
    number : (x y : ℕ) → Some x ≡ Some y → x ≡ y
    number x y h = cc

-- ---- a list for each slot

module _ (lists : List HintList) (slot : ℕ) (within : slot < length lists) (old new : HintList) (was : old ≡ get_or lists slot old) where
  pub slot_is : old ≡ at_slot lists slot
  slot_is = was ∙ get_or_default lists slot old missing within

  pub set_slot : at_slot (set lists slot new) slot ≡ new
  set_slot = get_or-set_same lists slot new missing within

  pub set_other : (c : ℕ) → (c ≡ slot → ⊥) → at_slot (set lists slot new) c ≡ at_slot lists c
  set_other c ne = get_or-set_other lists slot c new missing ne

  -- what is hinted at there is so still
  pub set_hinted : (c n : ℕ) → (IsHinted old n → IsHinted new n) → IsHinted (at_slot lists c) n → IsHinted (at_slot (set lists slot new) c) n
  set_hinted c n keeps h = by (cases_eq c slot)
    where
      by : (c ≡ slot) ⊎ (c ≡ slot → ⊥) → IsHinted (at_slot (set lists slot new) c) n
      by (inr ne) = subst (λ (l : HintList). IsHinted l n) (sym (set_other c ne)) h
      by (inl e) =
          subst (λ i. IsHinted (at_slot (set lists slot new) i) n) (sym e)
          (subst (λ (l : HintList). IsHinted l n) (sym set_slot) (keeps (subst (λ (l : HintList). IsHinted l n) (sym slot_is) (subst (λ i. IsHinted (at_slot lists i) n) e h))))

-- ---- the lists together

pub table_hinted : (old new : HintTable) → ((n : ℕ) → IsHinted old.orphans n → IsHinted new.orphans n) → ((c n : ℕ) → IsHinted (at_slot old.runs c) n → IsHinted (at_slot new.runs c) n)
    → ((c n : ℕ) → IsHinted (at_slot old.heard c) n → IsHinted (at_slot new.heard c) n) → (q : Query) (n : ℕ) → IsHinted (hints_of old q) n → IsHinted (hints_of new q) n
table_hinted old new orphans runs heard Orphan n h = orphans n h
table_hinted old new orphans runs heard (RunBy c) n h = runs c n h
table_hinted old new orphans runs heard (HeardBy c) n h = heard c n h
table_hinted old new orphans runs heard (Due now) n h = h
table_hinted old new orphans runs heard Started n h = h
table_hinted old new orphans runs heard Lives n h = h

pub table_found : (jobs : List (ℕ × Live)) (table : HintTable) → AllHinted is_orphan jobs table.orphans → ((c : ℕ) → AllHinted (is_run_by c) jobs (at_slot table.runs c))
    → ((c : ℕ) → AllHinted (is_heard_by c) jobs (at_slot table.heard c)) → AllFound jobs table
table_found jobs table orphans runs heard Orphan n met = orphans n met
table_found jobs table orphans runs heard (RunBy c) n met = runs c n met
table_found jobs table orphans runs heard (HeardBy c) n met = heard c n met
table_found jobs table orphans runs heard (Due now) n met = λ e. absurd (false≢true e)
table_found jobs table orphans runs heard Started n met = λ e. absurd (false≢true e)
table_found jobs table orphans runs heard Lives n met = λ e. absurd (false≢true e)

-- ---- where a job changes

wanted_parts : (w k none : Bool) → (w && not k && none) ≡ true → (k ≡ false) × (none ≡ true)
wanted_parts true true true h = absurd (false≢true h)
wanted_parts true true false h = absurd (false≢true h)
wanted_parts true false true h = (refl, refl)
wanted_parts true false false h = absurd (false≢true h)
wanted_parts false true true h = absurd (false≢true h)
wanted_parts false true false h = absurd (false≢true h)
wanted_parts false false true h = absurd (false≢true h)
wanted_parts false false false h = absurd (false≢true h)

module _ (index : HintTable) (n : ℕ) where
  -- a job that is kept is no orphan
  pub kept_found : (q : Query) (l : Live) → meets q (kept l) ≡ true → (meets q l ≡ true) ⊎ IsHinted (hints_of index q) n
  kept_found Orphan l h = absurd (false≢true (sym (wanted_parts (waits l.live_place) true (length l.listeners == 0) h).0))
  kept_found (RunBy c) l h = inl h
  kept_found (HeardBy c) l h = inl h
  kept_found (Due now) l h = inl h
  kept_found Started l h = inl h
  kept_found Lives l h = inl h

  pub reported_found : (a b : List ℕ) (q : Query) (l : Live) → meets q (reported a b l) ≡ true → (meets q l ≡ true) ⊎ IsHinted (hints_of index q) n
  reported_found a b Orphan l h = inl h
  reported_found a b (RunBy c) l h = inl h
  reported_found a b (HeardBy c) l h = inl h
  reported_found a b (Due now) l h = inl h
  reported_found a b Started l h = inl h
  reported_found a b Lives l h = inl h

  -- one that is assigned runs there
  pub assigned_found : (slot : ℕ) (deadline : Option ℕ) → IsHinted (hints_of index (RunBy slot)) n → (q : Query) (l : Live) → meets q (assigned slot deadline l) ≡ true → (meets q l ≡ true) ⊎ IsHinted (hints_of index q) n
  assigned_found slot deadline put Orphan l h = absurd (false≢true h)
  assigned_found slot deadline put (RunBy c) l h = inr (subst (λ i. IsHinted (hints_of index (RunBy i)) n) (let same : slot ≡ c = grind (arith, nat_tests) in same) put)
  assigned_found slot deadline put (HeardBy c) l h = inl h
  assigned_found slot deadline put (Due now) l h = inr (λ e. absurd (false≢true e))
  assigned_found slot deadline put Started l h = inr (λ e. absurd (false≢true e))
  assigned_found slot deadline put Lives l h = inl refl

  -- one that gets a listener is no orphan
  pub heard_found : (slot : ℕ) → IsHinted (hints_of index (HeardBy slot)) n → (q : Query) (l : Live) → meets q (with_listener slot l) ≡ true → (meets q l ≡ true) ⊎ IsHinted (hints_of index q) n
  heard_found slot put Orphan l h =
      let none : (length (l.listeners ++ slot ∷ []) == 0) ≡ true = (wanted_parts (waits l.live_place) l.kept (length (l.listeners ++ slot ∷ []) == 0) h).1 in
      let empty : length (l.listeners ++ slot ∷ []) ≡ 0 = grind (arith, nat_tests) in
      absurd (omega (arith, empty, length-append l.listeners (slot ∷ [])))
  heard_found slot put (HeardBy c) l h = by (list_any (λ d. d == c) l.listeners) refl (slot == c) refl (sym (list_any-append (λ d. d == c) l.listeners (slot ∷ [])) ∙ h)
    where
      by : (a : Bool) → list_any (λ d. d == c) l.listeners ≡ a → (b : Bool) → (slot == c) ≡ b → (a || (b || false)) ≡ true → (meets (HeardBy c) l ≡ true) ⊎ IsHinted (hints_of index (HeardBy c)) n
      by true e b f h = inl e
      by false e true f h = inr (subst (λ i. IsHinted (hints_of index (HeardBy i)) n) (let same : slot ≡ c = grind (arith, nat_tests) in same) put)
      by false e false f h = absurd (false≢true h)
  heard_found slot put (RunBy c) l h = inl h
  heard_found slot put (Due now) l h = inl h
  heard_found slot put Started l h = inl h
  heard_found slot put Lives l h = inl h
