-- What is true where a slot leaves.
use Rattle.std.proofs.Common.{◌≡◌, ◌≢◌, ℕ, ◌⊎◌, inl, inr, Bool, true, false, cond, not, ◌||◌, ◌==◌, List, [], ◌∷◌, filter, Contains, Option, Some, None, IfSome, get_or, ◌<◌}
use Rattle.std.specs.Map.{keys_of}
use Rattle.std.proofs.Common.{refl, sym, ap, subst, ◌∙◌}
use Rattle.std.specs.List.{list_any}
use Rattle.std.specs.Option.{option_map}
use Rattle.std.proofs.lemmas.Bool.{cases_eq, true≢false, false≢true}
use Rattle.gm_jobs.specs.declared.job.Query.TheVariants.{Orphan, RunBy, HeardBy}
use Rattle.gm_jobs.specs.Live.{Live, is_orphan, is_run_by, without_listener}
use Rattle.gm_jobs.specs.Queries.{is_heard_by}
use Rattle.gm_jobs.specs.Tables.{find_job, passes}
use Rattle.gm_jobs.specs.ByNumber.{JobTable}
use Rattle.gm_jobs.specs.Changes.{ChangesJob, LeavesEach, LeavesSome}
use Rattle.gm_jobs.specs.Hints.{HintList, HintTable, IsHinted, AllHinted, AllFound, at_slot, numbers_in}
use Rattle.gm_jobs.proofs.HintLemmas.{table_found, numbered}
use Rattle.gm_jobs.proofs.JobLemmas.{this_job, other_job}

module _ (slot : ℕ) where
  -- who left doesn't listen
  never : (xs : List ℕ) → list_any (λ c. c == slot) (filter (λ c. not (c == slot)) xs) ≡ false
  never [] = refl
  never (x ∷ xs) = by (x == slot) refl (never xs)
    where
      by : (b : Bool) → (x == slot) ≡ b → list_any (λ c. c == slot) (filter (λ c. not (c == slot)) xs) ≡ false
          → list_any (λ c. c == slot) (cond (not b) (x ∷ filter (λ c. not (c == slot)) xs) (filter (λ c. not (c == slot)) xs)) ≡ false
      by true e rest = rest
      by false e rest = (λ i. e i || rest i)

  -- and where it doesn't listen, nothing goes
  nothing_goes : (xs : List ℕ) → list_any (λ c. c == slot) xs ≡ false → filter (λ c. not (c == slot)) xs ≡ xs
  nothing_goes [] h = refl
  nothing_goes (x ∷ xs) h = by (x == slot) refl h (λ g. nothing_goes xs g)
    where
      by : (b : Bool) → (x == slot) ≡ b → (b || list_any (λ c. c == slot) xs) ≡ false → (list_any (λ c. c == slot) xs ≡ false → filter (λ c. not (c == slot)) xs ≡ xs)
          → cond (not b) (x ∷ filter (λ c. not (c == slot)) xs) (filter (λ c. not (c == slot)) xs) ≡ x ∷ xs
      by true e h rest = absurd (true≢false h)
      by false e h rest = ap (λ ys. x ∷ ys) (rest h)

  -- who listens still did before
  listened : (c : ℕ) (xs : List ℕ) → list_any (λ d. d == c) (filter (λ d. not (d == slot)) xs) ≡ true → list_any (λ d. d == c) xs ≡ true
  listened c [] h = h
  listened c (x ∷ xs) h = by (x == slot) h (x == c) refl (λ g. listened c xs g)
    where
      by : (b : Bool) → list_any (λ d. d == c) (cond (not b) (x ∷ filter (λ d. not (d == slot)) xs) (filter (λ d. not (d == slot)) xs)) ≡ true → (t : Bool) → (x == c) ≡ t
          → (list_any (λ d. d == c) (filter (λ d. not (d == slot)) xs) ≡ true → list_any (λ d. d == c) xs ≡ true) → ((x == c) || list_any (λ d. d == c) xs) ≡ true
      by b h true e rest = ap (λ t. t || list_any (λ d. d == c) xs) e
      by true h false e rest = ap (λ t. t || list_any (λ d. d == c) xs) e ∙ rest h
      by false h false e rest = ap (λ t. t || list_any (λ d. d == c) xs) e ∙ rest (sym (ap (λ t. t || list_any (λ d. d == c) (filter (λ d. not (d == slot)) xs)) e) ∙ h)

  left_unheard : (o : Option Live) → passes (is_heard_by slot) (option_map (without_listener slot) o) ≡ false
  left_unheard None = refl
  left_unheard (Some live) = never live.listeners

  same_live : (live : Live) → is_heard_by slot live ≡ false → without_listener slot live ≡ live
  same_live live h = ap (λ ls. record live { listeners = ls }) (nothing_goes live.listeners h)

  unheard_same : (o : Option Live) → passes (is_heard_by slot) o ≡ false → option_map (without_listener slot) o ≡ o
  unheard_same None h = refl
  unheard_same (Some live) h = ap (λ l. Some l) (same_live live h)

  -- ---- it leaves one job after another
  abbrev pub LeavesOne : ℕ → List (ℕ × Live) → List (ℕ × Live) → Type 0
  LeavesOne n old new = find_job new n ≡ option_map (without_listener slot) (find_job old n)

  module _ (first now mid : List (ℕ × Live)) (number : ℕ) (change : ChangesJob number (without_listener slot) now mid) (some : LeavesSome slot first now) where
    pub left_here : LeavesOne number first mid
    left_here = this_job number (without_listener slot) now mid change ∙ by (some number)
      where
        by : (find_job now number ≡ find_job first number) ⊎ LeavesOne number first now → option_map (without_listener slot) (find_job now number) ≡ option_map (without_listener slot) (find_job first number)
        by (inl same) = ap (option_map (without_listener slot)) same
        by (inr left) = ap (option_map (without_listener slot)) left ∙ unheard_same (option_map (without_listener slot) (find_job first number)) (left_unheard (find_job first number))

    pub left_still : (m : ℕ) → LeavesOne m first now → LeavesOne m first mid
    left_still m left = by (cases_eq m number)
      where
        by : (m ≡ number) ⊎ (m ≡ number → ⊥) → LeavesOne m first mid
        by (inl e) = subst (λ i. LeavesOne i first mid) (sym e) left_here
        by (inr ne) = other_job number (without_listener slot) now mid change m ne ∙ left

    pub left_some : LeavesSome slot first mid
    left_some m = by (some m) (cases_eq m number)
      where
        by : (find_job now m ≡ find_job first m) ⊎ LeavesOne m first now → (m ≡ number) ⊎ (m ≡ number → ⊥) → (find_job mid m ≡ find_job first m) ⊎ LeavesOne m first mid
        by (inr left) which = inr (left_still m left)
        by (inl same) (inl e) = inr (subst (λ i. LeavesOne i first mid) (sym e) left_here)
        by (inl same) (inr ne) = inl (other_job number (without_listener slot) now mid change m ne ∙ same)

  -- it left those that the first hints are at, and the last of them is at hand
  pub record LeftUpTo (hints : HintList) (first : JobTable) (i : ℕ) (now : JobTable) (number : Option ℕ) : Type 0 where
    pub some : LeavesSome slot first.entries now.entries
    pub these : (k : ℕ) → k < i → LeavesOne (get_or (numbers_in hints first.entries) k 0) first.entries now.entries
    pub last : IfSome number (λ n. LeavesOne n first.entries now.entries)
    pub numbers : keys_of now.entries ≡ keys_of first.entries
    pub slots : now.room ≡ first.room

  -- where it left those that are hinted at, it left all
  pub left_each : (first now : List (ℕ × Live)) (hints : HintList) → AllHinted (is_heard_by slot) first hints → LeavesSome slot first now → ((n : ℕ) → Contains (numbers_in hints first) n → LeavesOne n first now)
      → LeavesEach slot first now
  left_each first now hints all some these n = by (passes (is_heard_by slot) (find_job first n)) refl (some n)
    where
      by : (heard : Bool) → passes (is_heard_by slot) (find_job first n) ≡ heard → (find_job now n ≡ find_job first n) ⊎ LeavesOne n first now → LeavesOne n first now
      by true e which = these n (numbered (is_heard_by slot) first hints all n e)
      by false e (inl same) = same ∙ sym (unheard_same (find_job first n) e)
      by false e (inr left) = left

  -- ---- what is found then
  module _ (old new : List (ℕ × Live)) (left : LeavesEach slot old new) (index index' : HintTable) (found : AllFound old index) where
    was : (n : ℕ) (test : Live → Bool) → passes test (find_job new n) ≡ true → (live : Live) × (find_job old n ≡ Some live) × (test (without_listener slot live) ≡ true)
    was n test met = by (find_job old n) refl (ap (passes test) (sym (left n)) ∙ met)
      where
        by : (o : Option Live) → find_job old n ≡ o → passes test (option_map (without_listener slot) o) ≡ true → (live : Live) × (find_job old n ≡ Some live) × (test (without_listener slot live) ≡ true)
        by None e h = absurd (false≢true h)
        by (Some live) e h = (live, e, h)

    pub found_left : ((n : ℕ) → passes is_orphan (find_job new n) ≡ true → IsHinted index.orphans n ⊎ IsHinted (at_slot index.heard slot) n → IsHinted index'.orphans n)
        → index'.runs ≡ index.runs → ((c : ℕ) → c ≢ slot → at_slot index'.heard c ≡ at_slot index.heard c) → AllFound new index'
    found_left orphans runs others = table_found new index'
        (λ n met. let w = was n is_orphan met in orphans n met (orphan n w.0 w.1 w.2 (is_heard_by slot w.0) refl))
        (λ c n met. let w = was n (is_run_by c) met in subst (λ (ls : List HintList). IsHinted (at_slot ls c) n) (sym runs) (found (RunBy c) n (ap (passes (is_run_by c)) w.1 ∙ w.2)))
        (λ c n met. let w = was n (is_heard_by c) met in heard c n w.0 w.1 w.2 (cases_eq c slot))
      where
        orphan : (n : ℕ) (live : Live) → find_job old n ≡ Some live → is_orphan (without_listener slot live) ≡ true → (b : Bool) → is_heard_by slot live ≡ b → IsHinted index.orphans n ⊎ IsHinted (at_slot index.heard slot) n
        orphan n live e met true h = inr (found (HeardBy slot) n (ap (passes (is_heard_by slot)) e ∙ h))
        orphan n live e met false h = inl (found Orphan n (ap (passes is_orphan) e ∙ ap is_orphan (sym (same_live live h)) ∙ met))

        heard : (c n : ℕ) (live : Live) → find_job old n ≡ Some live → is_heard_by c (without_listener slot live) ≡ true → (c ≡ slot) ⊎ (c ≡ slot → ⊥) → IsHinted (at_slot index'.heard c) n
        heard c n live e met (inr ne) = subst (λ (l : HintList). IsHinted l n) (sym (others c ne)) (found (HeardBy c) n (ap (passes (is_heard_by c)) e ∙ listened c live.listeners met))
        heard c n live e met (inl same) = absurd (false≢true (sym (never live.listeners) ∙ subst (λ d. list_any (λ x. x == d) (filter (λ x. not (x == slot)) live.listeners) ≡ true) same met))
