-- What is true of the jobs in a ring's entries.
use Rattle.std.proofs.Common.{◌≡◌, ℕ, zero, suc, ◌+◌, ◌-◌, ◌<◌, ◌≤◌, Bool, true, false, cond, not, ◌==◌, if◌then◌else◌, List, [], ◌∷◌, ◌++◌}
use Rattle.std.proofs.Common.{length, set, drop, filter, count_by, slice_get, Contains, Option, Some, None, IfSome, IfNone, IsTrue, ◌↔◌}
use Rattle.std.proofs.Common.{is_some, refl, sym, ap, ◌∙◌, arith, length-append}
use Rattle.std.proofs.lemmas.Bool.{false≢true}
use Rattle.std.proofs.lemmas.List.Sums.{sum_by-cons}
use Rattle.gm_queues.specs.Queues.{Queue, Leaves, jobs_in}
use Rattle.gm_notes.proofs.Numbers.{same_number}

pub jobs_in-append : (xs ys : List (Option ℕ)) → jobs_in (xs ++ ys) ≡ jobs_in xs ++ jobs_in ys
jobs_in-append [] ys = refl
jobs_in-append (None ∷ xs) ys = jobs_in-append xs ys
jobs_in-append (Some n ∷ xs) ys = ap (λ ns. n ∷ ns) (jobs_in-append xs ys)

-- there are no more jobs than entries
pub length-jobs_in : (xs : List (Option ℕ)) → length (jobs_in xs) ≤ length xs
length-jobs_in [] = omega arith
length-jobs_in (None ∷ xs) = omega (arith, length-jobs_in xs)
length-jobs_in (Some n ∷ xs) = omega (arith, length-jobs_in xs)

-- the entries that aren't cleared hold all jobs
pub jobs_in-filter : (xs : List (Option ℕ)) → jobs_in (filter is_some xs) ≡ jobs_in xs
jobs_in-filter [] = refl
jobs_in-filter (None ∷ xs) = jobs_in-filter xs
jobs_in-filter (Some n ∷ xs) = ap (λ ns. n ∷ ns) (jobs_in-filter xs)

-- and are as many
pub length-filter_some : (xs : List (Option ℕ)) → length (filter is_some xs) ≡ length (jobs_in xs)
length-filter_some [] = refl
length-filter_some (None ∷ xs) = length-filter_some xs
length-filter_some (Some n ∷ xs) = ap suc (length-filter_some xs)

-- where a job's entry is cleared, the job leaves
pub Leaves-cleared : (xs : List (Option ℕ)) (i job reserved : ℕ) → slice_get xs i ≡ Some (Some job)
    → Leaves job (record { jobs = jobs_in xs; reserved = reserved }) (record { jobs = jobs_in (set xs i None); reserved = reserved - 1 })
Leaves-cleared [] i job reserved e = cc
Leaves-cleared (None ∷ xs) zero job reserved e = cc
Leaves-cleared (Some n ∷ xs) zero job reserved e = record { before = []; after = jobs_in xs; was = cc; left = refl; reserved = refl }
Leaves-cleared (None ∷ xs) (suc i) job reserved e =
    let rest = Leaves-cleared xs i job reserved e in
    record { before = rest.before; after = rest.after; was = rest.was; left = rest.left; reserved = refl }
Leaves-cleared (Some n ∷ xs) (suc i) job reserved e =
    let rest = Leaves-cleared xs i job reserved e in
    record { before = n ∷ rest.before; after = rest.after; was = ap (λ ns. n ∷ ns) rest.was; left = ap (λ ns. n ∷ ns) rest.left; reserved = refl }

-- and there is one job less
pub length-cleared : (xs : List (Option ℕ)) (i job : ℕ) → slice_get xs i ≡ Some (Some job)
    → length (jobs_in (set xs i None)) + 1 ≡ length (jobs_in xs)
length-cleared xs i job e =
    let gone = Leaves-cleared xs i job 0 e in
    rw (gone.was, gone.left, length-append, length-append) (omega arith)

-- a job that no entry holds isn't there
pub jobs_in_none : (xs : List (Option ℕ)) (job : ℕ) → ((k : ℕ) → k < length xs → slice_get xs k ≡ Some (Some job) → ⊥) → Contains (jobs_in xs) job → ⊥
jobs_in_none [] job out (k, within, e) = omega arith
jobs_in_none (None ∷ xs) job out there = jobs_in_none xs job (λ k h e. out (suc k) (omega arith) e) there
jobs_in_none (Some n ∷ xs) job out (zero, within, e) = out 0 (omega arith) (ap (λ m. Some (Some m)) e)
jobs_in_none (Some n ∷ xs) job out (suc k, within, e) = jobs_in_none xs job (λ k h e. out (suc k) (omega arith) e) (k, omega arith, e)

-- the first entry, where it isn't cleared, holds the first job
pub first_job : (xs : List (Option ℕ)) (job : ℕ) → slice_get xs 0 ≡ Some (Some job) → jobs_in xs ≡ job ∷ jobs_in (drop 1 xs)
first_job [] job e = cc
first_job (None ∷ xs) job e = cc
first_job (Some n ∷ xs) job e = let same : n ≡ job = cc in rw same refl

-- a job that an entry holds is there
pub jobs_in_some : (xs : List (Option ℕ)) (i job : ℕ) → slice_get xs i ≡ Some (Some job) → Contains (jobs_in xs) job
jobs_in_some [] i job e = cc
jobs_in_some (None ∷ xs) zero job e = cc
jobs_in_some (Some n ∷ xs) zero job e = (0, omega arith, cc)
jobs_in_some (None ∷ xs) (suc i) job e = jobs_in_some xs i job e
jobs_in_some (Some n ∷ xs) (suc i) job e = let rest = jobs_in_some xs i job e in (suc rest.0, omega (arith, rest.1), rest.2)

-- what a search for it tells
pub searched : (xs : List (Option ℕ)) (job : ℕ) (found : Option ℕ) → IfSome found (λ i. slice_get xs i ≡ Some (Some job)) → IfNone found (¬ Contains (jobs_in xs) job)
    → IsTrue (is_some found) ↔ Contains (jobs_in xs) job
searched xs job None some none = (λ h. absurd (false≢true h), λ there. absurd (none there))
searched xs job (Some i) some none = (λ h. jobs_in_some xs i job some, λ there. refl)

-- ---- a job that is queued once

count-cons : (job x : ℕ) (xs : List ℕ) → count_by (λ n. n == job) (x ∷ xs) ≡ (if x == job then 1 else 0) + count_by (λ n. n == job) xs
count-cons job x xs = sum_by-cons (λ n. cond (n == job) 1 0) x xs

yes_one : (b : Bool) → b ≡ true → ◌≡◌ {A = ℕ} (if b then 1 else 0) 1
yes_one b e = ap (λ t. if t then 1 else 0) e

one_at_least : (job : ℕ) (before after : List ℕ) → 1 ≤ count_by (λ n. n == job) (before ++ job ∷ after)
one_at_least job [] after = omega (arith, count-cons job job after, yes_one (job == job) (same_number job))
one_at_least job (x ∷ before) after = omega (arith, count-cons job x (before ++ job ∷ after), one_at_least job before after)

-- where the job isn't, nothing goes
filter-none : (job : ℕ) (xs : List ℕ) → count_by (λ n. n == job) xs ≡ 0 → filter (λ n. not (n == job)) xs ≡ xs
filter-none job [] e = refl
filter-none job (x ∷ xs) e = by (x == job) (sym (count-cons job x xs) ∙ e) (λ h. filter-none job xs h)
  where
    by : (b : Bool) → ◌≡◌ {A = ℕ} ((if b then 1 else 0) + count_by (λ n. n == job) xs) 0 → (count_by (λ n. n == job) xs ≡ 0 → filter (λ n. not (n == job)) xs ≡ xs)
        → cond (not b) (x ∷ filter (λ n. not (n == job)) xs) (filter (λ n. not (n == job)) xs) ≡ x ∷ xs
    by true e rest = absurd (omega arith)
    by false e rest = ap (λ ns. x ∷ ns) (rest (omega arith))

-- where it is once, it alone goes
filter-once : (job : ℕ) (before after : List ℕ) → count_by (λ n. n == job) (before ++ job ∷ after) ≡ 1 → filter (λ n. not (n == job)) (before ++ job ∷ after) ≡ before ++ after
filter-once job [] after e = by (job == job) (same_number job) (sym (count-cons job job after) ∙ e)
  where
    by : (b : Bool) → b ≡ true → ◌≡◌ {A = ℕ} ((if b then 1 else 0) + count_by (λ n. n == job) after) 1
        → cond (not b) (job ∷ filter (λ n. not (n == job)) after) (filter (λ n. not (n == job)) after) ≡ after
    by true t e = filter-none job after (omega arith)
    by false t e = absurd (false≢true t)
filter-once job (x ∷ before) after e = by (x == job) (sym (count-cons job x (before ++ job ∷ after)) ∙ e) (λ h. filter-once job before after h) (one_at_least job before after)
  where
    by : (b : Bool) → ◌≡◌ {A = ℕ} ((if b then 1 else 0) + count_by (λ n. n == job) (before ++ job ∷ after)) 1
        → (count_by (λ n. n == job) (before ++ job ∷ after) ≡ 1 → filter (λ n. not (n == job)) (before ++ job ∷ after) ≡ before ++ after)
        → 1 ≤ count_by (λ n. n == job) (before ++ job ∷ after)
        → cond (not b) (x ∷ filter (λ n. not (n == job)) (before ++ job ∷ after)) (filter (λ n. not (n == job)) (before ++ job ∷ after)) ≡ x ∷ (before ++ after)
    by true e rest some = absurd (omega arith)
    by false e rest some = ap (λ ns. x ∷ ns) (rest (omega arith))

-- so a job that is queued once leaves the others
pub Leaves-once : (job : ℕ) (old new : Queue) → Leaves job old new → count_by (λ n. n == job) old.jobs ≡ 1 → new.jobs ≡ filter (λ n. not (n == job)) old.jobs
Leaves-once job old new gone e =
    gone.left ∙ sym (filter-once job gone.before gone.after (ap (count_by (λ n. n == job)) (sym gone.was) ∙ e)) ∙ ap (filter (λ n. not (n == job))) (sym gone.was)
