-- What is true of the deadlines that are kept.
use Rattle.std.proofs.Common.{◌≡◌, ℕ, ◌≤◌, ◌⊎◌, inl, inr, Bool, true, false, not, ◌&&◌, List, Contains, Option, Some}
use Rattle.std.proofs.Common.{None, refl, sym, ap, subst, ◌∙◌, arith}
use Rattle.std.specs.Option.{option_and_then}
use Rattle.std.proofs.lemmas.Bool.{false≢true}
use Rattle.std.proofs.lemmas.Bool.Decides.{nat_tests}
use Rattle.gm_jobs.specs.declared.job.Query.TheVariants.{Started}
use Rattle.gm_jobs.specs.Queries.{meets}
use Rattle.gm_notes.specs.Closings.{is_reached}
use Rattle.gm_jobs.specs.Live.{Live, is_due, waits}
use Rattle.gm_jobs.specs.Tables.{find_job, passes}
use Rattle.gm_jobs.specs.MinHeap.{Pair, Has, first_of}
use Rattle.gm_jobs.specs.Hints.{HintList, IsHinted, AllHinted, KeepsHints}
use Rattle.gm_jobs.specs.Deadlines.{AllListed, AllLater, listing}

-- a job that runs stays listed
pub listed_kept : (jobs : List (ℕ × Live)) (waiting : List Pair) (old new : HintList) → AllListed jobs (listing waiting old) → KeepsHints (λ n. passes (meets Started) (find_job jobs n) ≡ true) old new → AllListed jobs (listing waiting new)
listed_kept jobs waiting old new listed keeps n live found whole d runs is = by (listed n live found (keeps.whole whole) d runs is)
  where
    by : Has waiting d n ⊎ Contains old.numbers n → Has waiting d n ⊎ Contains new.numbers n
    by (inl there) = inl there
    by (inr there) = inr (keeps.numbers n (ap (passes (meets Started)) found ∙ ap not runs) there)

-- the one that goes is its job's deadline, and the job is among the reached, or no job's any more
pub listed_popped : (jobs : List (ℕ × Live)) (waiting waiting' : List Pair) (reached reached' : HintList) (d n : ℕ)
    → AllListed jobs (listing waiting reached)
    → ((a b : ℕ) → Has waiting a b → Has waiting' a b ⊎ (first_of waiting ≡ Some (a, b)))
    → KeepsHints (λ m. Unit {0}) reached reached'
    → first_of waiting ≡ Some (d, n) → (option_and_then (λ (l : Live). l.deadline) (find_job jobs n) ≡ Some d → IsHinted reached' n)
    → AllListed jobs (listing waiting' reached')
listed_popped jobs waiting waiting' reached reached' d n listed pops keeps first due m live found whole e runs is = by (listed m live found (keeps.whole whole) e runs is)
  where
    same_pair : (x y : ℕ × ℕ) → Some x ≡ Some y → x ≡ y
    same_pair x y h = cc

    at : Has waiting' e m ⊎ (first_of waiting ≡ Some (e, m)) → Has waiting' e m ⊎ Contains reached'.numbers m
    at (inl there) = inl there
    at (inr top) =
        let same = same_pair (d, n) (e, m) (sym first ∙ top) in
        let d_is : d ≡ e = ap (λ (p : ℕ × ℕ). p.0) same in
        let n_is : n ≡ m = ap (λ (p : ℕ × ℕ). p.1) same in
        inr (subst (λ i. Contains reached'.numbers i) n_is (due (ap (λ i. option_and_then (λ (l : Live). l.deadline) (find_job jobs i)) n_is ∙ ap (option_and_then (λ (l : Live). l.deadline)) found ∙ is ∙ ap (λ i. Some i) (sym d_is)) whole))

    by : Has waiting e m ⊎ Contains reached.numbers m → Has waiting' e m ⊎ Contains reached'.numbers m
    by (inl there) = at (pops e m there)
    by (inr there) = inr (keeps.numbers m tt there)

-- where the others are later, each job that is due is among the reached
pub due_reached : (jobs : List (ℕ × Live)) (waiting : List Pair) (reached : HintList) (now : ℕ) → AllListed jobs (listing waiting reached) → AllLater now waiting → AllHinted (is_due now) jobs reached
due_reached jobs waiting reached now listed later n due whole = by (find_job jobs n) refl due
  where
    here : (live : Live) → find_job jobs n ≡ Some live → (s : Bool) → waits live.live_place ≡ s → (o : Option ℕ) → live.deadline ≡ o → (not s && is_reached o now) ≡ true → Contains reached.numbers n
    here live e true runs o is h = absurd (false≢true h)
    here live e false runs None is h = absurd (false≢true h)
    here live e false runs (Some d) is h = at (listed n live e whole d runs is)
      where
        at : Has waiting d n ⊎ Contains reached.numbers n → Contains reached.numbers n
        at (inl there) = absurd (let late = later d n there in let early : d ≤ now = grind (arith, nat_tests) in omega arith)
        at (inr there) = there

    by : (o : Option Live) → find_job jobs n ≡ o → passes (is_due now) o ≡ true → Contains reached.numbers n
    by None e h = absurd (false≢true h)
    by (Some live) e h = here live e (waits live.live_place) refl live.deadline refl h
