-- A closing closes its slot, and leaves its jobs to others.
use Rattle.std.proofs.Common.{◌≡◌, ◌⊎◌, inl, inr, ℕ, suc, Bool, true, false, cond, not, ◌&&◌, List, [], ◌∷◌, length, filter, Option, Some, None}
use Rattle.std.proofs.Common.{refl, sym, ap, subst, ◌∙◌}
use Rattle.std.specs.Prelude.{◌==◌, unwrap_or}
use Rattle.gm_notes.specs.declared.note.Note.{Note}
use Rattle.gm_notes.specs.declared.note.Note.TheVariants as notes
use Rattle.gm_notes.specs.Settings.{Settings}
use Rattle.gm_notes.specs.Notes.{is_open, phase, is_asleep, slots_from}
use Rattle.gm_notes.specs.Jobs.{Job, job_state, job, is_wanted, is_last_try, is_kept, listeners}
use Rattle.gm_notes.specs.JobStates.{JobState, is_waiting, is_running_at}
use Rattle.gm_notes.specs.JobStates as states
use Rattle.gm_notes.specs.Past.{Past, with_note}
use Rattle.gm_notes.specs.Closings.{discard_one, discard_each, wake_for, give_back_one, give_back_each, disconnect, rising, close}
use Rattle.gm_notes.specs.Steps.{Step, Close, run}
use Rattle.gm_history.specs.Causes.{Caused, closes}
use Rattle.gm_history.proofs.Finding.{waiting_is}
use Rattle.gm_history.proofs.Keeping.{kept_if, runs_there}
use Rattle.gm_history.proofs.Listeners.{opens}
use Rattle.gm_history.proofs.StepsKeep.{run_history}
use Rattle.gm_history.proofs.Caused.{note_law}
use Rattle.gm_laws.specs.Closing.{ListensNoMore, LeavesItsJobs, ClosingCloses}
use Rattle.gm_laws.proofs.Moving.{both_not, not_both, wake_each_notes}
use Rattle.gm_laws.proofs.Orphans.{waits_wanted}
use Rattle.gm_laws.proofs.Runners.{runners_open}
use Rattle.gm_laws.proofs.StepLaws.{taken_is}
use Rattle.gm_notes.proofs.Numbers.{same_number}
use Rattle.std.proofs.lemmas.Bool.{eqb-true}

-- ---- who listens still

-- where slot c is taken out of a list, as many are left of another slot, and none of it
left_of : (c d : ℕ) (slots : List ℕ) (t : Bool) → (c == d) ≡ t → length (filter (λ x. d == x) (filter (λ x. not (x == c)) slots)) ≡ cond t 0 (length (filter (λ x. d == x) slots))
left_of c d [] true is = refl
left_of c d [] false is = refl
left_of c d (x ∷ slots) t is = by t (x == c) (d == x) is refl refl (left_of c d slots t is)
  where
    by : (t u v : Bool) → (c == d) ≡ t → (x == c) ≡ u → (d == x) ≡ v → length (filter (λ y. d == y) (filter (λ y. not (y == c)) slots)) ≡ cond t 0 (length (filter (λ y. d == y) slots))
        → length (filter (λ y. d == y) (cond (not u) (x ∷ filter (λ y. not (y == c)) slots) (filter (λ y. not (y == c)) slots))) ≡ cond t 0 (length (cond v (x ∷ filter (λ y. d == y) slots) (filter (λ y. d == y) slots)))
    by true true v is was same rest = rest
    by false true true is was same rest = absurd (not_both c d (sym (eqb-true d x same ∙ eqb-true x c was)) is)
    by false true false is was same rest = rest
    by true false true is was same rest = absurd (not_both x c (sym (eqb-true c d is ∙ eqb-true d x same)) was)
    by true false false is was same rest = rw same rest
    by false false true is was same rest = rw same (ap suc rest)
    by false false false is was same rest = rw same rest

-- ---- what a closing leaves

module _ (k : Settings) (c : ℕ) (start : Past) where
  -- it waits again, or is lost
  abbrev IsBack : JobState → Type 0
  IsBack state = (state ≡ states.Waiting) ⊎ (state ≡ states.Lost)

  -- it ran at slot c, or waited
  abbrev Was : ℕ → Type 0
  Was n = (job_state n start.notes ≡ states.Running c) ⊎ (job_state n start.notes ≡ states.Waiting)

  -- job n, wanted or not, went here
  abbrev Went : ℕ → Bool → JobState → Type 0
  Went n wanted state =
      ((wanted ≡ true) × (job_state n start.notes ≡ states.Running c) × IsBack state) ⊎ ((wanted ≡ false) × Was n × (state ≡ states.Discarded))

  record Left (l : List Note) : Type 0 where
    closed : is_open c l ≡ false
    kept : (n : ℕ) → is_kept n l ≡ is_kept n start.notes
    heard : (n : ℕ) → listeners n l ≡ filter (λ x. not (x == c)) (listeners n start.notes)
    went : (n : ℕ) → (job_state n l ≡ job_state n start.notes) ⊎ Went n (is_wanted n l) (job_state n l)

  -- job m goes to another state
  goes : (note : Note) (older : List Note) (m : ℕ) (new : JobState) → is_open c (note ∷ older) ≡ is_open c older → ((n : ℕ) → is_kept n (note ∷ older) ≡ is_kept n older) → ((n : ℕ) → listeners n (note ∷ older) ≡ listeners n older)
      → ((n : ℕ) → is_wanted n (note ∷ older) ≡ is_wanted n older) → ((n : ℕ) → job_state n (note ∷ older) ≡ unwrap_or (cond (n == m) (Some new) None) (job_state n older))
      → Went m (is_wanted m older) new → Left older → Left (note ∷ older)
  goes note older m new opened keeps hears wants states_are here l =
      record {
        closed = opened ∙ l.closed;
        kept = λ n. keeps n ∙ l.kept n;
        heard = λ n. hears n ∙ l.heard n;
        went = λ n. by n (n == m) refl (l.went n);
      }
    where
      at : (n : ℕ) (t : Bool) → (n == m) ≡ t → job_state n (note ∷ older) ≡ unwrap_or (cond t (Some new) None) (job_state n older)
      at n t is = states_are n ∙ ap (λ u. unwrap_or (cond u (Some new) None) (job_state n older)) is

      by : (n : ℕ) (t : Bool) → (n == m) ≡ t → (job_state n older ≡ job_state n start.notes) ⊎ Went n (is_wanted n older) (job_state n older)
          → (job_state n (note ∷ older) ≡ job_state n start.notes) ⊎ Went n (is_wanted n (note ∷ older)) (job_state n (note ∷ older))
      by n true is was =
          inr (subst (λ w. Went n w (job_state n (note ∷ older))) (sym (wants n)) (subst (Went n (is_wanted n older)) (sym (at n true is)) (subst (λ x. Went x (is_wanted x older) new) (sym (eqb-true n m is)) here)))
      by n false is (inl same) = inl (at n false is ∙ same)
      by n false is (inr w) = inr (subst (λ w. Went n w (job_state n (note ∷ older))) (sym (wants n)) (subst (Went n (is_wanted n older)) (sym (at n false is)) w))

  -- who waits waited, and who runs at slot c ran there
  waited : (n : ℕ) (l : List Note) → Left l → job_state n l ≡ states.Waiting → Was n
  waited n l left e = by (left.went n)
    where
      by : (job_state n l ≡ job_state n start.notes) ⊎ Went n (is_wanted n l) (job_state n l) → Was n
      by (inl same) = inr (sym same ∙ e)
      by (inr (inl w)) = inl w.1
      by (inr (inr w)) = w.1

  ran : (n : ℕ) (l : List Note) → Left l → job_state n l ≡ states.Running c → job_state n start.notes ≡ states.Running c
  ran n l left e = by (left.went n)
    where
      by : (job_state n l ≡ job_state n start.notes) ⊎ Went n (is_wanted n l) (job_state n l) → job_state n start.notes ≡ states.Running c
      by (inl same) = sym same ∙ e
      by (inr (inl w)) = w.1
      by (inr (inr w)) = absurd (let bad : states.Discarded ≡ states.Running c = sym w.2 ∙ e in cc)

  discards : (jobs : List ℕ) (past : Past) → Left past.notes → Left (discard_each jobs past).notes
  discards [] past l = l
  discards (n ∷ jobs) past l = discards jobs (discard_one n past) (by (is_waiting (job_state n past.notes)) (is_wanted n past.notes) refl refl)
    where
      by : (t u : Bool) → is_waiting (job_state n past.notes) ≡ t → is_wanted n past.notes ≡ u → Left (cond (t && not u) (with_note (notes.Discarded n) past) past).notes
      by true false waits wanted =
          goes (notes.Discarded n) past.notes n states.Discarded refl (λ m. refl) (λ m. refl) (λ m. refl) (λ m. refl)
          (inr (wanted, waited n past.notes l (waiting_is (job_state n past.notes) waits), refl)) l
      by true true waits wanted = l
      by false u waits wanted = l

  wakes : (o : Option Job) (past : Past) → Left past.notes → Left (wake_for k o past).notes
  wakes None past l = l
  wakes (Some job) past l =
      wake_each_notes Left (λ d older p. record { closed = p.closed; kept = p.kept; heard = p.heard; went = p.went }) job.function (slots_from 0 k.slots) past l

  gives_back : (jobs : List ℕ) (past : Past) → Left past.notes → Left (give_back_each k c jobs past).notes
  gives_back [] past l = l
  gives_back (n ∷ jobs) past l = gives_back jobs (give_back_one k c n past) (by (is_running_at c (job_state n past.notes)) (is_wanted n past.notes) (is_last_try k n past.notes) refl refl)
    where
      there : is_running_at c (job_state n past.notes) ≡ true → job_state n start.notes ≡ states.Running c
      there here = ran n past.notes l (runs_there c (job_state n past.notes) here)

      by : (t u v : Bool) → is_running_at c (job_state n past.notes) ≡ t → is_wanted n past.notes ≡ u
          → Left (cond t (cond u (cond v (with_note (notes.Lost n) past) (wake_for k (job n past.notes) (with_note (notes.Returned n) past))) (with_note (notes.Discarded n) past)) past).notes
      by true true true here wanted =
          goes (notes.Lost n) past.notes n states.Lost refl (λ m. refl) (λ m. refl) (λ m. refl) (λ m. refl) (inl (wanted, there here, inr refl)) l
      by true true false here wanted =
          wakes (job n past.notes) (with_note (notes.Returned n) past)
          (goes (notes.Returned n) past.notes n states.Waiting refl (λ m. refl) (λ m. refl) (λ m. refl) (λ m. refl) (inl (wanted, there here, inl refl)) l)
      by true false v here wanted =
          goes (notes.Discarded n) past.notes n states.Discarded refl (λ m. refl) (λ m. refl) (λ m. refl) (λ m. refl) (inr (wanted, inl (there here), refl)) l
      by false u v here wanted = l

  -- right after the slot itself is closed
  gone : Left (disconnect c start).notes
  gone =
      kept_if (λ l. Left (notes.Closed c ∷ l)) (is_asleep (phase c start.notes)) (with_note (notes.Stirred c) start) start
      (record { closed = rw (same_number c) refl; kept = λ n. refl; heard = λ n. refl; went = λ n. inl refl })
      (record { closed = rw (same_number c) refl; kept = λ n. refl; heard = λ n. refl; went = λ n. inl refl })

  left : Left (close k c start).notes
  left = gives_back (rising start) (discard_each (rising start) (disconnect c start)) (discards (rising start) (disconnect c start) gone)

  -- ---- what that says

  module _ (after : Past) (l : Left after.notes) (runs : (n d : ℕ) → job_state n after.notes ≡ states.Running d → is_open d after.notes ≡ true)
      (wants : (n : ℕ) → job_state n after.notes ≡ states.Waiting → is_wanted n after.notes ≡ true) where
    not_there : {X : Type 0} (n : ℕ) → job_state n after.notes ≡ states.Running c → X
    not_there n e = absurd (both_not (is_open c after.notes) (runs n c e) l.closed)

    abbrev Whither : ℕ → Type 0
    Whither n = (job_state n after.notes ≡ job_state n start.notes) ⊎ Went n (is_wanted n after.notes) (job_state n after.notes)

    leaves : LeavesItsJobs c start after
    leaves n = (
      (λ was wanted. back was wanted (l.went n)),
      (λ was wanted. stays was wanted (l.went n)),
      (λ was wanted. goes_away was wanted (l.went n)),
      (λ d other was. goes_on d other was (l.went n)),
    )
      where
        back : job_state n start.notes ≡ states.Running c → is_wanted n after.notes ≡ true → Whither n → IsBack (job_state n after.notes)
        back was wanted (inl same) = not_there n (same ∙ was)
        back was wanted (inr (inl w)) = w.2
        back was wanted (inr (inr w)) = absurd (both_not (is_wanted n after.notes) wanted w.0)

        stays : job_state n start.notes ≡ states.Waiting → is_wanted n after.notes ≡ true → Whither n → job_state n after.notes ≡ states.Waiting
        stays was wanted (inl same) = same ∙ was
        stays was wanted (inr (inl w)) = absurd (let bad : states.Waiting ≡ states.Running c = sym was ∙ w.1 in cc)
        stays was wanted (inr (inr w)) = absurd (both_not (is_wanted n after.notes) wanted w.0)

        goes_away : Was n → is_wanted n after.notes ≡ false → Whither n → job_state n after.notes ≡ states.Discarded
        goes_away (inl was) wanted (inl same) = not_there n (same ∙ was)
        goes_away (inr was) wanted (inl same) = absurd (both_not (is_wanted n after.notes) (wants n (same ∙ was)) wanted)
        goes_away was wanted (inr (inl w)) = absurd (both_not (is_wanted n after.notes) w.0 wanted)
        goes_away was wanted (inr (inr w)) = w.2

        elsewhere : (d : ℕ) → (c ≡ d → ⊥) → job_state n start.notes ≡ states.Running d → job_state n start.notes ≡ states.Running c → ⊥
        elsewhere d other was here = other (let same : states.Running c ≡ states.Running d = sym here ∙ was in cc)

        goes_on : (d : ℕ) → (c ≡ d → ⊥) → job_state n start.notes ≡ states.Running d → Whither n → job_state n after.notes ≡ states.Running d
        goes_on d other was (inl same) = same ∙ was
        goes_on d other was (inr (inl w)) = absurd (elsewhere d other was w.1)
        goes_on d other was (inr (inr (w, inl here, e))) = absurd (elsewhere d other was here)
        goes_on d other was (inr (inr (w, inr here, e))) = absurd (let bad : states.Waiting ≡ states.Running d = sym here ∙ was in cc)

    listens_not : ListensNoMore c start after
    listens_not n d = (ap (λ slots. length (filter (λ x. d == x) slots)) (l.heard n) ∙ left_of c d (listeners n start.notes) (c == d) refl, l.kept n)

-- ---- steps

closed_so : (k : Settings) (steps : List Step) (c : ℕ) → is_open c (run k steps).notes ≡ true
    → (is_open c (run k (Close c ∷ steps)).notes ≡ false) × ListensNoMore c (run k steps) (run k (Close c ∷ steps)) × LeavesItsJobs c (run k steps) (run k (Close c ∷ steps))
closed_so k steps c opened =
    let start = run k steps in
    let after = run k (Close c ∷ steps) in
    let l : Left k c start after.notes = subst (λ (past : Past). Left k c start past.notes) (sym (taken_is (is_open c start.notes) (close k c start) start opened)) (left k c start) in
    let runs = runners_open k (Close c ∷ steps) in
    let wants = waits_wanted k (Close c ∷ steps) in
    (l.closed, listens_not k c start after l runs wants, leaves k c start after l runs wants)

-- an open slot stays open in a step that isn't its closing
module _ (k : Settings) (s : Step) (c : ℕ) (stays : closes c s ≡ false) where
  open_more : (start : List Note) (note : Note) (older : List Note) → Caused k start s note older → is_open c older ≡ true → is_open c (note ∷ older) ≡ true
  open_more start (notes.Opened d addr) older cause p = opens c (is_open c older) (c == d) p
  open_more start (notes.Closed d) older cause p = by (c == d) refl
    where
      by : (t : Bool) → (c == d) ≡ t → unwrap_or (cond t (Some false) None) (is_open c older) ≡ true
      by true is = absurd (both_not (closes c s) (ap (closes c) cause ∙ is) stays)
      by false is = p
  open_more start note older cause p = p

pub closing_closes : (k : Settings) (steps : List Step) (s : Step) → ClosingCloses k (run k steps) s (run k (s ∷ steps))
closing_closes k steps s = (
  (λ c is opened. subst (λ x. (is_open c (run k (x ∷ steps)).notes ≡ false) × ListensNoMore c (run k steps) (run k (x ∷ steps)) × LeavesItsJobs c (run k steps) (run k (x ∷ steps))) (sym is) (closed_so k steps c opened)),
  λ c opened stays. note_law k s (run k steps) (run_history k steps) (λ l. is_open c l ≡ true) (λ note older allowed cause h p. open_more k s c stays (run k steps).notes note older cause p) opened,
)
