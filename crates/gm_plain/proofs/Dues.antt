-- What the notes that may yet come without memory cost, as one note comes.
use Rattle.std.proofs.Common.{◌≡◌, ℕ, zero, suc, ◌+◌, ◌<◌, ◌≤◌, ◌^◌, Bool, true, false, List, [], ◌∷◌, ◌++◌, length, Some, None, refl, sym, ap, ap₂, ◌∙◌}
use Rattle.std.proofs.Common.{subst, arith}
use Rattle.std.specs.Prelude.{◌==◌, if◌then◌else◌, unwrap_or}
use Rattle.std.proofs.lemmas.Bool.Decides.{nat_tests}
use Rattle.gm_notes.specs.declared.states.Phase.{Phase}
use Rattle.gm_notes.specs.declared.states.Phase.TheVariants.{Asleep, Owed}
use Rattle.gm_notes.specs.declared.note.Note.{Note}
use Rattle.gm_notes.specs.declared.note.Note.TheVariants.{Opened, Closed, Slept, Woken, Stirred, Took, Withdrew, Made, Assigned, Returned, Lost}
use Rattle.gm_notes.specs.declared.note.Note.TheVariants.{Ended, Discarded}
use Rattle.gm_notes.specs.Notes.{is_open, phase, is_asleep, is_owed}
use Rattle.gm_notes.specs.Jobs.{job_state, made}
use Rattle.gm_notes.specs.JobStates.{JobState, is_waiting, is_running, is_running_at, is_live}
use Rattle.gm_notes.specs.JobStates as states
use Rattle.gm_plain.specs.Logs.{NoteFits, AllFit, MayCome, AreNumbered, AreInOrder, IsPaid, numbers_from, total_of, due_of_open, due_of_phase, due_of_job_state}
use Rattle.gm_plain.specs.Logs.{slot_due, slots_due, jobs_due, due, weight, paid}
use Rattle.gm_plain.proofs.LogLemmas.{open_below}
use Rattle.std.proofs.lemmas.List.{reverse-append}
use Rattle.gm_notes.proofs.Numbers.{same_number}

-- ---- sums in which one term changes

module _ (f g : ℕ → ℕ) (d : ℕ) (same : (c : ℕ) → (c == d) ≡ false → f c ≡ g c) where
  total_outside : (s n : ℕ) → s + n ≤ d → total_of f s n ≡ total_of g s n
  total_outside s zero h = refl
  total_outside s (suc n) h =
      let other : (s + n == d) ≡ false = grind (arith, nat_tests) in
      let here : f (s + n) ≡ g (s + n) = same (s + n) other in
      let rest : total_of f s n ≡ total_of g s n = total_outside s n (omega arith) in
      omega arith

  at_last : (t : Bool) (s n : ℕ) → (s + n == d) ≡ t → s ≤ d → d < s + suc n
      → (d < s + n → total_of f s n + g d ≡ total_of g s n + f d)
      → total_of f s (suc n) + g d ≡ total_of g s (suc n) + f d
  at_last true s n is low high rest =
      let here : s + n ≡ d = grind (arith, nat_tests) in
      let before : total_of f s n ≡ total_of g s n = total_outside s n (omega arith) in
      let at_f : f (s + n) ≡ f d = ap f here in
      let at_g : g (s + n) ≡ g d = ap g here in
      omega arith
  at_last false s n is low high rest =
      let other : f (s + n) ≡ g (s + n) = same (s + n) is in
      let lt : d < s + n = grind (arith, nat_tests) in
      let before : total_of f s n + g d ≡ total_of g s n + f d = rest lt in
      omega arith

  total_at : (s n : ℕ) → s ≤ d → d < s + n → total_of f s n + g d ≡ total_of g s n + f d
  total_at s zero low high = absurd (omega arith)
  total_at s (suc n) low high = at_last (s + n == d) s n refl low high (total_at s n low)

  most_last : (t : Bool) (k s n : ℕ) → (s + n == d) ≡ t → f d ≤ g d + k → total_of f s n ≤ total_of g s n + k
      → total_of f s (suc n) ≤ total_of g s (suc n) + k
  most_last true k s n is more rest =
      let here : s + n ≡ d = grind (arith, nat_tests) in
      let before : total_of f s n ≡ total_of g s n = total_outside s n (omega arith) in
      let at_f : f (s + n) ≡ f d = ap f here in
      let at_g : g (s + n) ≡ g d = ap g here in
      omega arith
  most_last false k s n is more rest =
      let other : f (s + n) ≡ g (s + n) = same (s + n) is in
      omega arith

  total_most : (k s n : ℕ) → f d ≤ g d + k → total_of f s n ≤ total_of g s n + k
  total_most k s zero more = omega arith
  total_most k s (suc n) more = most_last (s + n == d) k s n refl more (total_most k s n more)

-- ---- what is due at one slot, and of one job

asleep_due : (p : Phase) → is_asleep p ≡ true → due_of_phase p ≡ 2
asleep_due Asleep e = refl
asleep_due p e = absurd cc

owed_due : (p : Phase) → is_owed p ≡ true → due_of_phase p ≡ 1
owed_due Owed e = refl
owed_due p e = absurd cc

waits_due : (p : JobState) → is_waiting p ≡ true → due_of_job_state p ≡ 1
waits_due states.Waiting e = refl
waits_due p e = absurd cc

runs_at_due : (p : JobState) (c : ℕ) → is_running_at c p ≡ true → due_of_job_state p ≡ 2
runs_at_due (states.Running d) c e = refl
runs_at_due p c e = absurd cc

runs_due : (p : JobState) → is_running p ≡ true → 1 ≤ due_of_job_state p
runs_due (states.Running c) e = omega arith
runs_due states.Lost e = omega arith
runs_due p e = absurd cc

live_due : (p : JobState) → is_live p ≡ true → 1 ≤ due_of_job_state p
live_due states.Waiting e = omega arith
live_due (states.Running c) e = omega arith
live_due states.Lost e = omega arith
live_due p e = absurd cc

running_lives : (p : JobState) → is_running p ≡ true → is_live p ≡ true
running_lives (states.Running c) e = refl
running_lives states.Lost e = refl
running_lives p e = absurd cc

waiting_lives : (p : JobState) → is_waiting p ≡ true → is_live p ≡ true
waiting_lives states.Waiting e = refl
waiting_lives p e = absurd cc

running_there_lives : (p : JobState) (c : ℕ) → is_running_at c p ≡ true → is_live p ≡ true
running_there_lives (states.Running d) c e = refl
running_there_lives p c e = absurd cc

-- ---- what is due after a note

-- the note takes something off at its slot, and nothing of jobs
slot_less : (note : Note) (d slots first : ℕ) (notes : List Note) → ((c : ℕ) → (c == d) ≡ false → slot_due c (note ∷ notes) ≡ slot_due c notes) → d < slots
    → slot_due d (note ∷ notes) < slot_due d notes → jobs_due first (note ∷ notes) ≡ jobs_due first notes → due slots first (note ∷ notes) < due slots first notes
slot_less note d slots first notes same lt less jobs =
    let at = total_at (λ c. slot_due c (note ∷ notes)) (λ c. slot_due c notes) d same 0 slots (omega arith) (omega arith) in
    omega (arith, at, jobs)

-- the note takes something off of its job, and nothing at slots
job_less : (note : Note) (m slots first : ℕ) (notes : List Note) → ((n : ℕ) → (n == m) ≡ false → due_of_job_state (job_state n (note ∷ notes)) ≡ due_of_job_state (job_state n notes))
    → (first ≤ m) × (m < first + length (made notes)) → due_of_job_state (job_state m (note ∷ notes)) < due_of_job_state (job_state m notes) → made (note ∷ notes) ≡ made notes
    → slots_due slots (note ∷ notes) ≡ slots_due slots notes → due slots first (note ∷ notes) < due slots first notes
job_less note m slots first notes same within less kept slot =
    let at = total_at (λ n. due_of_job_state (job_state n (note ∷ notes))) (λ n. due_of_job_state (job_state n notes)) m same first (length (made notes)) within.0 within.1 in
    let e : jobs_due first (note ∷ notes) ≡ total_of (λ n. due_of_job_state (job_state n (note ∷ notes))) first (length (made notes)) =
    ap (λ l. total_of (λ n. due_of_job_state (job_state n (note ∷ notes))) first (length l)) kept in
    omega (arith, at, e, slot)

pub due_next : (slots first : ℕ) (note : Note) (notes : List Note) → MayCome slots first note notes → AllFit slots notes → AreNumbered first notes
    → suc (due slots first (note ∷ notes)) ≤ due slots first notes + weight note
due_next slots first (Opened d addr) notes stands fit numbered =
    let at = total_most (λ c. slot_due c (Opened d addr ∷ notes)) (λ c. slot_due c notes) d (λ c h. rw h refl) 1 0 slots (rw (same_number d) (omega arith)) in
    let jobs : jobs_due first (Opened d addr ∷ notes) ≡ jobs_due first notes = refl in
    omega (arith, at, jobs)
due_next slots first (Closed d) notes stands fit numbered =
    let opened : due_of_open (is_open d notes) ≡ 1 = ap due_of_open stands in
    let less = slot_less (Closed d) d slots first notes (λ c h. rw h refl) (open_below slots d notes fit stands) (rw (same_number d) (omega (arith, opened))) refl in omega (arith, less)
due_next slots first (Slept d) notes stands fit numbered =
    let at = total_most (λ c. slot_due c (Slept d ∷ notes)) (λ c. slot_due c notes) d (λ c h. rw h refl) 2 0 slots (rw (same_number d) (omega arith)) in
    let jobs : jobs_due first (Slept d ∷ notes) ≡ jobs_due first notes = refl in
    omega (arith, at, jobs)
due_next slots first (Woken d) notes stands fit numbered =
    let asleep = asleep_due (phase d notes) stands.1 in
    let less = slot_less (Woken d) d slots first notes (λ c h. rw h refl) stands.0 (rw (same_number d) (omega (arith, asleep))) refl in omega (arith, less)
due_next slots first (Stirred d) notes stands fit numbered =
    let asleep = asleep_due (phase d notes) stands.1 in
    let less = slot_less (Stirred d) d slots first notes (λ c h. rw h refl) stands.0 (rw (same_number d) (omega (arith, asleep))) refl in omega (arith, less)
due_next slots first (Took d) notes stands fit numbered =
    let owed = owed_due (phase d notes) stands.1 in
    let less = slot_less (Took d) d slots first notes (λ c h. rw h refl) stands.0 (rw (same_number d) (omega (arith, owed))) refl in omega (arith, less)
due_next slots first (Withdrew d) notes stands fit numbered =
    let owed = owed_due (phase d notes) stands.1 in
    let less = slot_less (Withdrew d) d slots first notes (λ c h. rw h refl) stands.0 (rw (same_number d) (omega (arith, owed))) refl in omega (arith, less)
due_next slots first (Made m f p u body) notes stands fit numbered =
    let slot : slots_due slots (Made m f p u body ∷ notes) ≡ slots_due slots notes = refl in
    let past = total_outside (λ n. due_of_job_state (job_state n (Made m f p u body ∷ notes))) (λ n. due_of_job_state (job_state n notes)) m (λ n h. rw h refl) first (length (made notes)) (omega (arith, stands)) in
    let here : due_of_job_state (job_state (first + length (made notes)) (Made m f p u body ∷ notes)) ≡ 1 = rw (sym stands, same_number m) refl in
    omega (arith, slot, past, here)
due_next slots first (Assigned m c deadline) notes stands fit numbered =
    let slot : slots_due slots (Assigned m c deadline ∷ notes) ≡ slots_due slots notes = refl in
    let waits = waits_due (job_state m notes) stands in
    let at = total_most (λ n. due_of_job_state (job_state n (Assigned m c deadline ∷ notes))) (λ n. due_of_job_state (job_state n notes)) m (λ n h. rw h refl) 1 first (length (made notes)) (rw (same_number m) (omega (arith, waits))) in
    omega (arith, slot, at)
due_next slots first (Returned m) notes stands fit numbered =
    let runs = runs_at_due (job_state m notes) stands.0 stands.1 in
    let less = job_less (Returned m) m slots first notes (λ n h. rw h refl) (numbered m (running_there_lives (job_state m notes) stands.0 stands.1)) (rw (same_number m) (omega (arith, runs))) refl refl in omega (arith, less)
due_next slots first (Lost m) notes stands fit numbered =
    let runs = runs_at_due (job_state m notes) stands.0 stands.1 in
    let less = job_less (Lost m) m slots first notes (λ n h. rw h refl) (numbered m (running_there_lives (job_state m notes) stands.0 stands.1)) (rw (same_number m) (omega (arith, runs))) refl refl in omega (arith, less)
due_next slots first (Ended m) notes stands fit numbered =
    let runs = runs_due (job_state m notes) stands in
    let less = job_less (Ended m) m slots first notes (λ n h. rw h refl) (numbered m (running_lives (job_state m notes) stands)) (rw (same_number m) (omega (arith, runs))) refl refl in omega (arith, less)
due_next slots first (Discarded m) notes stands fit numbered =
    let lives = live_due (job_state m notes) stands in
    let less = job_less (Discarded m) m slots first notes (λ n h. rw h refl) (numbered m stands) (rw (same_number m) (omega (arith, lives))) refl refl in omega (arith, less)
due_next slots first note notes stands fit numbered = omega arith

-- ---- the jobs made

live_if : (t : Bool) (n m first len : ℕ) (new old : JobState) → (n == m) ≡ t → (is_live new ≡ true → (first ≤ m) × (m < first + len))
    → (is_live old ≡ true → (first ≤ n) × (n < first + len)) → is_live (unwrap_or (if t then Some new else None) old) ≡ true → (first ≤ n) × (n < first + len)
live_if true n m first len new old is here rest live =
    let same : m ≡ n = grind (arith, nat_tests) in
    subst (λ x. (first ≤ x) × (x < first + len)) same (here live)
live_if false n m first len new old is here rest live = rest live

pub numbered_next : (slots first : ℕ) (note : Note) (notes : List Note) → MayCome slots first note notes → AreNumbered first notes → AreNumbered first (note ∷ notes)
numbered_next slots first (Made m f p u body) notes stands numbered n =
    live_if (n == m) n m first (suc (length (made notes))) states.Waiting (job_state n notes) refl (λ live. (omega (arith, stands), omega (arith, stands)))
    (λ live. let r = numbered n live in (r.0, omega (arith, r.1)))
numbered_next slots first (Returned m) notes stands numbered n =
    live_if (n == m) n m first (length (made notes)) states.Waiting (job_state n notes) refl (λ live. numbered m (running_there_lives (job_state m notes) stands.0 stands.1)) (numbered n)
numbered_next slots first (Lost m) notes stands numbered n =
    live_if (n == m) n m first (length (made notes)) states.Lost (job_state n notes) refl (λ live. numbered m (running_there_lives (job_state m notes) stands.0 stands.1)) (numbered n)
numbered_next slots first (Assigned m c deadline) notes stands numbered n =
    live_if (n == m) n m first (length (made notes)) (states.Running c) (job_state n notes) refl (λ live. numbered m (waiting_lives (job_state m notes) stands)) (numbered n)
numbered_next slots first (Ended m) notes stands numbered n = live_if (n == m) n m first (length (made notes)) states.Ended (job_state n notes) refl (λ live. absurd cc) (numbered n)
numbered_next slots first (Discarded m) notes stands numbered n = live_if (n == m) n m first (length (made notes)) states.Discarded (job_state n notes) refl (λ live. absurd cc) (numbered n)
numbered_next slots first note notes stands numbered n = numbered n

in_order_after : (n count : ℕ) → numbers_from n count ++ (n + count) ∷ [] ≡ numbers_from n (suc count)
in_order_after n zero = let same : n + 0 ≡ n = omega arith in ap (λ m. m ∷ []) same
in_order_after n (suc count) =
    let same : n + suc count ≡ suc n + count = omega arith in
    ap (λ l. n ∷ l) (ap (λ m. numbers_from (suc n) count ++ m ∷ []) same ∙ in_order_after (suc n) count)

in_order_next : (slots first : ℕ) (note : Note) (notes : List Note) → MayCome slots first note notes → NoteFits slots note → AreInOrder first notes → AreInOrder first (note ∷ notes)
in_order_next slots first (Made n f p u body) notes stands fits ordered = record {
  rising = reverse-append (n ∷ []) (made notes)
      ∙ (ap₂ (λ (l : List ℕ) m. l ++ m ∷ []) ordered.rising stands ∙ in_order_after first (length (made notes)));
  small = omega (arith, fits.1, stands);
}
in_order_next slots first note notes stands fits ordered = record { rising = ordered.rising; small = ordered.small }

pub paid_next : (slots first : ℕ) (note : Note) (notes : List Note) → MayCome slots first note notes → NoteFits slots note → IsPaid slots first notes
    → IsPaid slots first (note ∷ notes)
paid_next slots first note notes stands fits paid = record {
  fit = (fits, paid.fit);
  numbered = numbered_next slots first note notes stands paid.numbered;
  in_order = in_order_next slots first note notes stands fits paid.in_order;
  covered = let next = due_next slots first note notes stands paid.fit paid.numbered in omega (arith, next, paid.covered);
}

-- there is room where it is paid for
pub room_for : (slots first capacity : ℕ) (note : Note) (notes : List Note) → MayCome slots first note notes → IsPaid slots first notes → paid notes + weight note ≤ capacity
    → length notes < capacity
room_for slots first capacity note notes stands held room =
    let next = due_next slots first note notes stands held.fit held.numbered in omega (arith, next, held.covered)

none_due : (f : ℕ → ℕ) (s n : ℕ) → ((c : ℕ) → f c ≡ 0) → total_of f s n ≡ 0
none_due f s zero none = refl
none_due f s (suc n) none =
    let here = none (s + n) in
    let rest = none_due f s n none in
    omega (arith, here, rest)

pub nothing_due : (slots first : ℕ) → first ≤ 2 ^ 64 → IsPaid slots first []
nothing_due slots first small = record {
  fit = tt;
  numbered = λ n live. absurd cc;
  in_order = record { rising = refl; small = omega (arith, small) };
  covered = let none = none_due (λ c. slot_due c []) 0 slots (λ c. refl) in omega (arith, none);
}
