-- Between steps, the slot where a job runs is open.
use Rattle.std.proofs.Common.{◌≡◌, ◌⊎◌, inl, inr, ℕ, Bool, true, false, cond, not, ◌&&◌, List, [], ◌∷◌, Option, Some, None}
use Rattle.std.proofs.Common.{refl, sym, ap, subst, arith}
use Rattle.std.specs.Prelude.{◌==◌, unwrap_or}
use Rattle.std.proofs.lemmas.Bool.Decides.{nat_tests}
use Rattle.gm_notes.specs.declared.note.Note.{Note}
use Rattle.gm_notes.specs.declared.note.Note.TheVariants as notes
use Rattle.gm_notes.specs.Settings.{Settings}
use Rattle.gm_notes.specs.Notes.{is_open, phase, is_asleep, slots_from}
use Rattle.gm_notes.specs.Jobs.{Job, job_state, job, is_wanted, is_last_try}
use Rattle.gm_notes.specs.JobStates.{JobState, is_waiting, is_running_at}
use Rattle.gm_notes.specs.JobStates as states
use Rattle.gm_notes.specs.Past.{Past, with_note}
use Rattle.gm_notes.specs.Workers.{wake_itself}
use Rattle.gm_notes.specs.Closings.{discard_one, discard_each, wake_for, return_or_lose, give_back_one, give_back_each, disconnect, rising, close}
use Rattle.gm_notes.specs.Steps.{Step, Close, refusal, step, run}
use Rattle.gm_history.specs.History.{Allowed, History}
use Rattle.gm_history.specs.Causes.{Caused, is_close}
use Rattle.gm_laws.specs.Between.{RunnersAreOpen}
use Rattle.gm_history.proofs.Keeping.{keeps_notes, kept_if}
use Rattle.gm_history.proofs.Listeners.{opens}
use Rattle.gm_laws.proofs.JobLaws.{has_place}
use Rattle.gm_laws.proofs.Moving.{closes_not, moved, from, not_both, In, placed_rises, wake_each_notes}
use Rattle.gm_history.proofs.StepsKeep.{step_keeps, taken_or_not, run_history}

-- who runs a job is open, but for these
abbrev RunsSo : (ℕ → ℕ → Type 0) → List Note → Type 0
RunsSo but l = (n c : ℕ) → job_state n l ≡ states.Running c → (is_open c l ≡ true) ⊎ but n c

abbrev Nobody : ℕ → ℕ → Type 0
Nobody n c = ⊥

-- all notes but a closing's
runs_more : (but : ℕ → ℕ → Type 0) (k : Settings) (note : Note) (older : List Note) → ((c : ℕ) → note ≡ notes.Closed c → ⊥) → Allowed k note older → RunsSo but older → RunsSo but (note ∷ older)
runs_more but k (notes.Opened d addr) older other allowed r n c e = from (r n c e) (λ o. inl (opens c (is_open c older) (c == d) o)) inr
runs_more but k (notes.Closed d) older other allowed r n c e = absurd (other d refl)
runs_more but k (notes.Made m f p u body) older other allowed r n c e = from (moved n m states.Waiting (job_state n older) (states.Running c) (n == m) refl e) (λ h. absurd (let x = h.1 in cc)) (λ h. r n c h.1)
runs_more but k (notes.Returned m) older other allowed r n c e = from (moved n m states.Waiting (job_state n older) (states.Running c) (n == m) refl e) (λ h. absurd (let x = h.1 in cc)) (λ h. r n c h.1)
runs_more but k (notes.Ended m) older other allowed r n c e = from (moved n m states.Ended (job_state n older) (states.Running c) (n == m) refl e) (λ h. absurd (let x = h.1 in cc)) (λ h. r n c h.1)
runs_more but k (notes.Lost m) older other allowed r n c e = from (moved n m states.Lost (job_state n older) (states.Running c) (n == m) refl e) (λ h. absurd (let x = h.1 in cc)) (λ h. r n c h.1)
runs_more but k (notes.Discarded m) older other allowed r n c e = from (moved n m states.Discarded (job_state n older) (states.Running c) (n == m) refl e) (λ h. absurd (let x = h.1 in cc)) (λ h. r n c h.1)
runs_more but k (notes.Assigned m d late) older other allowed r n c e =
    from (moved n m (states.Running d) (job_state n older) (states.Running c) (n == m) refl e)
    (λ h. let there : d ≡ c = let x = h.1 in cc in inl (subst (λ x. is_open x older ≡ true) there allowed.1))
    (λ h. r n c h.1)
runs_more but k note older other allowed r n c e = r n c e

-- ---- a closing

closed_at : (c d : ℕ) (older t : Bool) → (c == d) ≡ t → older ≡ true → (unwrap_or (cond t (Some false) None) older ≡ true) ⊎ (c ≡ d)
closed_at c d older true is opened = let same : c ≡ d = grind (arith, nat_tests) in inr same
closed_at c d older false is opened = inl opened

-- the jobs of slot c that stand in the list
abbrev OfSlot : ℕ → List ℕ → ℕ → ℕ → Type 0
OfSlot c jobs n d = (d ≡ c) × In n jobs

-- job n is at slot c no more, once a note moves it elsewhere
left_slot : (c n : ℕ) (jobs : List ℕ) (l : List Note) (new : JobState) → ((d : ℕ) → new ≡ states.Running d → ⊥) → RunsSo (OfSlot c (n ∷ jobs)) l
    → (m d : ℕ) → unwrap_or (cond (m == n) (Some new) None) (job_state m l) ≡ states.Running d → (is_open d l ≡ true) ⊎ OfSlot c jobs m d
left_slot c n jobs l new other r m d e =
    from (moved m n new (job_state m l) (states.Running d) (m == n) refl e) (λ h. absurd (other d h.1))
    (λ h. from (r m d h.1) inl (λ x. from x.1 (λ same. absurd (not_both m n same h.0)) (λ there. inr (x.0, there))))

not_there : (c d n : ℕ) (l : List Note) → is_running_at c (job_state n l) ≡ false → job_state n l ≡ states.Running d → d ≡ c → ⊥
not_there c d n l other e same =
    let at : (c == d) ≡ false = subst (λ p. is_running_at c p ≡ false) e other in
    not_both c d (sym same) at

module _ (k : Settings) (c : ℕ) where
  wakes_for_runs : (but : ℕ → ℕ → Type 0) (o : Option Job) (past : Past) → RunsSo but past.notes → RunsSo but (wake_for k o past).notes
  wakes_for_runs but None past r = r
  wakes_for_runs but (Some job) past r = wake_each_notes (λ l. RunsSo but l) (λ d older p. p) job.function (slots_from 0 k.slots) past r

  returned_or_lost_runs : (t : Bool) (n : ℕ) (jobs : List ℕ) (past : Past) → RunsSo (OfSlot c (n ∷ jobs)) past.notes
      → RunsSo (OfSlot c jobs) (cond t (with_note (notes.Lost n) past) (wake_for k (job n past.notes) (with_note (notes.Returned n) past))).notes
  returned_or_lost_runs true n jobs past r m d e = left_slot c n jobs past.notes states.Lost (λ x y. absurd cc) r m d e
  returned_or_lost_runs false n jobs past r m d e =
      wakes_for_runs (OfSlot c jobs) (job n past.notes) (with_note (notes.Returned n) past) (left_slot c n jobs past.notes states.Waiting (λ x y. absurd cc) r) m d e

  given_back_runs : (t w : Bool) (n : ℕ) (jobs : List ℕ) (past : Past) → is_running_at c (job_state n past.notes) ≡ t → RunsSo (OfSlot c (n ∷ jobs)) past.notes
      → RunsSo (OfSlot c jobs) (cond t (cond w (return_or_lose k n past) (with_note (notes.Discarded n) past)) past).notes
  given_back_runs true true n jobs past is r m d e = returned_or_lost_runs (is_last_try k n past.notes) n jobs past r m d e
  given_back_runs true false n jobs past is r m d e = left_slot c n jobs past.notes states.Discarded (λ x y. absurd cc) r m d e
  given_back_runs false w n jobs past is r m d e =
      from (r m d e) inl (λ x. from x.1 (λ same. absurd (not_there c d n past.notes is (subst (λ y. job_state y past.notes ≡ states.Running d) same e) x.0)) (λ there. inr (x.0, there)))

  given_back_each_runs : (jobs : List ℕ) (past : Past) → RunsSo (OfSlot c jobs) past.notes → RunsSo Nobody (give_back_each k c jobs past).notes
  given_back_each_runs [] past r m d e = from (r m d e) inl (λ x. absurd x.1)
  given_back_each_runs (n ∷ jobs) past r m d e =
      given_back_each_runs jobs (give_back_one k c n past) (given_back_runs (is_running_at c (job_state n past.notes)) (is_wanted n past.notes) n jobs past refl r) m d e

  discarded_runs : (but : ℕ → ℕ → Type 0) (jobs : List ℕ) (past : Past) → RunsSo but past.notes → RunsSo but (discard_each jobs past).notes
  discarded_runs but [] past r = r
  discarded_runs but (n ∷ jobs) past r =
      discarded_runs but jobs (discard_one n past)
      (kept_if (λ l. RunsSo but l) (is_waiting (job_state n past.notes) && not (is_wanted n past.notes)) (with_note (notes.Discarded n) past) past
      (λ m d e. from (moved m n states.Discarded (job_state m past.notes) (states.Running d) (m == n) refl e) (λ h. absurd (let x = h.1 in cc)) (λ h. r m d h.1)) r)

  close_runs : (past : Past) → History k past.notes → RunsSo Nobody past.notes → RunsSo Nobody (close k c past).notes
  close_runs past h r =
      let stirred : RunsSo Nobody (wake_itself c past).notes = kept_if (λ l. RunsSo Nobody l) (is_asleep (phase c past.notes)) (with_note (notes.Stirred c) past) past r r in
      let rises : (n d : ℕ) → job_state n (wake_itself c past).notes ≡ states.Running d → In n (rising past) =
      kept_if (λ l. (n d : ℕ) → job_state n l ≡ states.Running d → In n (rising past)) (is_asleep (phase c past.notes)) (with_note (notes.Stirred c) past) past
      (λ n d e. placed_rises k past n h (ap has_place e)) (λ n d e. placed_rises k past n h (ap has_place e)) in
      given_back_each_runs (rising past) (discard_each (rising past) (disconnect c past))
      (discarded_runs (OfSlot c (rising past)) (rising past) (disconnect c past)
      (λ n d e. from (stirred n d e)
      (λ o. from (closed_at d c (is_open d (wake_itself c past).notes) (d == c) refl o) inl (λ same. inr (same, rises n d e)))
      (λ x. absurd x)))

-- ---- steps

quiet_runs : (k : Settings) (s : Step) (start : Past) → is_close s ≡ false → History k start.notes → RunsSo Nobody start.notes → RunsSo Nobody (step k s start).notes
quiet_runs k s start other h r =
    (step_keeps start s
    (keeps_notes (λ l. RunsSo Nobody l) (λ note older allowed cause g p. runs_more Nobody k note older (λ c is. closes_not s c other (subst (λ x. Caused k start.notes s x older) is cause)) allowed p))
    (λ c e g u. u) (h, r)).1

step_runs : (k : Settings) (s : Step) (start : Past) → History k start.notes → RunsSo Nobody start.notes → RunsSo Nobody (step k s start).notes
step_runs k (Close c) start h r = taken_or_not (λ past. RunsSo Nobody past.notes) (refusal k (Close c) start) (close k c start) start (λ taken. close_runs k c start h r) r
step_runs k s start h r = quiet_runs k s start refl h r

pub run_runs : (k : Settings) (steps : List Step) → RunsSo Nobody (run k steps).notes
run_runs k [] n c e = absurd cc
run_runs k (s ∷ steps) n c e = step_runs k s (run k steps) (run_history k steps) (run_runs k steps) n c e

pub runners_open : (k : Settings) (steps : List Step) → RunnersAreOpen k (run k steps).notes
runners_open k steps n c e = from (run_runs k steps n c e) (λ o. o) (λ x. absurd x)
