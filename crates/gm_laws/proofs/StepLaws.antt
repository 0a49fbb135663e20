-- The laws about what a step does to notes and says.
use Rattle.std.proofs.Common.{Some, None, Option, ◌∙◌, ◌≡◌, ◌⊎◌, inl, inr, ℕ, suc, Bool, true, false, not, ◌||◌, List, [], ◌∷◌}
use Rattle.std.proofs.Common.{◌++◌, length, filter, refl, sym, ap, subst, arith}
use Rattle.std.specs.Prelude.{◌==◌}
use Rattle.std.proofs.lemmas.Bool.Decides.{nat_tests}
use Rattle.std.proofs.lemmas.Option.{same_Some}
use Rattle.gm_packet.specs.declared.kind.Kind.{Kind}
use Rattle.gm_packet.specs.declared.kind.Kind.TheVariants.{GrabJob, GrabJobUniq}
use Rattle.gm_packet.specs.Kinds.{kind_of}
use Rattle.gm_notes.specs.Requests.{packet_of}
use Rattle.gm_notes.specs.declared.note.Note.{Note}
use Rattle.gm_notes.specs.declared.note.Note.TheVariants as notes
use Rattle.gm_notes.specs.Settings.{Settings}
use Rattle.gm_notes.specs.Flow.{Flow, Began, Queued, Drained, Emptied}
use Rattle.gm_notes.specs.Jobs.{Job, job, pick, job_state, is_wanted, is_kept, listeners}
use Rattle.gm_notes.specs.declared.states.Pick.{Pick}
use Rattle.gm_notes.specs.JobStates as states
use Rattle.gm_notes.specs.Past.{Past, with_note}
use Rattle.gm_notes.specs.Workers.{wake_itself, deadline_after, tell_assigned, give_out}
use Rattle.gm_notes.specs.Notes.{moment, takes_units}
use Rattle.gm_notes.specs.Steps.{Step, unless, unless_not_open, step, run}
use Rattle.gm_history.specs.History.{Allowed, Gets, History}
use Rattle.gm_history.specs.Causes.{is_one_of, Caused, Ends, AllSaid, asks, is_grab, is_close}
use Rattle.gm_laws.specs.Laws.{EndsWithItsWorker, GivesThePick, GrabsGetThePick, SaysNoJobWhereNoneIs}
use Rattle.gm_laws.specs.Listeners.{AllMayGet, AnswersStayHome}
use Rattle.gm_history.proofs.Asking.{closing_asks}
use Rattle.gm_laws.proofs.Moving.{moved, from}
use Rattle.gm_history.proofs.Caused.{note_law}
use Rattle.gm_history.proofs.StepsKeep.{step_keeps}
use Rattle.gm_notes.proofs.Numbers.{same_number}

some : (n : ℕ) → not (suc n == 0) ≡ false → ⊥
some n e = let more : (suc n == 0) ≡ false = grind (arith, nat_tests) in let bad : ⊥ = cc in bad

-- who had no listener has none after a closing
left_none : (c : ℕ) (kept : Bool) (slots : List ℕ) → (kept || not (length slots == 0)) ≡ false → (kept || not (length (filter (λ d. not (d == c)) slots) == 0)) ≡ false
left_none c true slots e = absurd cc
left_none c false [] e = refl
left_none c false (d ∷ slots) e = absurd (some (length slots) e)

module _ (k : Settings) (s : Step) (start : Past) (history : History k start.notes) where
  -- ---- endings

  abbrev EndedSo : ℕ → Type 0
  EndedSo n = (job_state n start.notes ≡ states.Ended) ⊎ Ends k start.notes s n

  ended_more : (note : Note) (older : List Note) → Caused k start.notes s note older → ((n : ℕ) → job_state n older ≡ states.Ended → EndedSo n) → (n : ℕ) → job_state n (note ∷ older) ≡ states.Ended → EndedSo n
  ended_more (notes.Made m f p u body) older cause before n e = from (moved n m states.Waiting (job_state n older) states.Ended (n == m) refl e) (λ h. absurd (let x = h.1 in cc)) (λ h. before n h.1)
  ended_more (notes.Returned m) older cause before n e = from (moved n m states.Waiting (job_state n older) states.Ended (n == m) refl e) (λ h. absurd (let x = h.1 in cc)) (λ h. before n h.1)
  ended_more (notes.Assigned m c late) older cause before n e = from (moved n m (states.Running c) (job_state n older) states.Ended (n == m) refl e) (λ h. absurd (let x = h.1 in cc)) (λ h. before n h.1)
  ended_more (notes.Lost m) older cause before n e = from (moved n m states.Lost (job_state n older) states.Ended (n == m) refl e) (λ h. absurd (let x = h.1 in cc)) (λ h. before n h.1)
  ended_more (notes.Discarded m) older cause before n e = from (moved n m states.Discarded (job_state n older) states.Ended (n == m) refl e) (λ h. absurd (let x = h.1 in cc)) (λ h. before n h.1)
  ended_more (notes.Ended m) older cause before n e = from (moved n m states.Ended (job_state n older) states.Ended (n == m) refl e) (λ h. inr (subst (λ x. Ends k start.notes s x) (sym h.0) cause)) (λ h. before n h.1)
  ended_more note older cause before n e = before n e

  pub ends : EndsWithItsWorker k start s (step k s start)
  ends = note_law k s start history (λ l. (n : ℕ) → job_state n l ≡ states.Ended → EndedSo n) (λ note older allowed cause h p. ended_more note older cause p) (λ n e. inl e)

  -- ---- grabs

  abbrev pub GivenSo : ℕ → ℕ → Type 0
  GivenSo n c = (job_state n start.notes ≡ states.Running c) ⊎ ((asks is_grab c s ≡ true) × Gets k c n start.notes)

  given_here : (n m c d : ℕ) → n ≡ m → states.Running d ≡ states.Running c → (asks is_grab d s ≡ true) × Gets k d m start.notes → GivenSo n c
  given_here n m c d same at cause =
      let there : d ≡ c = cc in
      inr (subst (λ x. (asks is_grab x s ≡ true) × Gets k x n start.notes) there (subst (λ x. (asks is_grab d s ≡ true) × Gets k d x start.notes) (sym same) cause))

  pub given_more : (note : Note) (older : List Note) → Caused k start.notes s note older → ((n c : ℕ) → job_state n older ≡ states.Running c → GivenSo n c) → (n c : ℕ) → job_state n (note ∷ older) ≡ states.Running c → GivenSo n c
  given_more (notes.Made m f p u body) older cause before n c e = from (moved n m states.Waiting (job_state n older) (states.Running c) (n == m) refl e) (λ h. absurd (let x = h.1 in cc)) (λ h. before n c h.1)
  given_more (notes.Returned m) older cause before n c e = from (moved n m states.Waiting (job_state n older) (states.Running c) (n == m) refl e) (λ h. absurd (let x = h.1 in cc)) (λ h. before n c h.1)
  given_more (notes.Assigned m d late) older cause before n c e = from (moved n m (states.Running d) (job_state n older) (states.Running c) (n == m) refl e) (λ h. given_here n m c d h.0 h.1 cause) (λ h. before n c h.1)
  given_more (notes.Lost m) older cause before n c e = from (moved n m states.Lost (job_state n older) (states.Running c) (n == m) refl e) (λ h. absurd (let x = h.1 in cc)) (λ h. before n c h.1)
  given_more (notes.Discarded m) older cause before n c e = from (moved n m states.Discarded (job_state n older) (states.Running c) (n == m) refl e) (λ h. absurd (let x = h.1 in cc)) (λ h. before n c h.1)
  given_more (notes.Ended m) older cause before n c e = from (moved n m states.Ended (job_state n older) (states.Running c) (n == m) refl e) (λ h. absurd (let x = h.1 in cc)) (λ h. before n c h.1)
  given_more note older cause before n c e = before n c e

  pub gives : GivesThePick k start s (step k s start)
  gives = note_law k s start history (λ l. (n c : ℕ) → job_state n l ≡ states.Running c → GivenSo n c) (λ note older allowed cause h p. given_more note older cause p) (λ n c e. inl e)

  -- ---- discarding

  abbrev ThrownSo : ℕ → List Note → Type 0
  ThrownSo n l = (job_state n start.notes ≡ states.Discarded) ⊎ ((is_close s ≡ true) × (is_wanted n l ≡ false))

  -- not in a closing
  elsewhere : (n : ℕ) (older newer : List Note) → (is_close s ≡ true → ⊥) → ThrownSo n older → ThrownSo n newer
  elsewhere n older newer other (inl e) = inl e
  elsewhere n older newer other (inr h) = absurd (other h.0)

  thrown_closed : (n c : ℕ) (older : List Note) → ThrownSo n older → ThrownSo n (notes.Closed c ∷ older)
  thrown_closed n c older (inl e) = inl e
  thrown_closed n c older (inr h) = inr (h.0, left_none c (is_kept n older) (listeners n older) h.1)

  thrown_more : (note : Note) (older : List Note) → Allowed k note older → Caused k start.notes s note older → ((n : ℕ) → job_state n older ≡ states.Discarded → ThrownSo n older) → (n : ℕ) → job_state n (note ∷ older) ≡ states.Discarded → ThrownSo n (note ∷ older)
  thrown_more (notes.Made m f p u body) older allowed cause before n e =
      from (moved n m states.Waiting (job_state n older) states.Discarded (n == m) refl e) (λ h. absurd (let x = h.1 in cc)) (λ h. elsewhere n older (notes.Made m f p u body ∷ older) (λ c. closing_asks cause.0 s cause.1 c cause.2) (before n h.1))
  thrown_more (notes.Kept m) older allowed cause before n e = elsewhere n older (notes.Kept m ∷ older) (λ c. closing_asks cause.0 s cause.1 c cause.2) (before n e)
  thrown_more (notes.Listens m d) older allowed cause before n e = elsewhere n older (notes.Listens m d ∷ older) (λ c. closing_asks d s cause.0 c cause.1) (before n e)
  thrown_more (notes.Closed c) older allowed cause before n e = thrown_closed n c older (before n e)
  thrown_more (notes.Returned m) older allowed cause before n e = from (moved n m states.Waiting (job_state n older) states.Discarded (n == m) refl e) (λ h. absurd (let x = h.1 in cc)) (λ h. before n h.1)
  thrown_more (notes.Lost m) older allowed cause before n e = from (moved n m states.Lost (job_state n older) states.Discarded (n == m) refl e) (λ h. absurd (let x = h.1 in cc)) (λ h. before n h.1)
  thrown_more (notes.Assigned m c late) older allowed cause before n e = from (moved n m (states.Running c) (job_state n older) states.Discarded (n == m) refl e) (λ h. absurd (let x = h.1 in cc)) (λ h. before n h.1)
  thrown_more (notes.Ended m) older allowed cause before n e = from (moved n m states.Ended (job_state n older) states.Discarded (n == m) refl e) (λ h. absurd (let x = h.1 in cc)) (λ h. before n h.1)
  thrown_more (notes.Discarded m) older allowed cause before n e =
      from (moved n m states.Discarded (job_state n older) states.Discarded (n == m) refl e) (λ h. inr (cause, subst (λ x. is_wanted x older ≡ false) (sym h.0) allowed.1)) (λ h. before n h.1)
  thrown_more note older allowed cause before n e = before n e

  pub discards : (n : ℕ) → job_state n (step k s start).notes ≡ states.Discarded → ThrownSo n (step k s start).notes
  discards = note_law k s start history (λ l. (n : ℕ) → job_state n l ≡ states.Discarded → ThrownSo n l) (λ note older allowed cause h p. thrown_more note older allowed cause p) (λ n e. inl e)

  -- ---- what is said

  pub says_no_job : SaysNoJobWhereNoneIs k start s (step k s start)
  says_no_job =
      (step_keeps {I = λ past. (newer : List Flow) × (past.flow ≡ newer ++ start.flow) × AllSaid k start.notes s newer} start s
      (record {
        by_note = λ note past inner allowed cause h p. p;
        by_opening = λ c addr past allowed cause h p. (Began c ∷ p.0, ap (λ l. Began c ∷ l) p.1, (tt, p.2));
        by_closing = λ c past opened cause h p. (Emptied c ∷ p.0, ap (λ l. Emptied c ∷ l) p.1, (tt, p.2));
        by_saying = λ c bytes past opened may h p. (Queued c bytes ∷ p.0, ap (λ l. Queued c bytes ∷ l) p.1, (may.0, p.2));
      })
      (λ c e h p. (Drained c ∷ p.0, ap (λ l. Drained c ∷ l) p.1, (tt, p.2)))
      (history, ([], refl, tt))).1

  pub stays_home : AnswersStayHome k start s (step k s start)
  stays_home =
      (step_keeps {I = λ past. (newer : List Flow) × (past.flow ≡ newer ++ start.flow) × AllMayGet k start.notes s newer} start s
      (record {
        by_note = λ note past inner allowed cause h p. p;
        by_opening = λ c addr past allowed cause h p. (Began c ∷ p.0, ap (λ l. Began c ∷ l) p.1, p.2);
        by_closing = λ c past opened cause h p. (Emptied c ∷ p.0, ap (λ l. Emptied c ∷ l) p.1, p.2);
        by_saying = λ c bytes past opened may h p. (Queued c bytes ∷ p.0, ap (λ l. Queued c bytes ∷ l) p.1, (may.2, p.2));
      })
      (λ c e h p. (Drained c ∷ p.0, ap (λ l. Drained c ∷ l) p.1, p.2))
      (history, ([], refl, tt))).1

-- ---- a grab gets its pick

pub assigned_notes : (k : Settings) (c : ℕ) (uniq : Bool) (n : ℕ) (o : Option Job) (past : Past) → (tell_assigned k c uniq n o past).notes ≡ past.notes
assigned_notes k c uniq n None past = refl
assigned_notes k c uniq n (Some job) past = refl

pub pick_runs : (k : Settings) (c : ℕ) (uniq : Bool) (o : Option Pick) (found : Pick) (past : Past) → o ≡ Some found → job_state found.job (give_out k c uniq o past).notes ≡ states.Running c
pick_runs k c uniq None found past is = absurd cc
pick_runs k c uniq (Some other) found past is =
    let same = same_Some other found is in
    let n = other.job in
    let runs : job_state n (notes.Assigned n c (deadline_after (moment past.notes) other.timeout) ∷ past.notes) ≡ states.Running c = rw (same_number n) refl in
    subst (λ (p : Pick). job_state p.job (give_out k c uniq (Some other) past).notes ≡ states.Running c) same
    (subst (λ l. job_state n l ≡ states.Running c) (sym (assigned_notes k c uniq n (job n past.notes) (with_note (notes.Assigned n c (deadline_after (moment past.notes) other.timeout)) past))) runs)

grabbed : (k : Settings) (c : ℕ) (o : Option Kind) (found : Pick) (start : Past) → is_one_of is_grab o ≡ true → pick k c start.notes ≡ Some found → job_state found.job (packet_of k c o [] start).notes ≡ states.Running c
grabbed k c None found start e is = absurd cc
grabbed k c (Some GrabJob) found start e is = pick_runs k c false (pick k c start.notes) found (wake_itself c start) is
grabbed k c (Some GrabJobUniq) found start e is = pick_runs k c true (pick k c start.notes) found (wake_itself c start) is
grabbed k c (Some kind) found start e is = absurd cc

pub taken_is : (t : Bool) (after before : Past) → t ≡ true → unless (unless_not_open t) after before ≡ after
taken_is true after before e = refl
taken_is false after before e = absurd cc

pub grabs : GrabsGetThePick
grabs k steps c number found e takes is =
    let start = run k steps in
    ap (λ (past : Past). job_state found.job past.notes) (taken_is (takes_units c start.notes) (packet_of k c (kind_of number) [] start) start takes)
    ∙ grabbed k c (kind_of number) found start e is
