-- When a job ends, each slot is told as often as it listens.
use Rattle.std.proofs.Common.{◌≡◌, ◌⊎◌, inl, inr, ℕ, ◌+◌, ◌<◌, ◌^◌, Bool, true, false, cond, ◌&&◌, List, [], ◌∷◌, ◌++◌, length, filter, replicate}
use Rattle.std.proofs.Common.{Some, None, refl, sym, ap, subst, ◌∙◌, arith, max, append_assoc}
use Rattle.std.specs.Prelude.{◌==◌, unwrap_or}
use Rattle.std.proofs.lemmas.Bool.{and_parts}
use Rattle.std.proofs.lemmas.List.{append-nil}
use Rattle.gm_packet.specs.Kinds.{kind_of}
use Rattle.gm_packet.specs.Answers.{Answer, answer_packet, work_fail}
use Rattle.gm_notes.specs.declared.note.Note.TheVariants.{Ended, Now}
use Rattle.gm_notes.specs.Settings.{Settings}
use Rattle.gm_notes.specs.Notes.{moment, takes_units}
use Rattle.gm_notes.specs.Jobs.{job_state, deadline, listeners, handle}
use Rattle.gm_notes.specs.JobStates.{JobState, is_running}
use Rattle.gm_notes.specs.JobStates as states
use Rattle.gm_notes.specs.Past.{Past, with_note, tell_all}
use Rattle.gm_notes.specs.Closings.{rising, is_reached, expire_one, expire_each, tick}
use Rattle.gm_notes.specs.Requests.{packet_of}
use Rattle.gm_notes.specs.Steps.{Step, Packet, Tick, unless, unless_not_open, run, step}
use Rattle.gm_history.specs.History.{History}
use Rattle.gm_history.specs.Causes.{Ends, is_ending}
use Rattle.gm_laws.specs.Listeners.{outputs, Queues, copies, heard, TellsEnd, EachListenerIsTold}
use Rattle.gm_notes.specs.Workers.{wants_exceptions}
use Rattle.gm_history.specs.Hearing.{listens}
use Rattle.gm_laws.proofs.JobLaws.{has_place, running_place}
use Rattle.gm_history.proofs.Keeping.{tell_all_notes}
use Rattle.gm_laws.proofs.Moving.{from, both_not}
use Rattle.gm_laws.proofs.Handles.{same_handle, fail_handle, placed_small}
use Rattle.gm_laws.proofs.Outputs.{told, copies_append, copies_same, copies_other}
use Rattle.gm_history.proofs.Asking.{asked_kind}
use Rattle.gm_laws.proofs.Passing.{end_reported, passed}
use Rattle.gm_laws.proofs.StepLaws.{ends}
use Rattle.gm_history.proofs.StepsKeep.{run_history}
use Rattle.gm_notes.proofs.Numbers.{same_number}
use Rattle.std.proofs.lemmas.Bool.{eqb-true}

-- ---- by a packet

module _ (k : Settings) (start : Past) (history : History k start.notes) (n : ℕ) where
  -- the job ends in this step, and was not ended before
  abbrev ToldOf : Step → Type 0
  ToldOf s =
      (c : ℕ) → (answer : Answer) × TellsEnd k start.notes c n s answer
      × ((newer : List (List ℕ)) × Queues c newer start (step k s start) × (copies (answer_packet answer) newer ≡ listens c n start.notes))

  told_by_packet : (worker number : ℕ) (bytes : List ℕ) → takes_units worker start.notes ≡ true → Ends k start.notes (Packet worker number bytes) n → ToldOf (Packet worker number bytes)
  told_by_packet worker number bytes takes e c =
      let names = e.2 in
      let asked = names.0 in
      let may : is_ending k asked.kind ≡ true = sym (asked_kind bytes asked (is_ending k) (kind_of number) names.1) ∙ e.0 in
      let report = end_reported k n true asked.kind asked.arguments may in
      let says = end_reported k n (wants_exceptions c start.notes) asked.kind asked.arguments may in (
        says.0,
        (asked, names.1, may, says.1),
        (
          replicate (listens c n start.notes) (answer_packet says.0),
          passed k start history worker n number bytes asked report.0 takes e.1 names.1 names.2 report.1 c ∙ ap (λ o. outputs c start.flow ++ heard o (listens c n start.notes)) says.1,
          copies_same (answer_packet says.0) (listens c n start.notes),
        ),
      )

-- ---- by a tick

abbrev is_ended : JobState → Bool
is_ended states.Ended = true
is_ended other = false

running_not : (s : JobState) → is_running s ≡ true → is_ended s ≡ false
running_not (states.Running c) e = refl
running_not states.Lost e = refl
running_not states.Unmade e = absurd cc
running_not states.Waiting e = absurd cc
running_not states.Ended e = absurd cc
running_not states.Discarded e = absurd cc

-- so far in a tick after start, slot c is told of the end of job n if it has come
record Sofar (k : Settings) (start past : Past) (c n : ℕ) : Type 0 where
  newer : List (List ℕ)
  queued : Queues c newer start past
  heard : listeners n past.notes ≡ listeners n start.notes
  counted : copies (answer_packet (work_fail (handle k n))) newer ≡ cond (is_ended (job_state n past.notes)) (listens c n start.notes) 0
  small : (m : ℕ) → is_running (job_state m past.notes) ≡ true → m < 2 ^ 64

module _ (k : Settings) (start : Past) (c n : ℕ) (lt : n < 2 ^ 64) where
  abbrev fails : ℕ → List ℕ
  fails m = answer_packet (work_fail (handle k m))

  other_fails : (m : ℕ) → m < 2 ^ 64 → (n == m) ≡ false → fails n ≡ fails m → ⊥
  other_fails m small other e =
      let same : n ≡ m = same_handle k n m lt small (fail_handle (handle k n) (handle k m) e) in
      both_not (n == m) (subst (λ x. (n == x) ≡ true) same (same_number n)) other

  plus_none : (x : ℕ) → x + 0 ≡ x
  plus_none x = omega arith

  none_plus : (x y : ℕ) → x ≡ 0 → x + y ≡ y
  none_plus x y none = omega arith

  -- job m fails: slot c is told as often as it listens
  module _ (m : ℕ) (past : Past) (s : Sofar k start past c n) (runs : is_running (job_state m past.notes) ≡ true) where
    abbrev many : ℕ
    many = listens c m past.notes

    abbrev all : Past
    all = tell_all (work_fail (handle k m)) (listeners m past.notes) past

    same_notes : all.notes ≡ past.notes
    same_notes = tell_all_notes (work_fail (handle k m)) (listeners m past.notes) past

    counts_at : (t : Bool) → (n == m) ≡ t → copies (fails n) (s.newer ++ replicate many (fails m)) ≡ cond (is_ended (unwrap_or (cond t (Some states.Ended) None) (job_state n past.notes))) (listens c n start.notes) 0
    counts_at true is =
        let same : n ≡ m = eqb-true n m is in
        let none : copies (fails n) s.newer ≡ 0 =
        s.counted ∙ ap (λ b. cond b (listens c n start.notes) 0) (running_not (job_state n past.notes) (subst (λ x. is_running (job_state x past.notes) ≡ true) (sym same) runs)) in
        copies_append (fails n) s.newer (replicate many (fails m))
        ∙ (none_plus (copies (fails n) s.newer) (copies (fails n) (replicate many (fails m))) none
        ∙ (subst (λ x. copies (fails n) (replicate (listens c x past.notes) (fails x)) ≡ listens c n past.notes) same (copies_same (fails n) (listens c n past.notes))
        ∙ ap (λ l. length (filter (λ d. c == d) l)) s.heard))
    counts_at false is =
        copies_append (fails n) s.newer (replicate many (fails m))
        ∙ (ap (λ x. copies (fails n) s.newer + x) (copies_other (fails n) (fails m) many (other_fails m (s.small m runs) is)) ∙ (plus_none (copies (fails n) s.newer) ∙ s.counted))

    small_after : (j : ℕ) → is_running (job_state j (Ended m ∷ past.notes)) ≡ true → j < 2 ^ 64
    small_after j e = by (j == m) e
      where
        by : (t : Bool) → is_running (unwrap_or (cond t (Some states.Ended) None) (job_state j past.notes)) ≡ true → j < 2 ^ 64
        by true r = absurd cc
        by false r = s.small j r

    failed : Sofar k start (with_note (Ended m) all) c n
    failed = record {
      newer = s.newer ++ replicate many (fails m);
      queued = told c (work_fail (handle k m)) (listeners m past.notes) past
          ∙ (ap (λ l. l ++ replicate many (fails m)) s.queued ∙ append_assoc (outputs c start.flow) s.newer (replicate many (fails m)));
      heard = ap (listeners n) same_notes ∙ s.heard;
      counted = counts_at (n == m) refl ∙ ap (λ l. cond (is_ended (job_state n (Ended m ∷ l))) (listens c n start.notes) 0) (sym same_notes);
      small = λ j e. small_after j (subst (λ l. is_running (job_state j (Ended m ∷ l)) ≡ true) same_notes e);
    }

  expired : (m : ℕ) (past : Past) → Sofar k start past c n → Sofar k start (expire_one k m past) c n
  expired m past s = by (is_running (job_state m past.notes) && is_reached (deadline m past.notes) (moment past.notes)) refl
    where
      by : (t : Bool) → (is_running (job_state m past.notes) && is_reached (deadline m past.notes) (moment past.notes)) ≡ t
          → Sofar k start (cond t (with_note (Ended m) (tell_all (work_fail (handle k m)) (listeners m past.notes) past)) past) c n
      by true is = failed m past s (and_parts (is_running (job_state m past.notes)) (is_reached (deadline m past.notes) (moment past.notes)) is).0
      by false is = s

  all_expired : (jobs : List ℕ) (past : Past) → Sofar k start past c n → Sofar k start (expire_each k jobs past) c n
  all_expired [] past s = s
  all_expired (m ∷ jobs) past s = all_expired jobs (expire_one k m past) (expired m past s)

  told_by_tick : (now : ℕ) → History k start.notes → is_ended (job_state n start.notes) ≡ false → Sofar k start (tick k now start) c n
  told_by_tick now history yet =
      all_expired (rising start) (with_note (Now (max now (moment start.notes))) start)
      (record {
        newer = [];
        queued = sym (append-nil (outputs c start.flow));
        heard = refl;
        counted = ap (λ b. cond b (listens c n start.notes) 0) (sym yet);
        small = λ m e. placed_small k start.notes m history (running_place (job_state m start.notes) e);
      })

-- ---- steps

ended_is : (s : JobState) (t : Bool) → is_ended s ≡ t → (s ≡ states.Ended) ⊎ (is_ended s ≡ false)
ended_is states.Ended t e = inl refl
ended_is s t e = inr refl

pub all_told : (k : Settings) (s : Step) (steps : List Step) → EachListenerIsTold k (run k steps) s (run k (s ∷ steps))
all_told k s steps n e = from (ends k s start history n e) inl (λ h. by s e h)
  where
    start : Past
    start = run k steps

    history : History k start.notes
    history = run_history k steps

    by_packet : (worker number : ℕ) (bytes : List ℕ) (t : Bool) → takes_units worker start.notes ≡ t
        → job_state n (unless (unless_not_open t) (packet_of k worker (kind_of number) bytes start) start).notes ≡ states.Ended → Ends k start.notes (Packet worker number bytes) n
        → (job_state n start.notes ≡ states.Ended) ⊎ ToldOf k start history n (Packet worker number bytes)
    by_packet worker number bytes true takes e h = inr (told_by_packet k start history n worker number bytes takes h)
    by_packet worker number bytes false takes e h = inl e

    by : (s : Step) → job_state n (step k s start).notes ≡ states.Ended → Ends k start.notes s n → (job_state n start.notes ≡ states.Ended) ⊎ ToldOf k start history n s
    by (Packet worker number bytes) e h = by_packet worker number bytes (takes_units worker start.notes) refl e h
    by (Tick now) e h =
        from (ended_is (job_state n start.notes) _ refl) inl
        (λ yet. inr (λ c. (
          work_fail (handle k n),
          refl,
          let sofar = told_by_tick k start c n (placed_small k (run k (Tick now ∷ steps)).notes n (run_history k (Tick now ∷ steps)) (ap has_place e)) now history yet in
              (sofar.newer, sofar.queued, sofar.counted ∙ ap (λ b. cond b (listens c n start.notes) 0) (ap is_ended e)),
        )))
    by other e h = absurd h
