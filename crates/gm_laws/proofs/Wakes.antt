-- Whoever is woken has work.
use Rattle.std.proofs.Common.{◌≡◌, ◌⊎◌, inl, inr, ℕ, Bool, true, false, cond, not, ◌&&◌, ◌||◌, List, [], ◌∷◌, Option, Some, None}
use Rattle.std.proofs.Common.{refl, sym, ap, subst, ◌∙◌}
use Rattle.std.specs.Prelude.{◌==◌, unwrap_or}
use Rattle.std.specs.List.{list_any}
use Rattle.std.specs.Str.{bytes_eq}
use Rattle.std.proofs.lemmas.Bool.{and_parts, or_left, or_right}
use Rattle.std.proofs.lemmas.Slice.Eq.{bytes_eq-Decides}
use Rattle.gm_packet.specs.declared.kind.Kind.{Kind}
use Rattle.gm_packet.specs.declared.kind.Kind.TheVariants.{GrabJob, GrabJobUniq, WorkComplete, WorkFail, WorkException}
use Rattle.gm_notes.specs.declared.states.Phase.{Phase}
use Rattle.gm_notes.specs.declared.states.Phase.TheVariants.{Awake, Asleep, Owed}
use Rattle.gm_notes.specs.declared.note.Note.{Note}
use Rattle.gm_notes.specs.declared.note.Note.TheVariants as notes
use Rattle.gm_notes.specs.Settings.{Settings}
use Rattle.gm_notes.specs.Notes.{is_open, phase, is_asleep, is_owed, slots_from}
use Rattle.gm_notes.specs.Jobs.{Job, Ability, job_state, job, is_able, is_of, put, abilities, is_wanted, is_last_try}
use Rattle.gm_notes.specs.JobStates.{JobState, is_waiting, is_running_at}
use Rattle.gm_notes.specs.JobStates as states
use Rattle.gm_notes.specs.Past.{Past, with_note, wake_one, wake_each}
use Rattle.gm_notes.specs.Workers.{wake_itself}
use Rattle.gm_notes.specs.Closings.{discard_one, discard_each, wake_for, return_or_lose, give_back_one, give_back_each, disconnect, rising, close}
use Rattle.gm_notes.specs.Steps.{Step, Packet, Close, refusal, step, run}
use Rattle.gm_history.specs.History.{HasWork, runs_at_a_slot, Allowed, History}
use Rattle.gm_history.specs.Causes.{Caused, Ends, is_request, asks, is_submission, is_enabling, is_sleeping, is_grab, is_ending, is_close}
use Rattle.gm_laws.specs.Waiting.{WakesHaveWork}
use Rattle.gm_history.proofs.Asking.{request_is, asks_some, more_requests, apart_requests}
use Rattle.gm_history.proofs.Finding.{IsWork, work_for}
use Rattle.gm_laws.proofs.JobLaws.{unmade}
use Rattle.gm_history.proofs.Keeping.{kept_if, runs_somewhere}
use Rattle.gm_laws.proofs.Moving.{from, both_not, closes_not}
use Rattle.gm_history.proofs.Phases.{awake_unless_open}
use Rattle.gm_laws.proofs.Sleepers.{is_stirring}
use Rattle.gm_history.proofs.StepsKeep.{taken_or_not, run_history}
use Rattle.gm_history.proofs.Caused.{note_law}
use Rattle.gm_notes.proofs.Numbers.{same_number}
use Rattle.std.proofs.lemmas.Bool.{eqb-true}

-- ---- what leaves work

-- a job that waits still does once another is moved
still_waits : (n m : ℕ) (new old : JobState) → (n ≡ m → new ≡ states.Waiting) → old ≡ states.Waiting → unwrap_or (cond (n == m) (Some new) None) old ≡ states.Waiting
still_waits n m new old here e = by (n == m) refl
  where
    by : (t : Bool) → (n == m) ≡ t → unwrap_or (cond t (Some new) None) old ≡ states.Waiting
    by true is = here (eqb-true n m is)
    by false is = e

-- the job that is moved waits, or didn't wait
leaves_work : (c m : ℕ) (new : JobState) (note : Note) (older : List Note) → ((n : ℕ) → job_state n (note ∷ older) ≡ unwrap_or (cond (n == m) (Some new) None) (job_state n older)) → ((n : ℕ) → job n (note ∷ older) ≡ job n older)
    → ((f : List ℕ) → is_able c f (note ∷ older) ≡ is_able c f older) → (job_state m older ≡ states.Waiting → new ≡ states.Waiting) → HasWork c older → HasWork c (note ∷ older)
leaves_work c m new note older states_are jobs_are able_is here w =
    (w.0, w.1, states_are w.0 ∙ still_waits w.0 m new (job_state w.0 older) (λ same. here (subst (λ x. job_state x older ≡ states.Waiting) same w.2)) w.2, jobs_are w.0 ∙ w.3, able_is w.1.function ∙ w.4)

not_waiting : (c : ℕ) (state new : JobState) → runs_at_a_slot state ≡ true → state ≡ states.Waiting → new ≡ states.Waiting
not_waiting c state new runs waits = absurd (let bad : runs_at_a_slot states.Waiting ≡ true = subst (λ x. runs_at_a_slot x ≡ true) waits runs in cc)

made_work : (k : Settings) (c m : ℕ) (f : List ℕ) (p : _) (u body : List ℕ) (older : List Note) → Allowed k (notes.Made m f p u body) older → History k older → HasWork c older → HasWork c (notes.Made m f p u body ∷ older)
made_work k c m f p u body older allowed h w = by (w.0 == m) refl
  where
    new : Job
    new = record { function = f; priority = p; unique = u; body = body }

    by : (t : Bool) → (w.0 == m) ≡ t → HasWork c (notes.Made m f p u body ∷ older)
    by true is =
        let none : job_state w.0 older ≡ states.Unmade = ap (λ x. job_state x older) (eqb-true w.0 m is) ∙ unmade k m older h allowed.0 in
        absurd (let bad : states.Waiting ≡ states.Unmade = sym w.2 ∙ none in cc)
    by false is = (
      w.0,
      w.1,
      ap (λ t. unwrap_or (cond t (Some states.Waiting) None) (job_state w.0 older)) is ∙ w.2,
      ap (λ t. unwrap_or (cond t (Some (Some new)) None) (job w.0 older)) is ∙ w.3,
      w.4,
    )

-- who could do a function still can once one more is put in
still_able : (f g : List ℕ) (t : ℕ) (all : List Ability) → list_any (is_of g) all ≡ true → list_any (is_of g) (put f t all) ≡ true
still_able f g t [] e = absurd cc
still_able f g t (ability ∷ all) e = by (is_of f ability) (is_of g ability) refl refl e (still_able f g t all)
  where
    by : (u v : Bool) → is_of f ability ≡ u → is_of g ability ≡ v → (v || list_any (is_of g) all) ≡ true → (list_any (is_of g) all ≡ true → list_any (is_of g) (put f t all) ≡ true)
        → list_any (is_of g) (cond u (record { function = f; timeout = t } ∷ all) (ability ∷ put f t all)) ≡ true
    by true true is was e rest =
        or_left (bytes_eq f g) (list_any (is_of g) all) ((bytes_eq-Decides f g).1 (sym ((bytes_eq-Decides ability.function f).0 is) ∙ (bytes_eq-Decides ability.function g).0 was))
    by true false is was e rest = or_right (bytes_eq f g) (list_any (is_of g) all) e
    by false true is was e rest = or_left (is_of g ability) (list_any (is_of g) (put f t all)) was
    by false false is was e rest = or_right (is_of g ability) (list_any (is_of g) (put f t all)) (rest e)

can_work : (c d : ℕ) (f : List ℕ) (t : ℕ) (older : List Note) → HasWork c older → HasWork c (notes.Can d f t ∷ older)
can_work c d f t older w = (w.0, w.1, w.2, w.3, by (c == d))
  where
    by : (u : Bool) → list_any (is_of w.1.function) (cond u (put f t (abilities c older)) (abilities c older)) ≡ true
    by true = still_able f w.1.function t (abilities c older) w.4
    by false = w.4

-- ---- what makes a NOOP owed

owed_before : (new old : Phase) (t : Bool) → is_owed new ≡ false → unwrap_or (cond t (Some new) None) old ≡ Owed → old ≡ Owed
owed_before new old true other e = absurd (let bad : is_owed Owed ≡ false = subst (λ p. is_owed p ≡ false) e other in cc)
owed_before new old false other e = e

-- ---- all steps but a closing

grab_apart : (kind : Kind) → is_grab kind ≡ true → is_stirring kind ≡ false
grab_apart GrabJob e = refl
grab_apart GrabJobUniq e = refl
grab_apart kind e = absurd cc

end_apart : (k : Settings) (kind : Kind) → is_ending k kind ≡ true → is_stirring kind ≡ false
end_apart k WorkComplete e = refl
end_apart k WorkFail e = refl
end_apart k WorkException e = refl
end_apart k kind e = absurd cc

module _ (k : Settings) (s : Step) (start : Past) (history : History k start.notes) (c : ℕ) where
  -- who is owed a NOOP was, or the step may wake and there is work
  abbrev WokenSo : List Note → Type 0
  WokenSo l = phase c l ≡ Owed → (phase c start.notes ≡ Owed) ⊎ ((is_request is_stirring s ≡ true) × HasWork c l)

  -- what leaves the work that there is
  after_it : (note : Note) (older : List Note) → (phase c (note ∷ older) ≡ Owed → phase c older ≡ Owed) → (HasWork c older → HasWork c (note ∷ older)) → WokenSo older → WokenSo (note ∷ older)
  after_it note older owed leaves p e = from (p (owed e)) inl (λ w. inr (w.0, leaves w.1))

  -- what no step adds that may wake
  never_then : (note : Note) (older : List Note) → (phase c (note ∷ older) ≡ Owed → phase c older ≡ Owed) → is_request is_stirring s ≡ false → WokenSo older → WokenSo (note ∷ older)
  never_then note older owed apart p e = from (p (owed e)) inl (λ w. absurd (both_not (is_request is_stirring s) w.0 apart))

  stirs : (d : ℕ) → is_close s ≡ false → (is_request is_submission s || asks is_enabling d s || asks is_sleeping d s || is_close s) ≡ true → is_request is_stirring s ≡ true
  stirs d other e = by (is_request is_submission s) (asks is_enabling d s) (asks is_sleeping d s) refl refl refl (ap (λ t. is_request is_submission s || asks is_enabling d s || asks is_sleeping d s || t) (sym other) ∙ e)
    where
      by : (a b f : Bool) → is_request is_submission s ≡ a → asks is_enabling d s ≡ b → asks is_sleeping d s ≡ f → (a || b || f || false) ≡ true → is_request is_stirring s ≡ true
      by true b f is en sl e =
          more_requests is_submission is_stirring (λ kind h. or_left (is_submission kind || is_enabling kind) (is_sleeping kind) (or_left (is_submission kind) (is_enabling kind) h)) s is
      by false true f is en sl e =
          more_requests is_enabling is_stirring (λ kind h. or_left (is_submission kind || is_enabling kind) (is_sleeping kind) (or_right (is_submission kind) (is_enabling kind) h)) s (asks_some is_enabling d s en)
      by false false true is en sl e = more_requests is_sleeping is_stirring (λ kind h. or_right (is_submission kind || is_enabling kind) (is_sleeping kind) h) s (asks_some is_sleeping d s sl)
      by false false false is en sl e = absurd cc

  ends_apart : (n : ℕ) → Ends k start.notes s n → is_request is_stirring s ≡ false
  ends_apart n e = by s e
    where
      by : (s : Step) → Ends k start.notes s n → is_request is_stirring s ≡ false
      by (Packet d number bytes) e = apart_requests (is_ending k) is_stirring (end_apart k) (Packet d number bytes) e.0
      by other e = refl

  woken_more : is_close s ≡ false → (note : Note) (older : List Note) → Allowed k note older → Caused k start.notes s note older → History k older → WokenSo older → WokenSo (note ∷ older)
  woken_more other (notes.Opened d addr) older allowed cause h p = never_then (notes.Opened d addr) older (owed_before Awake (phase c older) (c == d) refl) (ap (is_request is_stirring) cause) p
  woken_more other (notes.Closed d) older allowed cause h p = absurd (closes_not s d other cause)
  woken_more other (notes.Slept d) older allowed cause h p = after_it (notes.Slept d) older (owed_before Asleep (phase c older) (c == d) refl) (λ w. w) p
  woken_more other (notes.Stirred d) older allowed cause h p = after_it (notes.Stirred d) older (owed_before Awake (phase c older) (c == d) refl) (λ w. w) p
  woken_more other (notes.Took d) older allowed cause h p = after_it (notes.Took d) older (owed_before Awake (phase c older) (c == d) refl) (λ w. w) p
  woken_more other (notes.Withdrew d) older allowed cause h p = after_it (notes.Withdrew d) older (owed_before Awake (phase c older) (c == d) refl) (λ w. w) p
  woken_more other (notes.Woken d) older allowed cause h p = by (c == d) refl
    where
      by : (t : Bool) → (c == d) ≡ t → unwrap_or (cond t (Some Owed) None) (phase c older) ≡ Owed → (phase c start.notes ≡ Owed) ⊎ ((is_request is_stirring s ≡ true) × HasWork c older)
      by true is e = inr (stirs d other cause, subst (λ x. HasWork x older) (sym (eqb-true c d is)) allowed.2)
      by false is e = p e
  woken_more other (notes.Made m f pr u body) older allowed cause h p = after_it (notes.Made m f pr u body) older (λ e. e) (made_work k c m f pr u body older allowed h) p
  woken_more other (notes.Can d f t) older allowed cause h p = after_it (notes.Can d f t) older (λ e. e) (can_work c d f t older) p
  woken_more other (notes.Cant d f) older allowed cause h p = never_then (notes.Cant d f) older (λ e. e) (request_is is_stirring d s cause.0 cause.1 ∙ ap is_stirring cause.2) p
  woken_more other (notes.Reset d) older allowed cause h p = never_then (notes.Reset d) older (λ e. e) (request_is is_stirring d s cause.0 cause.1 ∙ ap is_stirring cause.2) p
  woken_more other (notes.Assigned m d late) older allowed cause h p =
      never_then (notes.Assigned m d late) older (λ e. e) (apart_requests is_grab is_stirring grab_apart s (asks_some is_grab d s cause.0)) p
  woken_more other (notes.Ended m) older allowed cause h p = never_then (notes.Ended m) older (λ e. e) (ends_apart m cause) p
  woken_more other (notes.Returned m) older allowed cause h p = absurd (closes_not s cause.0 other cause.1)
  woken_more other (notes.Lost m) older allowed cause h p = absurd (closes_not s cause.0 other cause.1)
  woken_more other (notes.Discarded m) older allowed cause h p = absurd (both_not (is_close s) cause other)
  woken_more other note older allowed cause h p = p

  -- a step that isn't a closing
  woken_so : is_close s ≡ false → WokenSo (step k s start).notes
  woken_so other = note_law k s start history WokenSo (λ note older allowed cause h p. woken_more other note older allowed cause h p) (λ e. inl e)

-- ---- a closing

module _ (k : Settings) (c d : ℕ) (start : Past) where
  -- who is owed a NOOP was, or has work
  abbrev Owes : List Note → Type 0
  Owes l = phase c l ≡ Owed → (phase c start.notes ≡ Owed) ⊎ HasWork c l

  wakes_each : (f : List ℕ) (slots : List ℕ) (past : Past) → IsWork f past.notes → Owes past.notes → Owes (wake_each f slots past).notes
  wakes_each f [] past work p = p
  wakes_each f (e ∷ slots) past work p =
      let t = is_open e past.notes && is_asleep (phase e past.notes) && is_able e f past.notes in
      wakes_each f slots (wake_one f e past) (kept_if (IsWork f) t (with_note (notes.Woken e) past) past work work) (by t refl)
    where
      here : (is_open e past.notes && is_asleep (phase e past.notes) && is_able e f past.notes) ≡ true → (u : Bool) → (c == e) ≡ u → unwrap_or (cond u (Some Owed) None) (phase c past.notes) ≡ Owed → (phase c start.notes ≡ Owed) ⊎ HasWork c past.notes
      here is true same o = inr (subst (λ x. HasWork x past.notes) (sym (eqb-true c e same)) (work_for e f past.notes work (and_parts (is_open e past.notes && is_asleep (phase e past.notes)) (is_able e f past.notes) is).1))
      here is false same o = p o

      by : (t : Bool) → (is_open e past.notes && is_asleep (phase e past.notes) && is_able e f past.notes) ≡ t → Owes (cond t (with_note (notes.Woken e) past) past).notes
      by true is o = here is (c == e) refl o
      by false is o = p o

  wakes_for : (o : Option Job) (n : ℕ) (past : Past) → job n past.notes ≡ o → job_state n past.notes ≡ states.Waiting → Owes past.notes → Owes (wake_for k o past).notes
  wakes_for None n past is waits p = p
  wakes_for (Some what) n past is waits p = wakes_each what.function (slots_from 0 k.slots) past (n, what, waits, is, refl) p

  returns_or_loses : (n : ℕ) (past : Past) → runs_at_a_slot (job_state n past.notes) ≡ true → Owes past.notes → Owes (return_or_lose k n past).notes
  returns_or_loses n past runs p = by (is_last_try k n past.notes)
    where
      waits : job_state n (notes.Returned n ∷ past.notes) ≡ states.Waiting
      waits = rw (same_number n) refl

      by : (t : Bool) → Owes (cond t (with_note (notes.Lost n) past) (wake_for k (job n past.notes) (with_note (notes.Returned n) past))).notes
      by true = λ o. from (p o) inl (λ w. inr (leaves_work c n states.Lost (notes.Lost n) past.notes (λ m. refl) (λ m. refl) (λ f. refl) (not_waiting c (job_state n past.notes) states.Lost runs) w))
      by false =
          wakes_for (job n past.notes) n (with_note (notes.Returned n) past) refl waits
          (λ o. from (p o) inl (λ w. inr (leaves_work c n states.Waiting (notes.Returned n) past.notes (λ m. refl) (λ m. refl) (λ f. refl) (λ e. refl) w)))

  gives_back_one : (n : ℕ) (past : Past) → Owes past.notes → Owes (give_back_one k d n past).notes
  gives_back_one n past p = by (is_running_at d (job_state n past.notes)) (is_wanted n past.notes) refl
    where
      by : (t w : Bool) → is_running_at d (job_state n past.notes) ≡ t → Owes (cond t (cond w (return_or_lose k n past) (with_note (notes.Discarded n) past)) past).notes
      by true true is = returns_or_loses n past (runs_somewhere d (job_state n past.notes) is) p
      by true false is = λ o. from (p o) inl
          (λ w. inr (leaves_work c n states.Discarded (notes.Discarded n) past.notes (λ m. refl) (λ m. refl) (λ f. refl) (not_waiting c (job_state n past.notes) states.Discarded (runs_somewhere d (job_state n past.notes) is)) w))
      by false w is = p

  gives_back_each : (jobs : List ℕ) (past : Past) → Owes past.notes → Owes (give_back_each k d jobs past).notes
  gives_back_each [] past p = p
  gives_back_each (n ∷ jobs) past p = gives_back_each jobs (give_back_one k d n past) (gives_back_one n past p)

  discards_each : (jobs : List ℕ) (past : Past) → (phase c past.notes ≡ Owed → phase c start.notes ≡ Owed) → phase c (discard_each jobs past).notes ≡ Owed → phase c start.notes ≡ Owed
  discards_each [] past p = p
  discards_each (n ∷ jobs) past p =
      discards_each jobs (discard_one n past)
      (kept_if (λ l. phase c l ≡ Owed → phase c start.notes ≡ Owed) (is_waiting (job_state n past.notes) && not (is_wanted n past.notes)) (with_note (notes.Discarded n) past) past p p)

  closing_owes : Owes (close k d start).notes
  closing_owes =
      gives_back_each (rising start) (discard_each (rising start) (disconnect d start))
      (λ o. inl (discards_each (rising start) (disconnect d start)
      (λ e. kept_if (λ l. phase c l ≡ Owed → phase c start.notes ≡ Owed) (is_asleep (phase d start.notes)) (with_note (notes.Stirred d) start) start
      (owed_before Awake (phase c start.notes) (c == d) refl) (λ x. x) (owed_before Awake (phase c (wake_itself d start).notes) (c == d) refl e)) o))

-- ---- steps

step_owes : (k : Settings) (s : Step) (start : Past) → History k start.notes → (c : ℕ) → phase c (step k s start).notes ≡ Owed → (phase c start.notes ≡ Owed) ⊎ HasWork c (step k s start).notes
step_owes k (Close d) start h c = taken_or_not (λ past. Owes k c d start past.notes) (refusal k (Close d) start) (close k d start) start (λ taken. closing_owes k c d start) (λ o. inl o)
step_owes k s start h c = λ o. from (woken_so k s start h c refl o) inl (λ w. inr w.1)

owed_is : (p : Phase) → is_owed p ≡ true → p ≡ Owed
owed_is Owed e = refl
owed_is Awake e = absurd cc
owed_is Asleep e = absurd cc

pub wakes : (k : Settings) (steps : List Step) (s : Step) → WakesHaveWork k (run k steps) s (run k (s ∷ steps))
wakes k steps s c none owed =
    let start = run k steps in
    from (step_owes k s start (run_history k steps) c (owed_is (phase c (run k (s ∷ steps)).notes) (and_parts (is_open c (run k (s ∷ steps)).notes) (is_owed (phase c (run k (s ∷ steps)).notes)) owed).1))
    (λ was. absurd (by (is_open c start.notes) refl was none))
    (λ w. w)
  where
    by : (t : Bool) → is_open c (run k steps).notes ≡ t → phase c (run k steps).notes ≡ Owed → (t && is_owed (phase c (run k steps).notes)) ≡ false → ⊥
    by true is was e = both_not (is_owed (phase c (run k steps).notes)) (ap is_owed was) e
    by false is was e = let bad : Awake ≡ Owed = sym (awake_unless_open k c (run k steps).notes (run_history k steps) is) ∙ was in let worse : ⊥ = cc in worse
