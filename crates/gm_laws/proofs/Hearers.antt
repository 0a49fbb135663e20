-- Which slots get exceptions; ticks; and the answer to `shutdown`.
use Rattle.std.proofs.Common.{◌≡◌, ◌⊎◌, inl, inr, ℕ, Bool, true, false, cond, not, ◌&&◌, List, [], ◌∷◌, Some, None, max, refl, sym, ap, subst, ◌∙◌}
use Rattle.std.specs.Prelude.{◌==◌, unwrap_or, codes}
use Rattle.std.proofs.lemmas.Bool.{and_parts}
use Rattle.std.proofs.lemmas.Slice.Eq.{bytes_eq-Decides}
use Rattle.gm_packet.specs.declared.kind.Kind.{Kind}
use Rattle.gm_packet.specs.declared.kind.Kind.TheVariants.{OptionReq}
use Rattle.gm_packet.specs.Answers.{option_res, work_fail}
use Rattle.gm_admin.specs.Answers.{ok_text}
use Rattle.gm_notes.specs.declared.note.Note.{Note}
use Rattle.gm_notes.specs.declared.note.Note.TheVariants as notes
use Rattle.gm_notes.specs.declared.states.Mode.{Mode}
use Rattle.gm_notes.specs.declared.states.Mode.TheVariants.{Running, Graceful, Stopped}
use Rattle.gm_notes.specs.Settings.{Settings}
use Rattle.gm_notes.specs.Flow.{Queued}
use Rattle.gm_notes.specs.Notes.{is_open, is_shut, has_option, moment, mode, slots_from}
use Rattle.gm_notes.specs.Jobs.{job_state, deadline, listeners, handle}
use Rattle.gm_notes.specs.JobStates.{is_running}
use Rattle.gm_notes.specs.Past.{Past, with_note}
use Rattle.gm_notes.specs.Requests.{first, set_option, request}
use Rattle.gm_notes.specs.Lines.{shut_one, shut_each, go_graceful, shutdown}
use Rattle.gm_notes.specs.Closings.{is_reached, expire_one, expire_each, rising}
use Rattle.gm_notes.specs.Steps.{Step, Tick, refusal, step, run}
use Rattle.gm_history.specs.History.{Allowed, History}
use Rattle.gm_history.specs.Causes.{Caused, closes, JustQueues}
use Rattle.gm_history.proofs.Keeping.{kept_if, tell_all_notes}
use Rattle.gm_history.proofs.StepsKeep.{run_history}
use Rattle.gm_history.proofs.Caused.{note_law}
use Rattle.gm_laws.specs.Exceptions.{WantsExceptions, ExceptionsArePassedOn}
use Rattle.gm_laws.specs.Answered.{TicksAreTaken, ShutdownIsAnswered}
use Rattle.gm_laws.proofs.Moving.{both_not}
use Rattle.gm_laws.proofs.Taken.{request_does, line_does}
use Rattle.gm_notes.proofs.Numbers.{same_number}
use Rattle.std.proofs.lemmas.Bool.{eqb-true}

-- ---- exceptions

module _ (k : Settings) (s : Step) (start : Past) (history : History k start.notes) (c : ℕ) where
  abbrev Gets : List Note → Type 0
  Gets l = (is_open c l ≡ true) × (has_option c l ≡ true)

  -- ---- from then on

  gets_more : closes c s ≡ false → (note : Note) (older : List Note) → Allowed k note older → Caused k start.notes s note older → Gets older → Gets (note ∷ older)
  gets_more stays (notes.Opened d addr) older allowed cause p = by (c == d) refl
    where
      by : (t : Bool) → (c == d) ≡ t → (unwrap_or (cond t (Some true) None) (is_open c older) ≡ true) × (unwrap_or (cond t (Some false) None) (has_option c older) ≡ true)
      by true is = absurd (both_not (is_open c older) p.0 (ap (λ x. is_open x older) (eqb-true c d is) ∙ allowed.0))
      by false is = p
  gets_more stays (notes.Closed d) older allowed cause p = by (c == d) refl
    where
      by : (t : Bool) → (c == d) ≡ t → (unwrap_or (cond t (Some false) None) (is_open c older) ≡ true) × (has_option c older ≡ true)
      by true is = absurd (both_not (closes c s) (ap (closes c) cause ∙ is) stays)
      by false is = p
  gets_more stays (notes.OptionSet d) older allowed cause p = (p.0, by (c == d))
    where
      by : (t : Bool) → unwrap_or (cond t (Some true) None) (has_option c older) ≡ true
      by true = refl
      by false = p.1
  gets_more stays note older allowed cause p = p

  gets_on : Gets start.notes → closes c s ≡ false → Gets (step k s start).notes
  gets_on p stays = note_law k s start history Gets (λ note older allowed cause h q. gets_more stays note older allowed cause q) p

  -- ---- not otherwise

  abbrev AskedSo : List Note → Type 0
  AskedSo l = Gets l → Gets start.notes ⊎ WantsExceptions c s

  asked_more : (note : Note) (older : List Note) → Caused k start.notes s note older → AskedSo older → AskedSo (note ∷ older)
  asked_more (notes.Opened d addr) older cause p e = by (c == d) e
    where
      by : (t : Bool) → (unwrap_or (cond t (Some true) None) (is_open c older) ≡ true) × (unwrap_or (cond t (Some false) None) (has_option c older) ≡ true) → Gets start.notes ⊎ WantsExceptions c s
      by true e = absurd (let x = e.1 in cc)
      by false e = p e
  asked_more (notes.Closed d) older cause p e = by (c == d) e
    where
      by : (t : Bool) → (unwrap_or (cond t (Some false) None) (is_open c older) ≡ true) × (has_option c older ≡ true) → Gets start.notes ⊎ WantsExceptions c s
      by true e = absurd (let x = e.0 in cc)
      by false e = p e
  asked_more (notes.OptionSet d) older cause p e = by (c == d) refl e
    where
      by : (t : Bool) → (c == d) ≡ t → (is_open c older ≡ true) × (unwrap_or (cond t (Some true) None) (has_option c older) ≡ true) → Gets start.notes ⊎ WantsExceptions c s
      by true is e = inr (subst (λ x. WantsExceptions x s) (sym (eqb-true c d is)) cause)
      by false is e = p e
  asked_more note older cause p e = p e

  asked_so : AskedSo (step k s start).notes
  asked_so = note_law k s start history AskedSo (λ note older allowed cause h q. asked_more note older cause q) (λ e. inl e)

-- what OPTION_REQ for exceptions does
module _ (k : Settings) (c : ℕ) (start : Past) where
  abbrev Answers : Past → Type 0
  Answers after = JustQueues c (option_res (codes "exceptions")) start after × (has_option c after.notes ≡ true) × (is_open c after.notes ≡ is_open c start.notes)

  sets : Answers (set_option c (codes "exceptions") start)
  sets = rw ((bytes_eq-Decides (codes "exceptions") (codes "exceptions")).1 refl) (refl, rw (same_number c) refl, refl)

  chooses : (kind : Kind) (a : List (List ℕ)) (timeout : ℕ) → kind ≡ OptionReq → first a ≡ codes "exceptions" → Answers (request k c kind a timeout start)
  chooses kind a timeout is names = subst (λ x. Answers (request k c x a timeout start)) (sym is) (subst (λ x. Answers (set_option c x start)) (sym names) sets)

pub exceptions : (k : Settings) (steps : List Step) (s : Step) → ExceptionsArePassedOn k (run k steps) s (run k (s ∷ steps))
exceptions k steps s =
    let start = run k steps in (
      (λ c takes w.
          let did = subst (Answers k c start) (sym (request_does k s start c w.0 takes w.1)) (chooses k c start w.0.kind w.0.arguments w.0.timeout w.2 w.3) in
          (did.0, (did.2 ∙ (and_parts (is_open c start.notes) (not (is_shut c start.notes)) takes).0, did.1))),
      (λ c. gets_on k s start (run_history k steps) c),
      λ c. asked_so k s start (run_history k steps) c,
    )

-- ---- ticks

expired_moment : (k : Settings) (jobs : List ℕ) (past : Past) → moment (expire_each k jobs past).notes ≡ moment past.notes
expired_moment k [] past = refl
expired_moment k (n ∷ jobs) past =
    expired_moment k jobs (expire_one k n past)
    ∙ kept_if (λ l. moment l ≡ moment past.notes) (is_running (job_state n past.notes) && is_reached (deadline n past.notes) (moment past.notes)) _ past
    (ap moment (tell_all_notes (work_fail (handle k n)) (listeners n past.notes) past)) refl

module _ (k : Settings) (s : Step) (start : Past) where
  abbrev TickedSo : Step → ℕ → Type 0
  TickedSo one now = (refusal k one start ≡ None) × (moment (step k one start).notes ≡ max now (moment start.notes))

  abbrev StaysSo : List Note → Type 0
  StaysSo l = (moment l ≡ moment start.notes) ⊎ ((now : ℕ) × (s ≡ Tick now))

  stays_more : (note : Note) (older : List Note) → Caused k start.notes s note older → StaysSo older → StaysSo (note ∷ older)
  stays_more (notes.Now t) older cause p = inr (cause.0, cause.1)
  stays_more note older cause p = p

  ticked : History k start.notes → TicksAreTaken k start s (step k s start)
  ticked history = (
    (λ now is. subst (λ one. TickedSo one now) (sym is) (refl, expired_moment k (rising start) (with_note (notes.Now (max now (moment start.notes))) start))),
    note_law k s start history StaysSo (λ note older allowed cause h p. stays_more note older cause p) (inl refl),
  )

pub ticks : (k : Settings) (steps : List Step) (s : Step) → TicksAreTaken k (run k steps) s (run k (s ∷ steps))
ticks k steps s = ticked k s (run k steps) (run_history k steps)

-- ---- `shutdown`

shut_flow : (slots : List ℕ) (past : Past) → (shut_each slots past).flow ≡ past.flow
shut_flow [] past = refl
shut_flow (c ∷ slots) past = shut_flow slots (shut_one c past) ∙ by (is_open c past.notes && not (is_shut c past.notes))
  where
    by : (t : Bool) → (cond t (with_note (notes.Shut c) past) past).flow ≡ past.flow
    by true = refl
    by false = refl

graceful_flow : (m : Mode) (past : Past) → (go_graceful m past).flow ≡ past.flow
graceful_flow Running past = refl
graceful_flow Graceful past = refl
graceful_flow Stopped past = refl

says_ok : (k : Settings) (c : ℕ) (graceful : Bool) (start : Past) → (shutdown k c graceful start).flow ≡ Queued c ok_text ∷ start.flow
says_ok k c true start = ap (λ flow. Queued c ok_text ∷ flow) (graceful_flow (mode start.notes) start)
says_ok k c false start = shut_flow (slots_from 0 k.slots) _

pub shutdowns : (k : Settings) (steps : List Step) (s : Step) → ShutdownIsAnswered k (run k steps) s (run k (s ∷ steps))
shutdowns k steps s c graceful is =
    ap (λ (past : Past). past.flow) (line_does k s (run k steps) c is.0.0 _ is.0.1 is.1 is.2) ∙ says_ok k c graceful (run k steps)
