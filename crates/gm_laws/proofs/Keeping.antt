-- What is kept stays kept, and who listens listens on.
use Rattle.std.proofs.Common.{◌≡◌, ◌⊎◌, inl, inr, ℕ, Bool, true, false, cond, not, List, [], ◌∷◌, ◌++◌, filter, Some, None, refl, sym, ap, subst, ◌∙◌}
use Rattle.std.specs.Prelude.{◌==◌, unwrap_or}
use Rattle.std.proofs.lemmas.Bool.{eqb-true, or_left, or_right}
use Rattle.gm_packet.specs.Requests.{Asked}
use Rattle.gm_notes.specs.declared.note.Note.{Note}
use Rattle.gm_notes.specs.declared.note.Note.TheVariants as notes
use Rattle.gm_notes.specs.Settings.{Settings}
use Rattle.gm_notes.specs.Notes.{takes_units}
use Rattle.gm_notes.specs.Jobs.{job_state, job, is_kept, listeners}
use Rattle.gm_notes.specs.JobStates as states
use Rattle.gm_notes.specs.Past.{Past}
use Rattle.gm_notes.specs.Steps.{Step, Close, step, run}
use Rattle.gm_history.specs.History.{Allowed, History}
use Rattle.gm_history.specs.Causes.{Caused, PacketAsks, is_background, is_foreground, is_submission, closes}
use Rattle.gm_history.specs.Laws.{InEachStep}
use Rattle.gm_history.proofs.Caused.{note_law}
use Rattle.gm_history.proofs.StepsKeep.{run_history}
use Rattle.gm_laws.specs.Submitted.{JoinsOrMakes}
use Rattle.gm_laws.specs.Keeping.{SubmitsInTheBackground, ListenersStay, HearingAndKeepingStay}
use Rattle.gm_laws.proofs.Created.{IsKeptAlike, Answered, request_answered}
use Rattle.gm_laws.proofs.JobLaws.{has_place, unmade, place_still}
use Rattle.gm_laws.proofs.Moving.{from, both_not}
use Rattle.gm_laws.proofs.Taken.{request_does, request_shut}
use Rattle.gm_laws.proofs.Unmade.{Nothing, unmade_is}
use Rattle.gm_notes.proofs.Numbers.{same_number}

-- ---- who goes

-- who is taken out once is out
taken_out : (d : ℕ) (slots : List ℕ) → filter (λ x. not (x == d)) (filter (λ x. not (x == d)) slots) ≡ filter (λ x. not (x == d)) slots
taken_out d [] = refl
taken_out d (x ∷ slots) = by (not (x == d)) refl (taken_out d slots)
  where
    by : (t : Bool) → not (x == d) ≡ t → filter (λ y. not (y == d)) (filter (λ y. not (y == d)) slots) ≡ filter (λ y. not (y == d)) slots
        → filter (λ y. not (y == d)) (cond t (x ∷ filter (λ y. not (y == d)) slots) (filter (λ y. not (y == d)) slots)) ≡ cond t (x ∷ filter (λ y. not (y == d)) slots) (filter (λ y. not (y == d)) slots)
    by true stays rest = rw stays (ap (λ l. x ∷ l) rest)
    by false stays rest = rest

-- ---- note by note

module _ (k : Settings) (s : Step) (start : Past) (history : History k start.notes) (n : ℕ) where
  abbrev Placed : List Note → Type 0
  Placed l = has_place (job_state n l) ≡ true

  not_made : (m : ℕ) (f : List ℕ) (p : _) (u body : List ℕ) (older : List Note) → Allowed k (notes.Made m f p u body) older → History k older → Placed older → (n == m) ≡ false
  not_made m f p u body older allowed h placed = by (n == m) refl
    where
      by : (t : Bool) → (n == m) ≡ t → t ≡ false
      by true is =
          let none : job_state n older ≡ states.Unmade = subst (λ x. job_state x older ≡ states.Unmade) (sym (eqb-true n m is)) (unmade k m older h allowed.0) in
          absurd (let bad : has_place states.Unmade ≡ true = subst (λ x. has_place x ≡ true) none placed in cc)
      by false is = refl

  placed_more : (note : Note) (older : List Note) → Placed older → Placed (note ∷ older)
  placed_more (notes.Made m f p u body) older q = place_still (n == m) states.Waiting (job_state n older) refl q
  placed_more (notes.Returned m) older q = place_still (n == m) states.Waiting (job_state n older) refl q
  placed_more (notes.Assigned m d late) older q = place_still (n == m) (states.Running d) (job_state n older) refl q
  placed_more (notes.Lost m) older q = place_still (n == m) states.Lost (job_state n older) refl q
  placed_more (notes.Ended m) older q = place_still (n == m) states.Ended (job_state n older) refl q
  placed_more (notes.Discarded m) older q = place_still (n == m) states.Discarded (job_state n older) refl q
  placed_more note older q = q

  job_more : (note : Note) (older : List Note) → Allowed k note older → History k older → Placed older × (job n older ≡ job n start.notes) → Placed (note ∷ older) × (job n (note ∷ older) ≡ job n start.notes)
  job_more (notes.Made m f p u body) older allowed h q = (placed_more (notes.Made m f p u body) older q.0, (let other = not_made m f p u body older allowed h q.0 in rw other q.1))
  job_more note older allowed h q = (placed_more note older q.0, q.1)

  -- a job that is only made now was neither kept nor listened to
  nothing_of : (m : ℕ) (f : List ℕ) (p : _) (u body : List ℕ) (older : List Note) → Allowed k (notes.Made m f p u body) older → History k older → (n == m) ≡ true → Nothing n older
  nothing_of m f p u body older allowed h is = subst (λ x. Nothing x older) (sym (eqb-true n m is)) (unmade_is k m older h (unmade k m older h allowed.0))

  -- ---- what keeps it

  kept_still : (t older : Bool) → older ≡ true → unwrap_or (cond t (Some true) None) older ≡ true
  kept_still true older e = refl
  kept_still false older e = e

  kept_more : (note : Note) (older : List Note) → Allowed k note older → History k older → is_kept n older ≡ true → is_kept n (note ∷ older) ≡ true
  kept_more (notes.Made m f p u body) older allowed h q = by (n == m) refl
    where
      by : (t : Bool) → (n == m) ≡ t → unwrap_or (cond t (Some false) None) (is_kept n older) ≡ true
      by true is = absurd (both_not (is_kept n older) q (nothing_of m f p u body older allowed h is).unkept)
      by false is = q
  kept_more (notes.Kept m) older allowed h q = kept_still (n == m) (is_kept n older) q
  kept_more note older allowed h q = q

  -- some submission in the background
  abbrev Keeps : Type 0
  Keeps = (c : ℕ) × (asked : Asked) × PacketAsks c s asked × (is_background asked.kind ≡ true)

  abbrev KeptSo : List Note → Type 0
  KeptSo l = is_kept n l ≡ true → (is_kept n start.notes ≡ true) ⊎ Keeps

  caused_more : (note : Note) (older : List Note) → Caused k start.notes s note older → KeptSo older → KeptSo (note ∷ older)
  caused_more (notes.Made m f p u body) older cause q = by (n == m)
    where
      by : (t : Bool) → unwrap_or (cond t (Some false) None) (is_kept n older) ≡ true → (is_kept n start.notes ≡ true) ⊎ Keeps
      by true e = absurd cc
      by false e = q e
  caused_more (notes.Kept m) older cause q = λ e. inr (cause.0, cause.1, cause.2, cause.3)
  caused_more note older cause q = q

  -- ---- who listens

  -- some submission in the foreground
  abbrev Hears : Type 0
  Hears = (c : ℕ) × (asked : Asked) × PacketAsks c s asked × (is_foreground asked.kind ≡ true)

  -- these are the slots that listened, but for one that closed
  abbrev AreLeft : List ℕ → Type 0
  AreLeft slots = (c : ℕ) × (closes c s ≡ true) × (slots ≡ filter (λ d. not (d == c)) (listeners n start.notes))

  abbrev HeardSo : List ℕ → Type 0
  HeardSo slots = (slots ≡ listeners n start.notes) ⊎ (AreLeft slots ⊎ Hears)

  left_more : (d : ℕ) (slots : List ℕ) → s ≡ Close d → AreLeft slots → AreLeft (filter (λ x. not (x == d)) slots)
  left_more d slots cause x =
      let same : x.0 ≡ d = eqb-true x.0 d (sym (ap (closes x.0) cause) ∙ x.1) in
      let left : slots ≡ filter (λ y. not (y == d)) (listeners n start.notes) = subst (λ c. slots ≡ filter (λ y. not (y == c)) (listeners n start.notes)) same x.2 in
      (d, subst (λ c. closes c s ≡ true) same x.1, ap (filter (λ y. not (y == d))) left ∙ taken_out d (listeners n start.notes))

  heard_more : (note : Note) (older : List Note) → Allowed k note older → Caused k start.notes s note older → History k older → HeardSo (listeners n older) → HeardSo (listeners n (note ∷ older))
  heard_more (notes.Made m f p u body) older allowed cause h q = by (n == m) refl
    where
      by : (t : Bool) → (n == m) ≡ t → HeardSo (cond t [] (listeners n older))
      by true is = subst HeardSo (nothing_of m f p u body older allowed h is).unheard q
      by false is = q
  heard_more (notes.Listens m d) older allowed cause h q = by (n == m)
    where
      by : (t : Bool) → HeardSo (cond t (listeners n older ++ d ∷ []) (listeners n older))
      by true = inr (inr (d, cause.0, cause.1, cause.2))
      by false = q
  heard_more (notes.Closed d) older allowed cause h q =
      from q (λ e. inr (inl (d, ap (closes d) cause ∙ same_number d, ap (filter (λ x. not (x == d))) e)))
      (λ x. inr (from x (λ left. inl (left_more d (listeners n older) cause left)) inr))
  heard_more note older allowed cause h q = q

  -- ---- whose submission it is

  abbrev after : Past
  after = step k s start

  module _ (c : ℕ) (asked : Asked) (a : PacketAsks c s asked) where
    abbrev HearsLast : ℕ → Type 0
    HearsLast m = is_foreground asked.kind ≡ true → listeners m after.notes ≡ listeners m start.notes ++ c ∷ []

    -- all is as it was with job n, or it is the job of the submission
    abbrev Told : Type 0
    Told = IsKeptAlike n after.notes start.notes ⊎ (JoinsOrMakes asked n start after × HearsLast n)

    answered_so : Answered k c asked start after → Told
    answered_so (inr r) = inl (ap (is_kept n) r.3, ap (listeners n) r.3)
    answered_so (inl r) = by (n == r.n) refl
      where
        by : (t : Bool) → (n == r.n) ≡ t → Told
        by true is = inr (subst (λ m. JoinsOrMakes asked m start after × HearsLast m) (sym (eqb-true n r.n is)) (r.how, r.hears))
        by false is = inl (r.apart n is)

    submission_so : is_submission asked.kind ≡ true → Told
    submission_so e = by (takes_units c start.notes) refl
      where
        by : (t : Bool) → takes_units c start.notes ≡ t → Told
        by false shut = inl (subst (λ (past : Past). IsKeptAlike n past.notes start.notes) (sym (request_shut k s start c asked shut a)) (refl, refl))
        by true takes =
            answered_so (subst (Answered k c asked start) (sym (request_does k s start c asked takes a))
            (request_answered k c start history asked.kind asked.arguments asked.timeout e))

  keeps_so : Keeps → is_kept n after.notes ≡ true → (is_kept n start.notes ≡ true) ⊎ SubmitsInTheBackground n start s after
  keeps_so x e =
      from (submission_so x.0 x.1 x.2 (or_right (is_foreground x.1.kind) (is_background x.1.kind) x.3)) (λ same. inl (sym same.0 ∙ e))
      (λ t. inr (x.0, x.1, x.2, x.3, t.0))

  hears_so : HeardSo (listeners n after.notes) → ListenersStay n start s after
  hears_so (inl e) = inl e
  hears_so (inr (inl left)) = inr (inl left)
  hears_so (inr (inr x)) =
      from (submission_so x.0 x.1 x.2 (or_left (is_foreground x.1.kind) (is_background x.1.kind) x.3)) (λ same. inl same.1)
      (λ t. inr (inr (x.0, (x.1, x.2, x.3, t.0), t.1 x.3)))

-- what was made stays the job that it is
pub job_stays : (k : Settings) (steps : List Step) (s : Step) (n : ℕ) → has_place (job_state n (run k steps).notes) ≡ true → job n (run k (s ∷ steps)).notes ≡ job n (run k steps).notes
job_stays k steps s n placed =
    let start = run k steps in
    let history = run_history k steps in
    (note_law k s start history (λ l. (has_place (job_state n l) ≡ true) × (job n l ≡ job n start.notes)) (λ note older allowed cause h p. job_more k s start history n note older allowed h p) (placed, refl)).1

pub hearing_and_keeping_stay : InEachStep HearingAndKeepingStay
hearing_and_keeping_stay k steps s n =
    let start = run k steps in
    let history = run_history k steps in (
      note_law k s start history (λ l. is_kept n l ≡ true) (λ note older allowed cause h p. kept_more k s start history n note older allowed h p),
      (λ e. from (note_law k s start history (KeptSo k s start history n) (λ note older allowed cause h p. caused_more k s start history n note older cause p) inl e) inl
          (λ x. keeps_so k s start history n x e)),
      hears_so k s start history n (note_law k s start history (λ l. HeardSo k s start history n (listeners n l)) (λ note older allowed cause h p. heard_more k s start history n note older allowed cause h p) (inl refl)),
    )
