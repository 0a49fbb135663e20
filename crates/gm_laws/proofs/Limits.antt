-- The limits of functions hold.
use Rattle.std.proofs.Common.{◌≡◌, ◌⊎◌, inl, inr, ℕ, suc, ◌<◌, ◌≤◌, Bool, true, false, cond, not, ◌||◌, List, [], ◌∷◌, length, filter, Some, None, Ok}
use Rattle.std.proofs.Common.{refl, sym, ap, subst, ◌∙◌, arith, length-append}
use Rattle.std.specs.Prelude.{◌==◌, unwrap_or}
use Rattle.std.specs.List.{list_any}
use Rattle.std.specs.Str.{bytes_eq}
use Rattle.std.proofs.lemmas.Bool.{and_parts, and_from, or_left, or_parts}
use Rattle.std.proofs.lemmas.List.Folds.{list_any-append}
use Rattle.std.proofs.lemmas.Slice.Eq.{bytes_eq-Decides}
use Rattle.gm_notes.specs.declared.note.Note.{Note}
use Rattle.gm_notes.specs.declared.note.Note.TheVariants as notes
use Rattle.gm_notes.specs.Settings.{Settings}
use Rattle.gm_admin.specs.declared.fault.AdminError.{AdminError}
use Rattle.gm_admin.specs.declared.fault.AdminError.TheVariants as errors
use Rattle.gm_admin.specs.Commands.{MaxQueue}
use Rattle.gm_admin.specs.Answers.{ok_text}
use Rattle.gm_notes.specs.Flow.{Queued}
use Rattle.gm_notes.specs.Submissions.{is_one_too_many}
use Rattle.gm_notes.specs.Lines.{is_bad_word, refuse_line, maxqueue}
use Rattle.gm_notes.specs.Jobs.{Job, job_state, job, made, functions, is_mentioned, limit, total, is_live_of, is_job_of, abilities, is_able, is_of, put}
use Rattle.gm_notes.specs.JobStates.{JobState, is_live}
use Rattle.gm_notes.specs.JobStates as states
use Rattle.gm_notes.specs.Past.{Past, with_note, with_output, with_mention}
use Rattle.gm_notes.specs.Steps.{Step, Line, step, run}
use Rattle.gm_history.specs.History.{Allowed, History}
use Rattle.gm_history.specs.Causes.{Caused, Commands, is_request, is_submission}
use Rattle.gm_laws.specs.Limits.{MaxqueueIsAnswered, LimitsHold}
use Rattle.gm_history.proofs.Asking.{made_request}
use Rattle.gm_laws.proofs.JobLaws.{has_place, places, unmade, slot_live, waiting_live, running_live, discarded_live}
use Rattle.gm_laws.proofs.Moving.{from, both_not}
use Rattle.gm_laws.proofs.Sleepers.{fewer, filtered_if, put_other}
use Rattle.gm_history.proofs.StepsKeep.{run_history}
use Rattle.gm_laws.specs.Refusals.{IsErr, IsErroneous}
use Rattle.gm_laws.proofs.Created.{mention_flow, too_many}
use Rattle.gm_laws.proofs.Refusals.{bad_word, word_badly}
use Rattle.gm_laws.proofs.Taken.{line_does}
use Rattle.gm_laws.proofs.Words.{among}
use Rattle.gm_history.proofs.Caused.{note_law}
use Rattle.gm_notes.proofs.Numbers.{same_number}
use Rattle.std.proofs.lemmas.Bool.{eqb-true}

-- ---- counts

length_at : (t u : Bool) (n : ℕ) (a b : List ℕ) → (t ≡ true → u ≡ true) → length a ≤ length b → length (cond t (n ∷ a) a) ≤ length (cond u (n ∷ b) b)
length_at true true n a b more le = omega arith
length_at true false n a b more le = absurd (let bad : false ≡ true = more refl in cc)
length_at false true n a b more le = omega arith
length_at false false n a b more le = le

-- where each that passes one test passes another, no fewer pass that
fewer_pass : (p q : ℕ → Bool) → ((n : ℕ) → p n ≡ true → q n ≡ true) → (ns : List ℕ) → length (filter p ns) ≤ length (filter q ns)
fewer_pass p q more [] = omega arith
fewer_pass p q more (n ∷ ns) = length_at (p n) (q n) n (filter p ns) (filter q ns) (more n) (fewer_pass p q more ns)

-- where tests differ only for a number that isn't there, as many pass either
same_pass : (m : ℕ) (p q : ℕ → Bool) → ((n : ℕ) → (n == m) ≡ false → p n ≡ q n) → (ns : List ℕ) → list_any (λ n. n == m) ns ≡ false → filter p ns ≡ filter q ns
same_pass m p q same [] none = refl
same_pass m p q same (n ∷ ns) none =
    let parts = or_parts (n == m) (list_any (λ x. x == m) ns) none in
    ap (λ t. cond t (n ∷ filter p ns) (filter p ns)) (same n parts.0) ∙ ap (λ l. cond (q n) (n ∷ l) l) (same_pass m p q same ns parts.1)

-- ---- how many jobs of a function wait or run

live_before : (n m : ℕ) (older : List Note) (new : JobState) (t : Bool) → (n == m) ≡ t → is_live (job_state m older) ≡ true → is_live (unwrap_or (cond t (Some new) None) (job_state n older)) ≡ true → is_live (job_state n older) ≡ true
live_before n m older new true is lived e = subst (λ x. is_live (job_state x older) ≡ true) (sym (eqb-true n m is)) lived
live_before n m older new false is lived e = e

module _ (f : List ℕ) (k : Settings) where
  -- a note that moves job m, which is live
  moved_total : (note : Note) (older : List Note) (m : ℕ) (new : JobState) → made (note ∷ older) ≡ made older → ((n : ℕ) → job_state n (note ∷ older) ≡ unwrap_or (cond (n == m) (Some new) None) (job_state n older))
      → ((n : ℕ) → job n (note ∷ older) ≡ job n older) → is_live (job_state m older) ≡ true → total f (note ∷ older) ≤ total f older
  moved_total note older m new same states_are jobs_are lived =
      subst (λ ns. length (filter (is_live_of f (note ∷ older)) ns) ≤ total f older) (sym same)
      (fewer_pass (is_live_of f (note ∷ older)) (is_live_of f older)
      (λ n e. let p = and_parts (is_live (job_state n (note ∷ older))) (is_job_of f (job n (note ∷ older))) e in
      and_from (is_live (job_state n older)) (is_job_of f (job n older))
      (live_before n m older new (n == m) refl lived (subst (λ s. is_live s ≡ true) (states_are n) p.0)) (subst (λ o. is_job_of f o ≡ true) (jobs_are n) p.1)) (made older))

  -- all notes but a new job's
  total_less : (note : Note) (older : List Note) → ((m : ℕ) (g : List ℕ) (p : _) (u body : List ℕ) → note ≡ notes.Made m g p u body → ⊥) → Allowed k note older → total f (note ∷ older) ≤ total f older
  total_less (notes.Made m g p u body) older makes allowed = absurd (makes m g p u body refl)
  total_less (notes.Returned m) older makes allowed = moved_total (notes.Returned m) older m states.Waiting refl (λ n. refl) (λ n. refl) (slot_live (job_state m older) allowed.0)
  total_less (notes.Assigned m c late) older makes allowed = moved_total (notes.Assigned m c late) older m (states.Running c) refl (λ n. refl) (λ n. refl) (waiting_live (job_state m older) allowed.0)
  total_less (notes.Lost m) older makes allowed = moved_total (notes.Lost m) older m states.Lost refl (λ n. refl) (λ n. refl) (slot_live (job_state m older) allowed.0)
  total_less (notes.Ended m) older makes allowed = moved_total (notes.Ended m) older m states.Ended refl (λ n. refl) (λ n. refl) (running_live (job_state m older) allowed)
  total_less (notes.Discarded m) older makes allowed = moved_total (notes.Discarded m) older m states.Discarded refl (λ n. refl) (λ n. refl) (discarded_live (job_state m older) allowed.0)
  total_less note older makes allowed = omega arith

  -- a new job counts for its function
  made_total : (m : ℕ) (g : List ℕ) (p : _) (u body : List ℕ) (older : List Note) → Allowed k (notes.Made m g p u body) older → History k older
      → total f (notes.Made m g p u body ∷ older) ≡ cond (bytes_eq g f) (suc (total f older)) (total f older)
  made_total m g p u body older allowed h =
      let new = notes.Made m g p u body ∷ older in
      let none : list_any (λ n. n == m) (made older) ≡ false = sym (places k older h m) ∙ ap has_place (unmade k m older h allowed.0) in
      let rest : filter (is_live_of f new) (made older) ≡ filter (is_live_of f older) (made older) = same_pass m (is_live_of f new) (is_live_of f older) (λ n other. rw other refl) (made older) none in
      let here : is_live_of f new m ≡ bytes_eq g f = rw (same_number m) refl in
      ap (λ t. length (cond t (m ∷ filter (is_live_of f new) (made older)) (filter (is_live_of f new) (made older)))) here
      ∙ (ap (λ l. length (cond (bytes_eq g f) (m ∷ l) l)) rest ∙ by (bytes_eq g f))
    where
      by : (t : Bool) → length (cond t (m ∷ filter (is_live_of f older) (made older)) (filter (is_live_of f older) (made older))) ≡ cond t (suc (total f older)) (total f older)
      by true = refl
      by false = refl

  -- ---- in a step

  module _ (s : Step) (start : Past) (history : History k start.notes) where
    -- a submission changes no limit, and the limit holds if there are more jobs than before
    abbrev HoldsSo : List Note → Type 0
    HoldsSo l =
        (is_request is_submission s ≡ true → limit f l ≡ limit f start.notes)
        × (0 < limit f start.notes → total f start.notes < total f l → total f l ≤ limit f start.notes)

    limited_more : (g : List ℕ) (size : ℕ) (older : List Note) → Caused k start.notes s (notes.Limit g size) older → HoldsSo older → HoldsSo (notes.Limit g size ∷ older)
    limited_more g size older cause p = ((λ e. absurd (by s cause e)), p.1)
      where
        by : (s : Step) → Commands s (MaxQueue g size) → is_request is_submission s ≡ true → ⊥
        by (Line c bytes) commands e = let bad : ⊥ = cc in bad
        by other commands e = commands

    made_more : (m : ℕ) (g : List ℕ) (p : _) (u body : List ℕ) (older : List Note) → Allowed k (notes.Made m g p u body) older → Caused k start.notes s (notes.Made m g p u body) older → History k older → HoldsSo older
        → HoldsSo (notes.Made m g p u body ∷ older)
    made_more m g p u body older allowed cause h so = (so.0, subst (λ n. 0 < limit f start.notes → total f start.notes < n → n ≤ limit f start.notes) (sym (made_total m g p u body older allowed h)) (by (bytes_eq g f) refl))
      where
        same : limit f older ≡ limit f start.notes
        same = so.0 (made_request k start.notes s m g p u body older cause)

        below : g ≡ f → 0 < limit f start.notes → suc (total f older) ≤ limit f start.notes
        below is some = from allowed.3
            (λ none. let zero : limit f older ≡ 0 = ap (λ x. limit x older) (sym is) ∙ none in omega (arith, zero, same))
            (λ lt. let less : total f older < limit f older = subst (λ x. total x older < limit x older) is lt in omega (arith, less, same))

        by : (t : Bool) → bytes_eq g f ≡ t → 0 < limit f start.notes → total f start.notes < cond t (suc (total f older)) (total f older) → cond t (suc (total f older)) (total f older) ≤ limit f start.notes
        by true is some more = below ((bytes_eq-Decides g f).0 is) some
        by false is some more = so.1 some more

    less_more : (note : Note) (older : List Note) → limit f (note ∷ older) ≡ limit f older → total f (note ∷ older) ≤ total f older → HoldsSo older → HoldsSo (note ∷ older)
    less_more note older same le p = (
      (λ e. same ∙ p.0 e),
      λ some more. let rest = p.1 some (omega arith) in omega arith,
    )

    holds_more : (note : Note) (older : List Note) → Allowed k note older → Caused k start.notes s note older → History k older → HoldsSo older → HoldsSo (note ∷ older)
    holds_more (notes.Limit g size) older allowed cause h p = limited_more g size older cause p
    holds_more (notes.Made m g pr u body) older allowed cause h p = made_more m g pr u body older allowed cause h p
    holds_more note older allowed cause h p = less_more note older refl (total_less note older (λ m g pr u body e. absurd cc) allowed) p

    holds : 0 < limit f start.notes → total f start.notes < total f (step k s start).notes → total f (step k s start).notes ≤ limit f start.notes
    holds = (note_law k s start history HoldsSo (λ note older allowed cause h p. holds_more note older allowed cause h p) ((λ e. refl), (λ some more. absurd (omega arith)))).1

-- ---- how many functions there are, and whose

pub few_functions : (k : Settings) (l : List Note) → History k l → length (functions l) ≤ k.max_functions
few_functions k [] h = omega arith
few_functions k (notes.Mention f ∷ older) h = let lt = h.0.1 in omega (arith, length-append (functions older) (f ∷ []))
few_functions k (note ∷ older) h = few_functions k older h.1

still_mentioned : (f : List ℕ) (note : Note) (older : List Note) → is_mentioned f older ≡ true → is_mentioned f (note ∷ older) ≡ true
still_mentioned f (notes.Mention g) older e =
    list_any-append (λ x. bytes_eq x f) (functions older) (g ∷ []) ∙ or_left (is_mentioned f older) (bytes_eq g f || false) e
still_mentioned f note older e = e

pub job_mentioned : (k : Settings) (l : List Note) → History k l → (n : ℕ) (what : Job) → job n l ≡ Some what → is_mentioned what.function l ≡ true
job_mentioned k [] h n what e = absurd cc
job_mentioned k (notes.Made m f p u body ∷ older) h n what e = by (n == m) (job_mentioned k older h.1 n what) e
  where
    new : Job
    new = record { function = f; priority = p; unique = u; body = body }

    by : (t : Bool) → (job n older ≡ Some what → is_mentioned what.function older ≡ true) → unwrap_or (cond t (Some (Some new)) None) (job n older) ≡ Some what → is_mentioned what.function older ≡ true
    by true rest is = let same : new ≡ what = cc in subst (λ (x : Job). is_mentioned x.function older ≡ true) same h.0.2
    by false rest is = rest is
job_mentioned k (note ∷ older) h n what e = still_mentioned what.function note older (job_mentioned k older h.1 n what e)

-- what isn't mentioned nobody can do
unmentioned : (f : List ℕ) (note : Note) (older : List Note) → is_mentioned f (note ∷ older) ≡ false → is_mentioned f older ≡ false
unmentioned f note older e = by (is_mentioned f older) refl
  where
    by : (t : Bool) → is_mentioned f older ≡ t → t ≡ false
    by true is = absurd (both_not (is_mentioned f (note ∷ older)) (still_mentioned f note older is) e)
    by false is = refl

unable : (k : Settings) (l : List Note) → History k l → (c : ℕ) (f : List ℕ) → is_mentioned f l ≡ false → is_able c f l ≡ false
unable k [] h c f e = refl
unable k (notes.Opened d addr ∷ older) h c f e = fewer (is_of f) (c == d) (abilities c older) (unable k older h.1 c f e)
unable k (notes.Closed d ∷ older) h c f e = fewer (is_of f) (c == d) (abilities c older) (unable k older h.1 c f e)
unable k (notes.Reset d ∷ older) h c f e = fewer (is_of f) (c == d) (abilities c older) (unable k older h.1 c f e)
unable k (notes.Cant d g ∷ older) h c f e = filtered_if (is_of f) (λ ability. not (is_of g ability)) (c == d) (abilities c older) (unable k older h.1 c f e)
unable k (notes.Can d g t ∷ older) h c f e = by (c == d) (bytes_eq g f) refl (unable k older h.1 c f e)
  where
    by : (u v : Bool) → bytes_eq g f ≡ v → is_able c f older ≡ false → list_any (is_of f) (cond u (put g t (abilities c older)) (abilities c older)) ≡ false
    by false v is rest = rest
    by true false is rest = put_other f g t (abilities c older) is rest
    by true true is rest = absurd (both_not (is_mentioned f older) (subst (λ x. is_mentioned x older ≡ true) ((bytes_eq-Decides g f).0 is) h.0.1) e)
unable k (note ∷ older) h c f e = unable k older h.1 c f (unmentioned f note older e)

pub able_mentioned : (k : Settings) (l : List Note) → History k l → (c : ℕ) (f : List ℕ) → is_able c f l ≡ true → is_mentioned f l ≡ true
able_mentioned k l h c f e = by (is_mentioned f l) refl
  where
    by : (t : Bool) → is_mentioned f l ≡ t → t ≡ true
    by true is = refl
    by false is = absurd (both_not (is_able c f l) e (unable k l h c f is))

-- ---- which limit there is

module _ (k : Settings) (s : Step) (start : Past) (history : History k start.notes) (f : List ℕ) where
  abbrev StaysSo : List Note → Type 0
  StaysSo l = (limit f l ≡ limit f start.notes) ⊎ Commands s (MaxQueue f (limit f l))

  stays_more : (note : Note) (older : List Note) → Caused k start.notes s note older → StaysSo older → StaysSo (note ∷ older)
  stays_more (notes.Limit g size) older cause p = by (bytes_eq g f) refl
    where
      by : (t : Bool) → bytes_eq g f ≡ t
          → (unwrap_or (cond t (Some size) None) (limit f older) ≡ limit f start.notes) ⊎ Commands s (MaxQueue f (unwrap_or (cond t (Some size) None) (limit f older)))
      by true is = inr (subst (λ x. Commands s (MaxQueue x size)) ((bytes_eq-Decides g f).0 is) cause)
      by false is = p
  stays_more note older cause p = p

  stays_so : StaysSo (step k s start).notes
  stays_so = note_law k s start history StaysSo (λ note older allowed cause h p. stays_more note older cause p) (inl refl)

-- what `maxqueue` of a slot that takes units does
module _ (k : Settings) (start : Past) (c : ℕ) (f : List ℕ) (size : ℕ) where
  abbrev Sets : Past → Type 0
  Sets after =
      ((after.flow ≡ Queued c ok_text ∷ start.flow) × (limit f after.notes ≡ size))
      ⊎ ((error : AdminError) × IsErroneous k (Ok (MaxQueue f size)) start error × IsErr c error start after)

  sets_now : limit f (notes.Limit f size ∷ (with_mention f start).notes) ≡ size
  sets_now = rw ((bytes_eq-Decides f f).1 refl) refl

  sets : Sets (maxqueue k c f size start)
  sets = by (is_bad_word f) (is_one_too_many k f start.notes) refl refl
    where
      by : (t u : Bool) → is_bad_word f ≡ t → is_one_too_many k f start.notes ≡ u
          → Sets (cond t (refuse_line c errors.BadFunction start) (cond u (refuse_line c errors.TooManyFunctions start) (with_output c ok_text (with_note (notes.Limit f size) (with_mention f start)))))
      by true u bad many = inr (errors.BadFunction, inl (refl, bad_word f bad), (refl, refl))
      by false true bad many = inr (errors.TooManyFunctions, inr (refl, (λ b. both_not (is_bad_word f) (word_badly f b) bad), too_many k f start.notes many), (refl, refl))
      by false false bad many = inl (ap (λ flow. Queued c ok_text ∷ flow) (mention_flow f start), sets_now)

maxqueue_answered : (k : Settings) (s : Step) (start : Past) → MaxqueueIsAnswered k start s (step k s start)
maxqueue_answered k s start c line f size is asks takes = subst (Sets k start c f size) (sym (line_does k s start c line (MaxQueue f size) is asks takes)) (sets k start c f size)

pub limits : (k : Settings) (steps : List Step) (s : Step) → LimitsHold k (run k steps) s (run k (s ∷ steps))
limits k steps s =
    let h = run_history k (s ∷ steps) in let l = (run k (s ∷ steps)).notes in (
      (λ f. holds f k s (run k steps) (run_history k steps)),
      (
        few_functions k l h,
        (λ n what is. among what.function (functions l) (job_mentioned k l h n what is)),
        (λ c f is. among f (functions l) (able_mentioned k l h c f is)),
      ),
      (λ f. stays_so k s (run k steps) (run_history k steps) f),
      maxqueue_answered k s (run k steps),
    )
