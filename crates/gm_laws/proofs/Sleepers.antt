-- Between steps, nobody sleeps beside work.
use Rattle.std.proofs.Common.{◌≡◌, ◌⊎◌, inl, inr, ℕ, ◌<◌, Bool, true, false, cond, not, ◌&&◌, ◌||◌, List, [], ◌∷◌, filter}
use Rattle.std.proofs.Common.{Option, Some, None, refl, sym, ap, subst, ◌∙◌, arith}
use Rattle.std.specs.Prelude.{◌==◌, unwrap_or, codes}
use Rattle.std.specs.List.{list_any}
use Rattle.std.specs.Str.{bytes_eq}
use Rattle.std.proofs.lemmas.Bool.Decides.{nat_tests}
use Rattle.std.proofs.lemmas.Slice.Eq.{bytes_eq-Decides}
use Rattle.gm_packet.specs.declared.kind.Kind.{Kind}
use Rattle.gm_packet.specs.declared.kind.Kind.TheVariants.{CanDo, PreSleep, SubmitJob, SubmitJobBg, SubmitJobHigh}
use Rattle.gm_packet.specs.declared.kind.Kind.TheVariants.{CanDoTimeout, SubmitJobHighBg, SubmitJobLow, SubmitJobLowBg}
use Rattle.gm_packet.specs.Kinds.{kind_of}
use Rattle.gm_notes.specs.declared.states.Priority.TheVariants.{High, Normal, Low}
use Rattle.gm_notes.specs.declared.states.Phase.{Phase}
use Rattle.gm_notes.specs.declared.states.Phase.TheVariants.{Awake, Asleep, Owed}
use Rattle.gm_notes.specs.declared.note.Note.{Note}
use Rattle.gm_notes.specs.declared.note.Note.TheVariants as notes
use Rattle.gm_notes.specs.Settings.{Settings}
use Rattle.gm_notes.specs.Notes.{is_open, phase, is_asleep, is_awake, slots_from}
use Rattle.gm_notes.specs.Jobs.{Job, Ability, job_state, job, is_wanted, is_last_try, is_mentioned, is_able, is_of, is_empty, put}
use Rattle.gm_notes.specs.Jobs.{abilities, pick, waiting_for, joined, next_number}
use Rattle.gm_notes.specs.declared.states.Pick.{Pick}
use Rattle.gm_notes.specs.JobStates.{JobState, is_waiting, is_running_at}
use Rattle.gm_notes.specs.JobStates as states
use Rattle.gm_notes.specs.Past.{Past, with_note, refuse, with_mention, wake_one, wake_each, wake}
use Rattle.gm_notes.specs.Submissions.{Submission, is_bad_name, is_one_too_many, is_full, keep_or_listen, make, join_or_make, submit}
use Rattle.gm_notes.specs.Workers.{wake_itself, wake_if, add_ability, can_do, sleep_beside, pre_sleep}
use Rattle.gm_notes.specs.Requests.{packet_of, first, submission, request}
use Rattle.gm_notes.specs.Closings.{discard_one, discard_each, wake_for, return_or_lose, give_back_one, give_back_each, disconnect, rising, close}
use Rattle.gm_notes.specs.Steps.{Step, Packet, Close, refusal, step, run}
use Rattle.gm_history.specs.History.{History}
use Rattle.gm_history.specs.Causes.{Caused, is_close, is_submission, is_enabling, is_sleeping, is_request, is_one_of}
use Rattle.gm_laws.specs.Between.{NoOneSleepsBesideWork}
use Rattle.gm_history.proofs.Asking.{asks_some, made_request, can_asks}
use Rattle.gm_laws.proofs.NumberLaws.{slots}
use Rattle.gm_history.proofs.Keeping.{keeps_notes, kept_if}
use Rattle.gm_history.proofs.Listeners.{opens, still_open}
use Rattle.gm_laws.proofs.Moving.{both_not, moved, from, not_both, In, slot_in}
use Rattle.gm_history.proofs.StepsKeep.{step_keeps, taken_or_not, packet_of_kinds, run_history}
use Rattle.gm_laws.proofs.Waiting.{something_waits, no_pick}
use Rattle.std.proofs.lemmas.Bool.{or_parts}

-- who sleeps can do none of the jobs that wait, but for these
abbrev CalmBut : (ℕ → List ℕ → Type 0) → List Note → Type 0
CalmBut but l = (c n : ℕ) (what : Job) → is_asleep (phase c l) ≡ true → job_state n l ≡ states.Waiting → job n l ≡ Some what → (is_able c what.function l ≡ false) ⊎ but c what.function

abbrev Never : ℕ → List ℕ → Type 0
Never c f = ⊥

-- ---- who sleeps

-- a note that sets the phase of slot d to one that isn't sleep
awake_at : (c d : ℕ) (new old : Phase) (t : Bool) → (c == d) ≡ t → is_asleep new ≡ false → is_asleep (unwrap_or (cond t (Some new) None) old) ≡ true → ((c == d) ≡ false) × (is_asleep old ≡ true)
awake_at c d new old true is awake e = let bad : true ≡ false = sym e ∙ awake in let worse : ⊥ = cc in absurd worse
awake_at c d new old false is awake e = (is, e)

asleep_at : (c d : ℕ) (old : Phase) (t : Bool) → (c == d) ≡ t → is_asleep (unwrap_or (cond t (Some Asleep) None) old) ≡ true → (c ≡ d) ⊎ (is_asleep old ≡ true)
asleep_at c d old true is e = let same : c ≡ d = grind (arith, nat_tests) in inl same
asleep_at c d old false is e = inr e

-- who sleeps is open
sleepers_open : (k : Settings) (l : List Note) → History k l → (c : ℕ) → is_asleep (phase c l) ≡ true → is_open c l ≡ true
sleepers_open k [] h c e = absurd cc
sleepers_open k (notes.Opened d addr ∷ older) h c e = opens c (is_open c older) (c == d) (sleepers_open k older h.1 c (awake_at c d Awake (phase c older) (c == d) refl refl e).1)
sleepers_open k (notes.Closed d ∷ older) h c e =
    let a = awake_at c d Awake (phase c older) (c == d) refl refl e in still_open (is_open c older) (c == d) a.0 (sleepers_open k older h.1 c a.1)
sleepers_open k (notes.Slept d ∷ older) h c e =
    from (asleep_at c d (phase c older) (c == d) refl e) (λ same. subst (λ x. is_open x older ≡ true) (sym same) h.0.0) (λ a. sleepers_open k older h.1 c a)
sleepers_open k (notes.Woken d ∷ older) h c e = sleepers_open k older h.1 c (awake_at c d Owed (phase c older) (c == d) refl refl e).1
sleepers_open k (notes.Stirred d ∷ older) h c e = sleepers_open k older h.1 c (awake_at c d Awake (phase c older) (c == d) refl refl e).1
sleepers_open k (notes.Took d ∷ older) h c e = sleepers_open k older h.1 c (awake_at c d Awake (phase c older) (c == d) refl refl e).1
sleepers_open k (notes.Withdrew d ∷ older) h c e = sleepers_open k older h.1 c (awake_at c d Awake (phase c older) (c == d) refl refl e).1
sleepers_open k (note ∷ older) h c e = sleepers_open k older h.1 c e

-- ---- what each note does

pub fewer : (test : Ability → Bool) (t : Bool) (xs : List Ability) → list_any test xs ≡ false → list_any test (cond t [] xs) ≡ false
fewer test true xs e = refl
fewer test false xs e = e

left_at : (test : Ability → Bool) (x : Ability) (rest : List Ability) (t : Bool) → test x ≡ false → list_any test rest ≡ false → list_any test (cond t (x ∷ rest) rest) ≡ false
left_at test x rest true e more = ap (λ u. u || list_any test rest) e ∙ more
left_at test x rest false e more = more

filtered : (test keep : Ability → Bool) (xs : List Ability) → list_any test xs ≡ false → list_any test (filter keep xs) ≡ false
filtered test keep [] e = refl
filtered test keep (x ∷ xs) e = let p = or_parts (test x) (list_any test xs) e in left_at test x _ (keep x) p.0 (filtered test keep xs p.1)

pub filtered_if : (test keep : Ability → Bool) (t : Bool) (xs : List Ability) → list_any test xs ≡ false → list_any test (cond t (filter keep xs) xs) ≡ false
filtered_if test keep true xs e = filtered test keep xs e
filtered_if test keep false xs e = e

abbrev is_quiet : Note → Bool
is_quiet (notes.Made m f p u body) = false
is_quiet (notes.Returned m) = false
is_quiet (notes.Can c f t) = false
is_quiet (notes.Slept c) = false
is_quiet note = true

calm_more : (but : ℕ → List ℕ → Type 0) (note : Note) (older : List Note) → is_quiet note ≡ true → CalmBut but older → CalmBut but (note ∷ older)
calm_more but (notes.Made m f p u body) older quiet w c n what a s j = absurd cc
calm_more but (notes.Returned m) older quiet w c n what a s j = absurd cc
calm_more but (notes.Can d f t) older quiet w c n what a s j = absurd cc
calm_more but (notes.Slept d) older quiet w c n what a s j = absurd cc
calm_more but (notes.Opened d addr) older quiet w c n what a s j =
    from (w c n what (awake_at c d Awake (phase c older) (c == d) refl refl a).1 s j) (λ h. inl (fewer (is_of what.function) (c == d) (abilities c older) h)) inr
calm_more but (notes.Closed d) older quiet w c n what a s j =
    from (w c n what (awake_at c d Awake (phase c older) (c == d) refl refl a).1 s j) (λ h. inl (fewer (is_of what.function) (c == d) (abilities c older) h)) inr
calm_more but (notes.Reset d) older quiet w c n what a s j = from (w c n what a s j) (λ h. inl (fewer (is_of what.function) (c == d) (abilities c older) h)) inr
calm_more but (notes.Cant d f) older quiet w c n what a s j =
    from (w c n what a s j) (λ h. inl (filtered_if (is_of what.function) (λ ability. not (is_of f ability)) (c == d) (abilities c older) h)) inr
calm_more but (notes.Woken d) older quiet w c n what a s j = w c n what (awake_at c d Owed (phase c older) (c == d) refl refl a).1 s j
calm_more but (notes.Stirred d) older quiet w c n what a s j = w c n what (awake_at c d Awake (phase c older) (c == d) refl refl a).1 s j
calm_more but (notes.Took d) older quiet w c n what a s j = w c n what (awake_at c d Awake (phase c older) (c == d) refl refl a).1 s j
calm_more but (notes.Withdrew d) older quiet w c n what a s j = w c n what (awake_at c d Awake (phase c older) (c == d) refl refl a).1 s j
calm_more but (notes.Assigned m d late) older quiet w c n what a s j = from (moved n m (states.Running d) (job_state n older) states.Waiting (n == m) refl s) (λ h. absurd (let x = h.1 in cc)) (λ h. w c n what a h.1 j)
calm_more but (notes.Ended m) older quiet w c n what a s j = from (moved n m states.Ended (job_state n older) states.Waiting (n == m) refl s) (λ h. absurd (let x = h.1 in cc)) (λ h. w c n what a h.1 j)
calm_more but (notes.Lost m) older quiet w c n what a s j = from (moved n m states.Lost (job_state n older) states.Waiting (n == m) refl s) (λ h. absurd (let x = h.1 in cc)) (λ h. w c n what a h.1 j)
calm_more but (notes.Discarded m) older quiet w c n what a s j = from (moved n m states.Discarded (job_state n older) states.Waiting (n == m) refl s) (λ h. absurd (let x = h.1 in cc)) (λ h. w c n what a h.1 j)
calm_more but note older quiet w c n what a s j = w c n what a s j

-- who goes to sleep is the only one that may sleep beside work
slept_calm : (d : ℕ) (older : List Note) → CalmBut Never older → CalmBut (λ c f. c ≡ d) (notes.Slept d ∷ older)
slept_calm d older w c n what a s j = from (asleep_at c d (phase c older) (c == d) refl a) inr (λ e. from (w c n what e s j) inl (λ x. absurd x))

put_at : (g f : List ℕ) (t : ℕ) (ability : Ability) (rest more : List Ability) (u : Bool) → bytes_eq f g ≡ false → is_of g ability ≡ false → list_any (is_of g) rest ≡ false → list_any (is_of g) more ≡ false
    → list_any (is_of g) (cond u (record { function = f; timeout = t } ∷ rest) (ability ∷ more)) ≡ false
put_at g f t ability rest more true other a r m = ap (λ x. x || list_any (is_of g) rest) other ∙ r
put_at g f t ability rest more false other a r m = ap (λ x. x || list_any (is_of g) more) a ∙ m

pub put_other : (g f : List ℕ) (t : ℕ) (xs : List Ability) → bytes_eq f g ≡ false → list_any (is_of g) xs ≡ false → list_any (is_of g) (put f t xs) ≡ false
put_other g f t [] other e = ap (λ x. x || false) other
put_other g f t (x ∷ xs) other e =
    let p = or_parts (is_of g x) (list_any (is_of g) xs) e in
    put_at g f t x xs (put f t xs) (is_of f x) other p.0 p.1 (put_other g f t xs other p.1)

can_at : (c d : ℕ) (f g : List ℕ) (t : ℕ) (xs : List Ability) (u v : Bool) → (c == d) ≡ u → bytes_eq f g ≡ v → list_any (is_of g) xs ≡ false → (list_any (is_of g) (cond u (put f t xs) xs) ≡ false) ⊎ ((c ≡ d) × (f ≡ g))
can_at c d f g t xs false v is same e = inl e
can_at c d f g t xs true false is same e = inl (put_other g f t xs same e)
can_at c d f g t xs true true is same e = let there : c ≡ d = grind (arith, nat_tests) in inr (there, (bytes_eq-Decides f g).0 same)

-- who can do a function now may sleep beside a job of it
can_calm : (d : ℕ) (f : List ℕ) (t : ℕ) (older : List Note) → CalmBut Never older → CalmBut (λ c g. (c ≡ d) × (f ≡ g)) (notes.Can d f t ∷ older)
can_calm d f t older w c n what a s j =
    from (w c n what a s j) (λ h. can_at c d f what.function t (abilities c older) (c == d) (bytes_eq f what.function) refl refl h) (λ x. absurd x)

made_at : (n m : ℕ) (new what : Job) (old : JobState) (known : Option Job) (able t : Bool) → unwrap_or (cond t (Some states.Waiting) None) old ≡ states.Waiting → unwrap_or (cond t (Some (Some new)) None) known ≡ Some what
    → (old ≡ states.Waiting → known ≡ Some what → able ≡ false) → (able ≡ false) ⊎ (what.function ≡ new.function)
made_at n m new what old known able true s j more = let same : new ≡ what = cc in inr (ap (λ (x : Job). x.function) (sym same))
made_at n m new what old known able false s j more = inl (more s j)

-- beside a new job who can do it may sleep
made_calm : (m : ℕ) (f : List ℕ) (p : _) (u body : List ℕ) (older : List Note) → CalmBut Never older → CalmBut (λ c g. g ≡ f) (notes.Made m f p u body ∷ older)
made_calm m f p u body older w c n what a s j =
    made_at n m (record { function = f; priority = p; unique = u; body = body }) what (job_state n older) (job n older) (is_able c what.function older) (n == m) s j
    (λ s' j'. from (w c n what a s' j') (λ h. h) (λ x. absurd x))

-- beside a job that waits again who can do it may sleep
returned_calm : (m : ℕ) (back : Job) (older : List Note) → job m older ≡ Some back → CalmBut Never older → CalmBut (λ c g. g ≡ back.function) (notes.Returned m ∷ older)
returned_calm m back older is w c n what a s j =
    from (moved n m states.Waiting (job_state n older) states.Waiting (n == m) refl s)
    (λ h. let there : job m older ≡ Some what = subst (λ x. job x older ≡ Some what) h.0 j in let same : back ≡ what = cc in inr (ap (λ (x : Job). x.function) (sym same)))
    (λ h. from (w c n what a h.1 j) inl (λ x. absurd x))

unknown_calm : (m : ℕ) (older : List Note) → job m older ≡ None → CalmBut Never older → CalmBut Never (notes.Returned m ∷ older)
unknown_calm m older is w c n what a s j =
    from (moved n m states.Waiting (job_state n older) states.Waiting (n == m) refl s)
    (λ h. let there : job m older ≡ Some what = subst (λ x. job x older ≡ Some what) h.0 j in absurd cc)
    (λ h. w c n what a h.1 j)

-- ---- waking

-- who sleeps is open, and one of the slots that there are
abbrev Fit : Settings → List Note → Type 0
Fit k l = (c : ℕ) → is_asleep (phase c l) ≡ true → (is_open c l ≡ true) × (c < k.slots)

woken_fit : (k : Settings) (d : ℕ) (older : List Note) → Fit k older → Fit k (notes.Woken d ∷ older)
woken_fit k d older fit c e = fit c (awake_at c d Owed (phase c older) (c == d) refl refl e).1

abbrev Listed : List ℕ → List ℕ → ℕ → List ℕ → Type 0
Listed f slots c g = (g ≡ f) × In c slots

woken_here : (k : Settings) (f : List ℕ) (d : ℕ) (rest : List ℕ) (past : Past) (t : Bool) → (is_open d past.notes && is_asleep (phase d past.notes) && is_able d f past.notes) ≡ t → Fit k past.notes
    → CalmBut (Listed f (d ∷ rest)) past.notes → CalmBut (Listed f rest) (cond t (with_note (notes.Woken d) past) past).notes
woken_here k f d rest past true is fit w c n what a s j =
    let e = awake_at c d Owed (phase c past.notes) (c == d) refl refl a in
    from (w c n what e.1 s j) inl (λ x. from x.1 (λ same. absurd (not_both c d same e.0)) (λ i. inr (x.0, i)))
woken_here k f d rest past false is fit w c n what a s j =
    from (w c n what a s j) inl
    (λ x. from x.1
    (λ same. inl (ap (λ g. is_able c g past.notes) x.0 ∙ unable (is_open c past.notes) (is_asleep (phase c past.notes)) (is_able c f past.notes) (fit c a).0 a (subst (λ y. (is_open y past.notes && is_asleep (phase y past.notes) && is_able y f past.notes) ≡ false) (sym same) is)))
    (λ i. inr (x.0, i)))
  where
    unable : (o p q : Bool) → o ≡ true → p ≡ true → (o && p && q) ≡ false → q ≡ false
    unable true true q e g is = is
    unable false p q e g is = absurd cc
    unable true false q e g is = absurd cc

wake_each_calm : (k : Settings) (f : List ℕ) (slots : List ℕ) (past : Past) → Fit k past.notes → CalmBut (Listed f slots) past.notes → CalmBut Never (wake_each f slots past).notes × Fit k (wake_each f slots past).notes
wake_each_calm k f [] past fit w = ((λ c n what a s j. from (w c n what a s j) inl (λ x. absurd x.1)), fit)
wake_each_calm k f (d ∷ slots) past fit w =
    let t = is_open d past.notes && is_asleep (phase d past.notes) && is_able d f past.notes in
    wake_each_calm k f slots (wake_one f d past)
    (kept_if (λ l. Fit k l) t (with_note (notes.Woken d) past) past (woken_fit k d past.notes fit) fit)
    (woken_here k f d slots past t refl fit w)

wake_calm : (k : Settings) (f : List ℕ) (past : Past) → Fit k past.notes → CalmBut (λ c g. g ≡ f) past.notes → CalmBut Never (wake k f past).notes × Fit k (wake k f past).notes
wake_calm k f past fit w =
    wake_each_calm k f (slots_from 0 k.slots) past fit
    (λ c n what a s j. from (w c n what a s j) inl (λ same. let lt = (fit c a).1 in inr (same, slot_in c 0 k.slots (omega arith) (omega arith))))

-- ---- submissions

module _ (k : Settings) (c : ℕ) where
  wanted_calm : (but : ℕ → List ℕ → Type 0) (sub : Submission) (n : ℕ) (past : Past) → CalmBut but past.notes → CalmBut but (keep_or_listen c sub n past).notes
  wanted_calm but sub n past w =
      kept_if (λ l. CalmBut but l) sub.background (with_note (notes.Kept n) past) (with_note (notes.Listens n c) past) (calm_more but (notes.Kept n) past.notes refl w) (calm_more but (notes.Listens n c) past.notes refl w)

  make_calm : (sub : Submission) (o : Option ℕ) (past : Past) → Fit k past.notes → CalmBut Never past.notes → CalmBut Never (make k c sub o past).notes
  make_calm sub None past fit w = w
  make_calm sub (Some n) past fit w =
      let f = sub.function in
      let one = with_mention f past in
      let two = with_note (notes.Made n f sub.priority sub.unique sub.body) one in
      let w_one : CalmBut Never one.notes = kept_if (λ l. CalmBut Never l) (is_mentioned f past.notes) past (with_note (notes.Mention f) past) w w in
      let fit_one : Fit k one.notes = kept_if (λ l. Fit k l) (is_mentioned f past.notes) past (with_note (notes.Mention f) past) fit fit in
      let fit_three : Fit k (keep_or_listen c sub n two).notes = kept_if (λ l. Fit k l) sub.background (with_note (notes.Kept n) two) (with_note (notes.Listens n c) two) fit_one fit_one in
      (wake_calm k f _ fit_three (wanted_calm (λ d g. g ≡ f) sub n two (made_calm n f sub.priority sub.unique sub.body one.notes w_one))).0

  joins_calm : (sub : Submission) (o : Option ℕ) (past : Past) → Fit k past.notes → CalmBut Never past.notes → CalmBut Never (join_or_make k c sub o past).notes
  joins_calm sub (Some n) past fit w = wanted_calm Never sub n past w
  joins_calm sub None past fit w =
      kept_if (λ l. CalmBut Never l) (is_one_too_many k sub.function past.notes) (refuse c (codes "too_many_functions") past) _ w
      (kept_if (λ l. CalmBut Never l) (is_full sub.function past.notes) (refuse c (codes "queue_full") past) (make k c sub (next_number k past.notes) past) w (make_calm sub (next_number k past.notes) past fit w))

  submit_calm : (sub : Submission) (past : Past) → Fit k past.notes → CalmBut Never past.notes → CalmBut Never (submit k c sub past).notes
  submit_calm sub past fit w = kept_if (λ l. CalmBut Never l) (is_bad_name sub.function) (refuse c (codes "bad_function") past) _ w (joins_calm sub (joined sub.function sub.unique past.notes) past fit w)

  -- ---- abilities and sleep

  enabled_calm : (f : List ℕ) (t : ℕ) (past : Past) (u : Bool) → (is_asleep (phase c past.notes) && not (is_empty (waiting_for f past.notes))) ≡ u → CalmBut Never past.notes
      → CalmBut Never (wake_if u c (with_note (notes.Can c f t) (with_mention f past))).notes
  enabled_calm f t past true is w d n what a s j =
      let one = with_mention f past in
      let w_one : CalmBut Never one.notes = kept_if (λ l. CalmBut Never l) (is_mentioned f past.notes) past (with_note (notes.Mention f) past) w w in
      let e = awake_at d c Owed (phase d one.notes) (d == c) refl refl a in
      from (can_calm c f t one.notes w_one d n what e.1 s j) inl (λ x. absurd (not_both d c x.0 e.0))
  enabled_calm f t past false is w d n what a s j =
      let one = with_mention f past in
      let w_one : CalmBut Never one.notes = kept_if (λ l. CalmBut Never l) (is_mentioned f past.notes) past (with_note (notes.Mention f) past) w w in
      let a_past : is_asleep (phase d past.notes) ≡ true = subst (λ p. is_asleep p ≡ true) (kept_if (λ l. phase d l ≡ phase d past.notes) (is_mentioned f past.notes) past (with_note (notes.Mention f) past) refl refl) a in
      let s_past : job_state n past.notes ≡ states.Waiting = sym (kept_if (λ l. job_state n l ≡ job_state n past.notes) (is_mentioned f past.notes) past (with_note (notes.Mention f) past) refl refl) ∙ s in
      let j_past : job n past.notes ≡ Some what = sym (kept_if (λ l. job n l ≡ job n past.notes) (is_mentioned f past.notes) past (with_note (notes.Mention f) past) refl refl) ∙ j in
      from (can_calm c f t one.notes w_one d n what a s j) inl
      (λ x. absurd (nothing (is_asleep (phase c past.notes)) (is_empty (waiting_for f past.notes)) is (subst (λ y. is_asleep (phase y past.notes) ≡ true) x.0 a_past)
      (subst (λ g. is_empty (waiting_for g past.notes) ≡ false) (sym x.1) (something_waits n past.notes what s_past j_past))))
    where
      nothing : (p q : Bool) → (p && not q) ≡ false → p ≡ true → q ≡ false → ⊥
      nothing true true e g h = let bad : ⊥ = cc in bad
      nothing true false e g h = let bad : ⊥ = cc in bad
      nothing false q e g h = let bad : ⊥ = cc in bad

  can_do_calm : (f : List ℕ) (t : ℕ) (past : Past) → CalmBut Never past.notes → CalmBut Never (can_do k c f t past).notes
  can_do_calm f t past w =
      kept_if (λ l. CalmBut Never l) (is_bad_name f) (refuse c (codes "bad_function") past) _ w
      (kept_if (λ l. CalmBut Never l) (is_one_too_many k f past.notes) (refuse c (codes "too_many_functions") past) (add_ability c f t past) w
      (enabled_calm f t past (is_asleep (phase c past.notes) && not (is_empty (waiting_for f past.notes))) refl w))

  beside_calm : (o : Option Pick) (past : Past) → pick k c past.notes ≡ o → CalmBut Never past.notes → CalmBut Never (sleep_beside o c (with_note (notes.Slept c) past)).notes
  beside_calm None past is w d n what a s j =
      from (slept_calm c past.notes w d n what a s j) inl (λ same. inl (ap (λ x. is_able x what.function past.notes) same ∙ no_pick k c n past.notes what is s j))
  beside_calm (Some found) past is w d n what a s j =
      let e = awake_at d c Owed (phase d (notes.Slept c ∷ past.notes)) (d == c) refl refl a in
      from (slept_calm c past.notes w d n what e.1 s j) inl (λ same. absurd (not_both d c same e.0))

  pre_sleep_calm : (past : Past) → CalmBut Never past.notes → CalmBut Never (pre_sleep k c past).notes
  pre_sleep_calm past w = kept_if (λ l. CalmBut Never l) (is_awake (phase c past.notes)) (sleep_beside (pick k c past.notes) c (with_note (notes.Slept c) past)) past (beside_calm (pick k c past.notes) past refl w) w

  -- ---- a closing

  wakes_for_calm : (n : ℕ) (o : Option Job) (past : Past) → job n past.notes ≡ o → Fit k past.notes → CalmBut Never past.notes
      → CalmBut Never (wake_for k o (with_note (notes.Returned n) past)).notes × Fit k (wake_for k o (with_note (notes.Returned n) past)).notes
  wakes_for_calm n None past is fit w = (unknown_calm n past.notes is w, fit)
  wakes_for_calm n (Some back) past is fit w = wake_calm k back.function (with_note (notes.Returned n) past) fit (returned_calm n back past.notes is w)

  returned_or_lost_calm : (t : Bool) (n : ℕ) (past : Past) → Fit k past.notes → CalmBut Never past.notes
      → CalmBut Never (cond t (with_note (notes.Lost n) past) (wake_for k (job n past.notes) (with_note (notes.Returned n) past))).notes
      × Fit k (cond t (with_note (notes.Lost n) past) (wake_for k (job n past.notes) (with_note (notes.Returned n) past))).notes
  returned_or_lost_calm true n past fit w = (calm_more Never (notes.Lost n) past.notes refl w, fit)
  returned_or_lost_calm false n past fit w = wakes_for_calm n (job n past.notes) past refl fit w

  given_back_calm : (t u : Bool) (n : ℕ) (past : Past) → Fit k past.notes → CalmBut Never past.notes
      → CalmBut Never (cond t (cond u (return_or_lose k n past) (with_note (notes.Discarded n) past)) past).notes
      × Fit k (cond t (cond u (return_or_lose k n past) (with_note (notes.Discarded n) past)) past).notes
  given_back_calm true true n past fit w = returned_or_lost_calm (is_last_try k n past.notes) n past fit w
  given_back_calm true false n past fit w = (calm_more Never (notes.Discarded n) past.notes refl w, fit)
  given_back_calm false u n past fit w = (w, fit)

  gives_back_calm : (jobs : List ℕ) (past : Past) → Fit k past.notes → CalmBut Never past.notes → CalmBut Never (give_back_each k c jobs past).notes
  gives_back_calm [] past fit w = w
  gives_back_calm (n ∷ jobs) past fit w =
      let r = given_back_calm (is_running_at c (job_state n past.notes)) (is_wanted n past.notes) n past fit w in
      gives_back_calm jobs (give_back_one k c n past) r.1 r.0

  discards_calm : (jobs : List ℕ) (past : Past) → Fit k past.notes → CalmBut Never past.notes → CalmBut Never (discard_each jobs past).notes × Fit k (discard_each jobs past).notes
  discards_calm [] past fit w = (w, fit)
  discards_calm (n ∷ jobs) past fit w =
      let t = is_waiting (job_state n past.notes) && not (is_wanted n past.notes) in
      discards_calm jobs (discard_one n past)
      (kept_if (λ l. Fit k l) t (with_note (notes.Discarded n) past) past fit fit)
      (kept_if (λ l. CalmBut Never l) t (with_note (notes.Discarded n) past) past (calm_more Never (notes.Discarded n) past.notes refl w) w)

  stirred_fit : (past : Past) → Fit k past.notes → Fit k (wake_itself c past).notes
  stirred_fit past fit = kept_if (λ l. Fit k l) (is_asleep (phase c past.notes)) (with_note (notes.Stirred c) past) past (λ d e. fit d (awake_at d c Awake (phase d past.notes) (d == c) refl refl e).1) fit

  closed_fit : (l : List Note) → Fit k l → Fit k (notes.Closed c ∷ l)
  closed_fit l fit d e =
      let a = awake_at d c Awake (phase d l) (d == c) refl refl e in let f = fit d a.1 in (still_open (is_open d l) (d == c) a.0 f.0, f.1)

  close_calm : (past : Past) → Fit k past.notes → CalmBut Never past.notes → CalmBut Never (close k c past).notes
  close_calm past fit w =
      let w_one : CalmBut Never (wake_itself c past).notes = kept_if (λ l. CalmBut Never l) (is_asleep (phase c past.notes)) (with_note (notes.Stirred c) past) past (calm_more Never (notes.Stirred c) past.notes refl w) w in
      let r = discards_calm (rising past) (disconnect c past) (closed_fit (wake_itself c past).notes (stirred_fit past fit)) (calm_more Never (notes.Closed c) (wake_itself c past).notes refl w_one) in
      gives_back_calm (rising past) (discard_each (rising past) (disconnect c past)) r.1 r.0

-- ---- steps

abbrev pub is_stirring : Kind → Bool
is_stirring kind = is_submission kind || is_enabling kind || is_sleeping kind

-- a step that is no closing, submission, new ability or sleep adds quiet notes
quiet_notes : (k : Settings) (before : List Note) (s : Step) (note : Note) (older : List Note) → is_close s ≡ false → is_request is_submission s ≡ false → is_request is_enabling s ≡ false → is_request is_sleeping s ≡ false → Caused k before s note older → is_quiet note ≡ true
quiet_notes k before s (notes.Made m f p u body) older a b c d cause = absurd (both_not (is_request is_submission s) (made_request k before s m f p u body older cause) b)
quiet_notes k before s (notes.Returned m) older a b c d cause = absurd (both_not (is_close s) (ap is_close cause.1) a)
quiet_notes k before s (notes.Can e f t) older a b c d cause = absurd (both_not (is_request is_enabling s) (asks_some is_enabling e s (can_asks k before s e f t older cause)) c)
quiet_notes k before s (notes.Slept e) older a b c d cause = absurd (both_not (is_request is_sleeping s) (asks_some is_sleeping e s cause) d)
quiet_notes k before s note older a b c d cause = refl

quiet_calm : (k : Settings) (s : Step) (start : Past) → is_close s ≡ false → is_request is_submission s ≡ false → is_request is_enabling s ≡ false → is_request is_sleeping s ≡ false
    → History k start.notes → CalmBut Never start.notes → CalmBut Never (step k s start).notes
quiet_calm k s start a b c d h w =
    (step_keeps start s
    (keeps_notes (λ l. CalmBut Never l) (λ note older allowed cause g p. calm_more Never note older (quiet_notes k start.notes s note older a b c d cause) p))
    (λ c e g u. u) (h, w)).1

request_calm : (k : Settings) (c : ℕ) (start : Past) → Fit k start.notes → CalmBut Never start.notes → (kind : Kind) (a : List (List ℕ)) (timeout : ℕ) → is_stirring kind ≡ true → CalmBut Never (request k c kind a timeout start).notes
request_calm k c start fit w SubmitJob a timeout e = submit_calm k c (submission Normal false a) start fit w
request_calm k c start fit w SubmitJobBg a timeout e = submit_calm k c (submission Normal true a) start fit w
request_calm k c start fit w SubmitJobHigh a timeout e = submit_calm k c (submission High false a) start fit w
request_calm k c start fit w SubmitJobHighBg a timeout e = submit_calm k c (submission High true a) start fit w
request_calm k c start fit w SubmitJobLow a timeout e = submit_calm k c (submission Low false a) start fit w
request_calm k c start fit w SubmitJobLowBg a timeout e = submit_calm k c (submission Low true a) start fit w
request_calm k c start fit w CanDo a timeout e = can_do_calm k c (first a) 0 start w
request_calm k c start fit w CanDoTimeout a timeout e = can_do_calm k c (first a) timeout start w
request_calm k c start fit w PreSleep a timeout e = pre_sleep_calm k c start w
request_calm k c start fit w kind a timeout e = absurd cc

-- the kinds apart
apart_kinds : (o : Option Kind) → is_one_of is_stirring o ≡ false → (is_one_of is_submission o ≡ false) × (is_one_of is_enabling o ≡ false) × (is_one_of is_sleeping o ≡ false)
apart_kinds None e = (refl, refl, refl)
apart_kinds (Some kind) e =
    let p = or_parts (is_submission kind || is_enabling kind) (is_sleeping kind) e in let q = or_parts (is_submission kind) (is_enabling kind) p.0 in (q.0, q.1, p.1)

packet_calm : (k : Settings) (c number : ℕ) (bytes : List ℕ) (start : Past) (t : Bool) → is_one_of is_stirring (kind_of number) ≡ t → History k start.notes → Fit k start.notes → CalmBut Never start.notes
    → CalmBut Never (step k (Packet c number bytes) start).notes
packet_calm k c number bytes start true is h fit w =
    taken_or_not (λ past. CalmBut Never past.notes) (refusal k (Packet c number bytes) start) (packet_of k c (kind_of number) bytes start) start
    (λ taken. packet_of_kinds (λ l. CalmBut Never l) k c is_stirring bytes start w (request_calm k c start fit w) (kind_of number) is) w
packet_calm k c number bytes start false is h fit w =
    let a = apart_kinds (kind_of number) is in quiet_calm k (Packet c number bytes) start refl a.0 a.1 a.2 h w

step_calm : (k : Settings) (s : Step) (start : Past) → History k start.notes → Fit k start.notes → CalmBut Never start.notes → CalmBut Never (step k s start).notes
step_calm k (Close c) start h fit w = taken_or_not (λ past. CalmBut Never past.notes) (refusal k (Close c) start) (close k c start) start (λ taken. close_calm k c start fit w) w
step_calm k (Packet c number bytes) start h fit w = packet_calm k c number bytes start (is_one_of is_stirring (kind_of number)) refl h fit w
step_calm k s start h fit w = quiet_calm k s start refl refl refl refl h w

fits : (k : Settings) (l : List Note) → History k l → Fit k l
fits k l h c e = let o = sleepers_open k l h c e in (o, slots k l h c o)

pub run_calm : (k : Settings) (steps : List Step) → CalmBut Never (run k steps).notes
run_calm k [] c n what a s j = absurd cc
run_calm k (s ∷ steps) c n what a g j =
    let start = run k steps in
    step_calm k s start (run_history k steps) (fits k start.notes (run_history k steps)) (run_calm k steps) c n what a g j

pub none_sleeps : (k : Settings) (steps : List Step) → NoOneSleepsBesideWork k (run k steps).notes
none_sleeps k steps c n what a s j = from (run_calm k steps c n what a s j) (λ h. h) (λ x. absurd x)
