-- Who submits a job in the foreground listens to it, and is told of its end.
use Rattle.std.proofs.Common.{◌≡◌, ◌⊎◌, inl, inr, ℕ, suc, ◌<◌, Bool, true, false, cond, not, List, [], ◌∷◌, ◌++◌, ◌||◌, length, filter, drop, get_or}
use Rattle.std.proofs.Common.{Option, Some, None, refl, sym, ap, subst, ◌∙◌, arith}
use Rattle.std.specs.Prelude.{◌==◌, codes, unwrap_or}
use Rattle.std.specs.List.{list_all}
use Rattle.std.proofs.lemmas.Bool.{and_parts, or_left}
use Rattle.std.proofs.lemmas.Bool.Decides.{nat_tests}
use Rattle.std.proofs.lemmas.List.{append-nil, append_cancel_left}
use Rattle.gm_packet.specs.declared.kind.Kind.{Kind}
use Rattle.gm_packet.specs.Kinds.{kind_of}
use Rattle.gm_packet.specs.Packets.{packet}
use Rattle.gm_packet.specs.Requests.{Asked, read_as}
use Rattle.gm_packet.specs.Answers.{Answer, answer_packet, job_created, error}
use Rattle.gm_notes.specs.Flow.{Queued}
use Rattle.gm_notes.specs.declared.note.Note.{Note}
use Rattle.gm_notes.specs.declared.note.Note.TheVariants as notes
use Rattle.gm_notes.specs.Settings.{Settings}
use Rattle.gm_notes.specs.Notes.{takes_units}
use Rattle.gm_notes.specs.Jobs.{job_state, listeners, handle, is_kept}
use Rattle.gm_notes.specs.JobStates.{JobState, is_live}
use Rattle.gm_notes.specs.JobStates as states
use Rattle.gm_notes.specs.Past.{Past, refuse}
use Rattle.gm_notes.specs.Texts.{spaced}
use Rattle.gm_notes.specs.Requests.{packet_of, request, request_if_read}
use Rattle.gm_notes.specs.Steps.{Step, Packet, Close, unless_not_open, run, step}
use Rattle.gm_history.specs.History.{Allowed, History}
use Rattle.gm_history.specs.Causes.{Caused, is_foreground, is_background, is_one_of, asks, closes, JustQueues}
use Rattle.gm_laws.specs.Turns.{One}
use Rattle.gm_laws.specs.Listeners.{outputs, Queues, Tells, WhoStaysIsTold}
use Rattle.gm_history.specs.Hearing.{listens}
use Rattle.gm_laws.proofs.JobLaws.{has_place, unmade, live_place, place_still}
use Rattle.gm_laws.proofs.Moving.{from, both_not}
use Rattle.gm_laws.proofs.Endings.{all_told}
use Rattle.gm_history.proofs.Caused.{note_law}
use Rattle.gm_laws.proofs.StepLaws.{discards}
use Rattle.gm_history.proofs.Asking.{kind_read}
use Rattle.gm_laws.proofs.Created.{foreground_apart, Answered, request_answered}
use Rattle.gm_history.proofs.StepsKeep.{taken_or_not, run_history}
use Rattle.gm_notes.proofs.Numbers.{same_number}
use Rattle.std.proofs.lemmas.Bool.{eqb-true}

-- ---- what is said of a submission

-- a JOB_CREATED says its handle, and is no ERROR
created_handle : (a b : List ℕ) → answer_packet (job_created a) ≡ answer_packet (job_created b) → a ≡ b
unfolding packet
created_handle a b e = ap (drop 12) e

eight : ◌≡◌ {A = ℕ} 19 8 → ⊥
eight e = absurd cc

created_error : (code text h : List ℕ) → answer_packet (error code text) ≡ answer_packet (job_created h) → ⊥
unfolding packet
created_error code text h e = eight (ap (λ (l : List ℕ). get_or l 7 0) e)

one_head : {X : Type 0} (x y : X) → x ∷ [] ≡ y ∷ [] → x ≡ y
one_head x y e = cc

-- ---- a submission

-- job n is live, and slot c listens to it
abbrev Listens : ℕ → ℕ → List Note → Type 0
Listens c n l = (is_live (job_state n l) ≡ true) × (0 < listens c n l)

module _ (k : Settings) (c : ℕ) (start : Past) where
  -- where just JOB_CREATED was queued, the job that it names is live, and the slot listens to it
  abbrev Good : Past → Type 0
  Good past = (text : List ℕ) → Queues c (answer_packet (job_created text) ∷ []) start past → (n : ℕ) × (text ≡ handle k n) × Listens c n past.notes

  nothing_good : Good start
  nothing_good text e =
      let none : [] ≡ answer_packet (job_created text) ∷ [] = append_cancel_left (outputs c start.flow) [] (answer_packet (job_created text) ∷ []) (append-nil (outputs c start.flow) ∙ e) in
      absurd cc

  -- what was queued is what was given
  one_given : (answer : Answer) (past : Past) (text : List ℕ) → JustQueues c answer start past → Queues c (answer_packet (job_created text) ∷ []) start past → answer_packet answer ≡ answer_packet (job_created text)
  one_given answer past text just e =
      let bytes = answer_packet answer in
      let given : outputs c (Queued c bytes ∷ start.flow) ≡ outputs c start.flow ++ bytes ∷ [] = rw (same_number c) refl in
      one_head bytes (answer_packet (job_created text)) (append_cancel_left (outputs c start.flow) (bytes ∷ []) (answer_packet (job_created text) ∷ []) (sym given ∙ (ap (outputs c) (sym just) ∙ e)))

  error_good : (code text : List ℕ) (past : Past) → JustQueues c (error code text) start past → Good past
  error_good code text past just h e = absurd (created_error code text h (one_given (error code text) past h just e))

  answered_good : (asked : Asked) (past : Past) → is_foreground asked.kind ≡ true → Answered k c asked start past → Good past
  answered_good asked past e (inr r) = error_good r.0 r.1 past r.2
  answered_good asked past e (inl r) = λ text given. (r.n, sym (created_handle (handle k r.n) text (one_given (job_created (handle k r.n)) past text r.queued given)), (r.lives, from r.keeps (λ b. absurd (foreground_apart asked.kind e b.0)) (λ h. some h.2)))
    where
      some : listens c r.n past.notes ≡ suc (listens c r.n start.notes) → 0 < listens c r.n past.notes
      some more = omega (arith, more)

  packet_good : History k start.notes → (bytes : List ℕ) (o : Option Kind) → is_one_of is_foreground o ≡ true → Good (packet_of k c o bytes start)
  packet_good history bytes None e = absurd cc
  packet_good history bytes (Some kind) e = by (read_as kind bytes) refl
    where
      by : (o : Option Asked) → read_as kind bytes ≡ o → Good (request_if_read k c o start)
      by None is = error_good (codes "bad_arguments") (spaced (codes "bad_arguments")) (refuse c (codes "bad_arguments") start) refl
      by (Some asked) is =
          let heard = ap is_foreground (kind_read kind bytes asked is) ∙ e in
          answered_good asked (request k c asked.kind asked.arguments asked.timeout start) heard
          (request_answered k c start history asked.kind asked.arguments asked.timeout (or_left (is_foreground asked.kind) (is_background asked.kind) heard))

step_good : (k : Settings) (c : ℕ) (start : Past) → History k start.notes → (s : Step) → asks is_foreground c s ≡ true → Good k c start (step k s start)
step_good k c start history (Packet d number bytes) e =
    let parts = and_parts (c == d) (is_one_of is_foreground (kind_of number)) e in
    taken_or_not (Good k c start) (unless_not_open (takes_units d start.notes)) (packet_of k d (kind_of number) bytes start) start
    (λ taken. subst (λ x. Good k c start (packet_of k x (kind_of number) bytes start)) (eqb-true c d parts.0) (packet_good k c start history bytes (kind_of number) parts.1))
    (nothing_good k c start)
step_good k c start history s e = absurd cc

-- ---- while the slot stays

-- job n has a place, and slot c listens to it
abbrev Hears : ℕ → ℕ → List Note → Type 0
Hears c n l = (has_place (job_state n l) ≡ true) × (0 < listens c n l)

module _ (c n : ℕ) where
  abbrev counted : List ℕ → ℕ
  counted slots = length (filter (λ d. c == d) slots)

  counts_more : (d : ℕ) (slots : List ℕ) → 0 < counted slots → 0 < counted (slots ++ d ∷ [])
  counts_more d [] lt = absurd (omega arith)
  counts_more d (x ∷ slots) lt = by (c == x) (counts_more d slots) lt
    where
      by : (t : Bool) → (0 < counted slots → 0 < counted (slots ++ d ∷ [])) → 0 < length (cond t (x ∷ filter (λ e. c == e) slots) (filter (λ e. c == e) slots))
          → 0 < length (cond t (x ∷ filter (λ e. c == e) (slots ++ d ∷ [])) (filter (λ e. c == e) (slots ++ d ∷ [])))
      by true rest h = omega arith
      by false rest h = rest h

  listens_more : (t : Bool) (d : ℕ) (slots : List ℕ) → 0 < counted slots → 0 < counted (cond t (slots ++ d ∷ []) slots)
  listens_more true d slots lt = counts_more d slots lt
  listens_more false d slots lt = lt

  stays_at : (d x : ℕ) (slots left : List ℕ) (same closed : Bool) → (c == x) ≡ same → (x == d) ≡ closed → (c == d) ≡ false → counted left ≡ counted slots
      → counted (cond (not closed) (x ∷ left) left) ≡ length (cond same (x ∷ filter (λ e. c == e) slots) (filter (λ e. c == e) slots))
  stays_at d x slots left true true is was other rest =
      absurd (both_not (c == d) (subst (λ y. (y == d) ≡ true) (sym (eqb-true c x is)) was) other)
  stays_at d x slots left true false is was other rest = rw is (ap suc rest)
  stays_at d x slots left false true is was other rest = rest
  stays_at d x slots left false false is was other rest = rw is rest

  -- another's closing leaves it listening
  stays : (d : ℕ) → (c == d) ≡ false → (slots : List ℕ) → counted (filter (λ x. not (x == d)) slots) ≡ counted slots
  stays d other [] = refl
  stays d other (x ∷ slots) = stays_at d x slots (filter (λ y. not (y == d)) slots) (c == x) (x == d) refl refl other (stays d other slots)

  hears_more : (k : Settings) (note : Note) (older : List Note) → Allowed k note older → History k older → ((d : ℕ) → note ≡ notes.Closed d → (c == d) ≡ false) → Hears c n older → Hears c n (note ∷ older)
  hears_more k (notes.Made m f p u body) older allowed h closes hears = by (n == m) refl
    where
      by : (t : Bool) → (n == m) ≡ t → (has_place (unwrap_or (cond t (Some states.Waiting) None) (job_state n older)) ≡ true) × (0 < counted (cond t [] (listeners n older)))
      by true is =
          let none : job_state n older ≡ states.Unmade = subst (λ x. job_state x older ≡ states.Unmade) (sym (eqb-true n m is)) (unmade k m older h allowed.0) in
          absurd (let bad : has_place states.Unmade ≡ true = subst (λ s. has_place s ≡ true) none hears.0 in cc)
      by false is = hears
  hears_more k (notes.Returned m) older allowed h closes hears = (place_still (n == m) states.Waiting (job_state n older) refl hears.0, hears.1)
  hears_more k (notes.Assigned m d late) older allowed h closes hears = (place_still (n == m) (states.Running d) (job_state n older) refl hears.0, hears.1)
  hears_more k (notes.Lost m) older allowed h closes hears = (place_still (n == m) states.Lost (job_state n older) refl hears.0, hears.1)
  hears_more k (notes.Ended m) older allowed h closes hears = (place_still (n == m) states.Ended (job_state n older) refl hears.0, hears.1)
  hears_more k (notes.Discarded m) older allowed h closes hears = (place_still (n == m) states.Discarded (job_state n older) refl hears.0, hears.1)
  hears_more k (notes.Listens m d) older allowed h closes hears = (hears.0, listens_more (n == m) d (listeners n older) hears.1)
  hears_more k (notes.Closed d) older allowed h closes hears = (hears.0, subst (λ x. 0 < x) (sym (stays d (closes d refl) (listeners n older))) hears.1)
  hears_more k note older allowed h closes hears = hears

not_closed : (c : ℕ) (s : Step) (d : ℕ) → not (closes c s) ≡ true → s ≡ Close d → (c == d) ≡ false
not_closed c s d stays is = turned (c == d) (subst (λ x. not (closes c x) ≡ true) is stays)
  where
    turned : (t : Bool) → not t ≡ true → t ≡ false
    turned true e = absurd cc
    turned false e = refl

module _ (k : Settings) (c n : ℕ) where
  step_hears : (steps : List Step) (s : Step) → not (closes c s) ≡ true → Hears c n (run k steps).notes → Hears c n (run k (s ∷ steps)).notes
  step_hears steps s stays hears =
      note_law k s (run k steps) (run_history k steps) (λ l. Hears c n l)
      (λ note older allowed cause h p. hears_more c n k note older allowed h (λ d is. not_closed c s d stays (subst (λ x. Caused k (run k steps).notes s x older) is cause)) p) hears

  -- who is listened to is wanted
  heard_wanted : (slots : List ℕ) (kept : Bool) → 0 < length (filter (λ d. c == d) slots) → (kept || not (length slots == 0)) ≡ false → ⊥
  heard_wanted [] kept lt e = omega arith
  heard_wanted (d ∷ slots) true lt e = cc
  heard_wanted (d ∷ slots) false lt e = let more : (suc (length slots) == 0) ≡ false = grind (arith, nat_tests) in let bad : ⊥ = cc in bad

  abbrev Follows : List Step → List Step → Type 0
  Follows later earlier = ((is_live (job_state n (run k (later ++ earlier)).notes) ≡ true) × (0 < listens c n (run k (later ++ earlier)).notes)) ⊎ One (Tells k c n) later earlier

  -- once it isn't live any more, it ended in this step and the slot was told
  told_now : (steps : List Step) (s : Step) (state : JobState) → job_state n (run k (s ∷ steps)).notes ≡ state → Listens c n (run k steps).notes → Hears c n (run k (s ∷ steps)).notes
      → (is_live state ≡ true) ⊎ Tells k c n steps s
  told_now steps s states.Unmade is was now = absurd (let bad : has_place states.Unmade ≡ true = subst (λ x. has_place x ≡ true) is now.0 in cc)
  told_now steps s states.Waiting is was now = inl refl
  told_now steps s (states.Running d) is was now = inl refl
  told_now steps s states.Lost is was now = inl refl
  told_now steps s states.Ended is was now =
      from (all_told k s steps n is) (λ e. absurd (let bad : is_live states.Ended ≡ true = subst (λ x. is_live x ≡ true) e was.0 in cc))
      (λ t. let mine = t c in inr (mine.0, mine.1, (mine.2.0, mine.2.1, subst (λ x. 0 < x) (sym mine.2.2) was.1)))
  told_now steps s states.Discarded is was now =
      from (discards k s (run k steps) (run_history k steps) n is) (λ e. absurd (let bad : is_live states.Discarded ≡ true = subst (λ x. is_live x ≡ true) e was.0 in cc))
      (λ t. absurd (heard_wanted (listeners n (run k (s ∷ steps)).notes) (is_kept n (run k (s ∷ steps)).notes) now.1 t.1))

  follows : (later earlier : List Step) → list_all (λ t. not (closes c t)) later ≡ true → Listens c n (run k earlier).notes → Follows later earlier
  follows [] earlier stays was = inl was
  follows (s ∷ later) earlier stays was =
      let parts = and_parts (not (closes c s)) (list_all (λ t. not (closes c t)) later) stays in
      from (follows later earlier parts.1 was)
      (λ good. let now = step_hears (later ++ earlier) s parts.0 (live_place (job_state n (run k (later ++ earlier)).notes) good.0, good.1) in
      from (told_now (later ++ earlier) s (job_state n (run k (s ∷ later ++ earlier)).notes) refl good now) (λ live. inl (live, now.1)) (λ t. inr (inl t)))
      (λ t. inr (inr t))

pub who_stays : WhoStaysIsTold
who_stays k c text earlier later s asked given stays =
    let good = step_good k c (run k earlier) (run_history k earlier) s asked text given in
    (good.0, good.1, from (follows k c good.0 later (s ∷ earlier) stays good.2) (λ h. inl h.0) inr)
