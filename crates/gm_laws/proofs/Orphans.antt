-- Between steps, each waiting job is wanted.
use Rattle.std.proofs.Common.{◌≡◌, ◌⊎◌, inl, inr, ℕ, suc, Bool, true, false, cond, not, ◌&&◌, ◌||◌, List, [], ◌∷◌, ◌++◌}
use Rattle.std.proofs.Common.{length, Option, Some, None, refl, sym, ap, subst, ◌∙◌, arith}
use Rattle.std.specs.Prelude.{◌==◌, unwrap_or, codes}
use Rattle.std.proofs.lemmas.Bool.Decides.{nat_tests}
use Rattle.gm_packet.specs.declared.kind.Kind.{Kind}
use Rattle.gm_packet.specs.declared.kind.Kind.TheVariants.{SubmitJob, SubmitJobBg, SubmitJobHigh, SubmitJobHighBg}
use Rattle.gm_packet.specs.declared.kind.Kind.TheVariants.{SubmitJobLow, SubmitJobLowBg}
use Rattle.gm_packet.specs.Kinds.{kind_of}
use Rattle.gm_notes.specs.declared.states.Priority.TheVariants.{High, Normal, Low}
use Rattle.gm_notes.specs.declared.note.Note.{Note}
use Rattle.gm_notes.specs.declared.note.Note.TheVariants as notes
use Rattle.gm_notes.specs.Settings.{Settings}
use Rattle.gm_notes.specs.Notes.{phase, is_asleep, slots_from}
use Rattle.gm_notes.specs.Jobs.{Job, job_state, job, is_wanted, is_last_try, is_kept, listeners, is_mentioned, joined, next_number}
use Rattle.gm_notes.specs.JobStates.{is_waiting, is_running_at}
use Rattle.gm_notes.specs.JobStates as states
use Rattle.gm_notes.specs.Past.{Past, with_note, refuse, with_mention}
use Rattle.gm_notes.specs.Submissions.{Submission, is_bad_name, is_one_too_many, is_full, keep_or_listen, make, join_or_make, submit}
use Rattle.gm_notes.specs.Workers.{wake_itself}
use Rattle.gm_notes.specs.Requests.{packet_of, submission, request}
use Rattle.gm_notes.specs.Closings.{discard_one, discard_each, wake_for, return_or_lose, give_back_one, give_back_each, disconnect, rising, close}
use Rattle.gm_notes.specs.Steps.{Step, Packet, Close, refusal, step, run}
use Rattle.gm_history.specs.History.{Allowed, History}
use Rattle.gm_history.specs.Causes.{Caused, is_close, is_submission, is_request, is_one_of}
use Rattle.gm_laws.specs.Between.{NoWaitingJobIsOrphaned}
use Rattle.gm_history.proofs.Asking.{made_request}
use Rattle.gm_history.proofs.Keeping.{keeps_notes, kept_if}
use Rattle.gm_laws.proofs.JobLaws.{has_place}
use Rattle.gm_laws.proofs.Moving.{closes_not, both_not, moved, from, not_both, In, placed_rises, wake_each_notes}
use Rattle.gm_history.proofs.StepsKeep.{step_keeps, taken_or_not, packet_of_kinds, run_history}
use Rattle.gm_laws.proofs.Words.{words}

-- each waiting job is wanted, but for these
abbrev WantedSo : (ℕ → Type 0) → List Note → Type 0
WantedSo but l = (n : ℕ) → job_state n l ≡ states.Waiting → (is_wanted n l ≡ true) ⊎ but n

abbrev None_ : ℕ → Type 0
None_ n = ⊥

kept_still : (t older heard : Bool) → (older || heard) ≡ true → (unwrap_or (cond t (Some true) None) older || heard) ≡ true
kept_still true older heard e = refl
kept_still false older heard e = e

is_some : (n : ℕ) → not (suc n == 0) ≡ true
is_some n = let more : (suc n == 0) ≡ false = grind (arith, nat_tests) in ap not more

one_more : (slots : List ℕ) (c : ℕ) → not (length (slots ++ c ∷ []) == 0) ≡ true
one_more [] c = is_some 0
one_more (d ∷ slots) c = is_some (length (slots ++ c ∷ []))

or_true : (a : Bool) → (a || true) ≡ true
or_true true = refl
or_true false = refl

heard_still : (t kept : Bool) (slots : List ℕ) (c : ℕ) → (kept || not (length slots == 0)) ≡ true → (kept || not (length (cond t (slots ++ c ∷ []) slots) == 0)) ≡ true
heard_still true kept slots c e = ap (λ x. kept || x) (one_more slots c) ∙ or_true kept
heard_still false kept slots c e = e

-- all notes but a closing's and a new job's
wanted_more : (but : ℕ → Type 0) (k : Settings) (note : Note) (older : List Note) → ((c : ℕ) → note ≡ notes.Closed c → ⊥) → ((m : ℕ) (f : List ℕ) (p : _) (u body : List ℕ) → note ≡ notes.Made m f p u body → ⊥) → Allowed k note older → WantedSo but older → WantedSo but (note ∷ older)
wanted_more but k (notes.Closed c) older closes makes allowed w n e = absurd (closes c refl)
wanted_more but k (notes.Made m f p u body) older closes makes allowed w n e = absurd (makes m f p u body refl)
wanted_more but k (notes.Kept m) older closes makes allowed w n e = from (w n e) (λ h. inl (kept_still (n == m) (is_kept n older) (not (length (listeners n older) == 0)) h)) inr
wanted_more but k (notes.Listens m c) older closes makes allowed w n e = from (w n e) (λ h. inl (heard_still (n == m) (is_kept n older) (listeners n older) c h)) inr
wanted_more but k (notes.Returned m) older closes makes allowed w n e =
    from (moved n m states.Waiting (job_state n older) states.Waiting (n == m) refl e) (λ h. inl (subst (λ x. is_wanted x older ≡ true) (sym h.0) allowed.1)) (λ h. w n h.1)
wanted_more but k (notes.Assigned m c late) older closes makes allowed w n e = from (moved n m (states.Running c) (job_state n older) states.Waiting (n == m) refl e) (λ h. absurd (let x = h.1 in cc)) (λ h. w n h.1)
wanted_more but k (notes.Ended m) older closes makes allowed w n e = from (moved n m states.Ended (job_state n older) states.Waiting (n == m) refl e) (λ h. absurd (let x = h.1 in cc)) (λ h. w n h.1)
wanted_more but k (notes.Lost m) older closes makes allowed w n e = from (moved n m states.Lost (job_state n older) states.Waiting (n == m) refl e) (λ h. absurd (let x = h.1 in cc)) (λ h. w n h.1)
wanted_more but k (notes.Discarded m) older closes makes allowed w n e = from (moved n m states.Discarded (job_state n older) states.Waiting (n == m) refl e) (λ h. absurd (let x = h.1 in cc)) (λ h. w n h.1)
wanted_more but k note older closes makes allowed w n e = w n e

-- ---- a submission

-- a new job is the only one that may be unwanted
made_wanted : (m : ℕ) (f : List ℕ) (p : _) (u body : List ℕ) (older : List Note) → WantedSo None_ older → WantedSo (λ n. n ≡ m) (notes.Made m f p u body ∷ older)
made_wanted m f p u body older w n e =
    from (moved n m states.Waiting (job_state n older) states.Waiting (n == m) refl e) (λ h. inr h.0)
    (λ h. let other = h.0 in from (w n h.1) (λ x. inl (rw other x)) (λ x. absurd x))

-- it is wanted once it is kept or heard
kept_wanted : (m : ℕ) (older : List Note) → WantedSo (λ n. n ≡ m) older → WantedSo None_ (notes.Kept m ∷ older)
kept_wanted m older w n e =
    from (w n e) (λ h. inl (kept_still (n == m) (is_kept n older) (not (length (listeners n older) == 0)) h))
    (λ same. let is : (n == m) ≡ true = grind (arith, nat_tests) in inl (rw is refl))

heard_wanted : (m c : ℕ) (older : List Note) → WantedSo (λ n. n ≡ m) older → WantedSo None_ (notes.Listens m c ∷ older)
heard_wanted m c older w n e =
    from (w n e) (λ h. inl (heard_still (n == m) (is_kept n older) (listeners n older) c h))
    (λ same. let is : (n == m) ≡ true = grind (arith, nat_tests) in inl (rw is (ap (λ x. is_kept n older || x) (one_more (listeners n older) c) ∙ or_true (is_kept n older))))

module _ (k : Settings) (c : ℕ) (sub : Submission) where
  joined_wanted : (n : ℕ) (past : Past) → WantedSo None_ past.notes → WantedSo None_ (keep_or_listen c sub n past).notes
  joined_wanted n past w =
      kept_if (λ l. WantedSo None_ l) sub.background (with_note (notes.Kept n) past) (with_note (notes.Listens n c) past)
      (λ m e. from (w m e) (λ h. inl (kept_still (m == n) (is_kept m past.notes) (not (length (listeners m past.notes) == 0)) h)) inr)
      (λ m e. from (w m e) (λ h. inl (heard_still (m == n) (is_kept m past.notes) (listeners m past.notes) c h)) inr)

  make_wanted : (o : Option ℕ) (past : Past) → WantedSo None_ past.notes → WantedSo None_ (make k c sub o past).notes
  make_wanted None past w = w
  make_wanted (Some n) past w =
      let f = sub.function in
      let two = with_note (notes.Made n f sub.priority sub.unique sub.body) (with_mention f past) in
      let w_one : WantedSo None_ (with_mention f past).notes = kept_if (λ l. WantedSo None_ l) (is_mentioned f past.notes) past (with_note (notes.Mention f) past) w w in
      let w_two = made_wanted n f sub.priority sub.unique sub.body (with_mention f past).notes w_one in
      wake_each_notes (λ l. WantedSo None_ l) (λ d older p. p) f (slots_from 0 k.slots) _
      (kept_if (λ l. WantedSo None_ l) sub.background (with_note (notes.Kept n) two) (with_note (notes.Listens n c) two) (kept_wanted n two.notes w_two) (heard_wanted n c two.notes w_two))

  joins_wanted : (o : Option ℕ) (past : Past) → WantedSo None_ past.notes → WantedSo None_ (join_or_make k c sub o past).notes
  joins_wanted (Some n) past w = joined_wanted n past w
  joins_wanted None past w =
      kept_if (λ l. WantedSo None_ l) (is_one_too_many k sub.function past.notes) (refuse c (codes "too_many_functions") past) _ w
      (kept_if (λ l. WantedSo None_ l) (is_full sub.function past.notes) (refuse c (codes "queue_full") past) (make k c sub (next_number k past.notes) past) w (make_wanted (next_number k past.notes) past w))

  submit_wanted : (past : Past) → WantedSo None_ past.notes → WantedSo None_ (submit k c sub past).notes
  submit_wanted past w = kept_if (λ l. WantedSo None_ l) (is_bad_name sub.function) (refuse c (codes "bad_function") past) _ w (joins_wanted (joined sub.function sub.unique past.notes) past w)

-- ---- a closing

discard_here : (n : ℕ) (jobs : List ℕ) (past : Past) (t : Bool) → (is_waiting (job_state n past.notes) && not (is_wanted n past.notes)) ≡ t → WantedSo (λ m. In m (n ∷ jobs)) past.notes → WantedSo (λ m. In m jobs) (cond t (with_note (notes.Discarded n) past) past).notes
discard_here n jobs past true is w m e =
    from (moved m n states.Discarded (job_state m past.notes) states.Waiting (m == n) refl e) (λ h. absurd (let x = h.1 in cc))
    (λ h. from (w m h.1) inl (λ x. from x (λ same. absurd (not_both m n same h.0)) inr))
discard_here n jobs past false is w m e =
    from (w m e) inl (λ x. from x (λ same. inl (wanted_here (is_wanted m past.notes) (subst (λ y. (is_waiting (job_state y past.notes) && not (is_wanted y past.notes)) ≡ false) (sym same) is) e)) inr)
  where
    wanted_here : (t : Bool) → (is_waiting (job_state m past.notes) && not t) ≡ false → job_state m past.notes ≡ states.Waiting → t ≡ true
    wanted_here true f g = refl
    wanted_here false f g = let at : (is_waiting states.Waiting && not false) ≡ false = subst (λ p. (is_waiting p && not false) ≡ false) g f in let bad : ⊥ = cc in absurd bad

discards_wanted : (jobs : List ℕ) (past : Past) → WantedSo (λ m. In m jobs) past.notes → WantedSo None_ (discard_each jobs past).notes
discards_wanted [] past w = w
discards_wanted (n ∷ jobs) past w = discards_wanted jobs (discard_one n past) (discard_here n jobs past (is_waiting (job_state n past.notes) && not (is_wanted n past.notes)) refl w)

module _ (k : Settings) (c : ℕ) where
  wakes_for_wanted : (o : Option Job) (past : Past) → WantedSo None_ past.notes → WantedSo None_ (wake_for k o past).notes
  wakes_for_wanted None past w = w
  wakes_for_wanted (Some job) past w = wake_each_notes (λ l. WantedSo None_ l) (λ d older p. p) job.function (slots_from 0 k.slots) past w

  returned_or_lost_wanted : (t : Bool) (n : ℕ) (past : Past) → is_wanted n past.notes ≡ true → WantedSo None_ past.notes
      → WantedSo None_ (cond t (with_note (notes.Lost n) past) (wake_for k (job n past.notes) (with_note (notes.Returned n) past))).notes
  returned_or_lost_wanted true n past is w = λ m e. from (moved m n states.Lost (job_state m past.notes) states.Waiting (m == n) refl e) (λ h. absurd (let x = h.1 in cc)) (λ h. w m h.1)
  returned_or_lost_wanted false n past is w =
      wakes_for_wanted (job n past.notes) (with_note (notes.Returned n) past)
      (λ m e. from (moved m n states.Waiting (job_state m past.notes) states.Waiting (m == n) refl e) (λ h. inl (subst (λ x. is_wanted x past.notes ≡ true) (sym h.0) is)) (λ h. w m h.1))

  given_back_wanted : (t u : Bool) (n : ℕ) (past : Past) → is_wanted n past.notes ≡ u → WantedSo None_ past.notes
      → WantedSo None_ (cond t (cond u (return_or_lose k n past) (with_note (notes.Discarded n) past)) past).notes
  given_back_wanted true true n past is w = returned_or_lost_wanted (is_last_try k n past.notes) n past is w
  given_back_wanted true false n past is w = λ m e. from (moved m n states.Discarded (job_state m past.notes) states.Waiting (m == n) refl e) (λ h. absurd (let x = h.1 in cc)) (λ h. w m h.1)
  given_back_wanted false u n past is w = w

  gives_back_wanted : (jobs : List ℕ) (past : Past) → WantedSo None_ past.notes → WantedSo None_ (give_back_each k c jobs past).notes
  gives_back_wanted [] past w = w
  gives_back_wanted (n ∷ jobs) past w =
      gives_back_wanted jobs (give_back_one k c n past) (given_back_wanted (is_running_at c (job_state n past.notes)) (is_wanted n past.notes) n past refl w)

  close_wanted : (past : Past) → History k past.notes → WantedSo None_ (close k c past).notes
  close_wanted past h =
      let rises : (n : ℕ) → job_state n (wake_itself c past).notes ≡ states.Waiting → In n (rising past) =
      kept_if (λ l. (n : ℕ) → job_state n l ≡ states.Waiting → In n (rising past)) (is_asleep (phase c past.notes)) (with_note (notes.Stirred c) past) past
      (λ n e. placed_rises k past n h (ap has_place e)) (λ n e. placed_rises k past n h (ap has_place e)) in
      gives_back_wanted (rising past) (discard_each (rising past) (disconnect c past)) (discards_wanted (rising past) (disconnect c past) (λ n e. inr (rises n e)))

-- ---- steps

-- a step that is no closing and no submission
quiet_wanted : (k : Settings) (s : Step) (start : Past) → is_close s ≡ false → is_request is_submission s ≡ false → History k start.notes → WantedSo None_ start.notes → WantedSo None_ (step k s start).notes
quiet_wanted k s start closes submits h w =
    (step_keeps start s
    (keeps_notes (λ l. WantedSo None_ l) (λ note older allowed cause g p.
    wanted_more None_ k note older
    (λ c is. closes_not s c closes (subst (λ x. Caused k start.notes s x older) is cause))
    (λ m f pr u body is. both_not (is_request is_submission s) (made_request k start.notes s m f pr u body older (subst (λ x. Caused k start.notes s x older) is cause)) submits) allowed p))
    (λ c e g u. u) (h, w)).1

request_submits : (k : Settings) (c : ℕ) (start : Past) → WantedSo None_ start.notes → (kind : Kind) (a : List (List ℕ)) (timeout : ℕ) → is_submission kind ≡ true → WantedSo None_ (request k c kind a timeout start).notes
request_submits k c start w SubmitJob a timeout e = submit_wanted k c (submission Normal false a) start w
request_submits k c start w SubmitJobBg a timeout e = submit_wanted k c (submission Normal true a) start w
request_submits k c start w SubmitJobHigh a timeout e = submit_wanted k c (submission High false a) start w
request_submits k c start w SubmitJobHighBg a timeout e = submit_wanted k c (submission High true a) start w
request_submits k c start w SubmitJobLow a timeout e = submit_wanted k c (submission Low false a) start w
request_submits k c start w SubmitJobLowBg a timeout e = submit_wanted k c (submission Low true a) start w
request_submits k c start w kind a timeout e = absurd cc

packet_wanted : (k : Settings) (c number : ℕ) (bytes : List ℕ) (start : Past) (t : Bool) → is_one_of is_submission (kind_of number) ≡ t → History k start.notes → WantedSo None_ start.notes
    → WantedSo None_ (step k (Packet c number bytes) start).notes
packet_wanted k c number bytes start true is h w =
    taken_or_not (λ past. WantedSo None_ past.notes) (refusal k (Packet c number bytes) start) (packet_of k c (kind_of number) bytes start) start
    (λ taken. packet_of_kinds (λ l. WantedSo None_ l) k c is_submission bytes start w (request_submits k c start w) (kind_of number) is) w
packet_wanted k c number bytes start false is h w = quiet_wanted k (Packet c number bytes) start refl is h w

step_wanted : (k : Settings) (s : Step) (start : Past) → History k start.notes → WantedSo None_ start.notes → WantedSo None_ (step k s start).notes
step_wanted k (Close c) start h w = taken_or_not (λ past. WantedSo None_ past.notes) (refusal k (Close c) start) (close k c start) start (λ taken. close_wanted k c start h) w
step_wanted k (Packet c number bytes) start h w = packet_wanted k c number bytes start (is_one_of is_submission (kind_of number)) refl h w
step_wanted k s start h w = quiet_wanted k s start refl refl h w

pub run_wanted : (k : Settings) (steps : List Step) → WantedSo None_ (run k steps).notes
run_wanted k [] n e = absurd cc
run_wanted k (s ∷ steps) n e = step_wanted k s (run k steps) (run_history k steps) (run_wanted k steps) n e

pub waits_wanted : (k : Settings) (steps : List Step) (n : ℕ) → job_state n (run k steps).notes ≡ states.Waiting → is_wanted n (run k steps).notes ≡ true
waits_wanted k steps n e = from (run_wanted k steps n e) (λ w. w) (λ x. absurd x)

pub none_orphaned : (k : Settings) (steps : List Step) → NoWaitingJobIsOrphaned k (run k steps).notes
none_orphaned k steps n e = (words.wanted n (run k steps).notes).0 (waits_wanted k steps n e)
