-- What a submission is answered.
use Rattle.std.proofs.Common.{◌≡◌, ◌⊎◌, inl, inr, ℕ, suc, ◌+◌, ◌<◌, ◌≤◌, Bool, true, false, cond, not, ◌&&◌, ◌||◌, List, [], ◌∷◌, ◌++◌, length, filter, Option, Some, None, Ok}
use Rattle.std.proofs.Common.{refl, sym, ap, subst, ◌∙◌, arith}
use Rattle.std.specs.Prelude.{◌==◌, ◌^◌, nat_lt, nat_le, codes, unwrap_or}
use Rattle.std.specs.Str.{bytes_eq}
use Rattle.std.proofs.lemmas.Bool.{and_from}
use Rattle.std.proofs.lemmas.Bool.Decides.{nat_tests}
use Rattle.std.proofs.lemmas.Slice.Eq.{bytes_eq-Decides}
use Rattle.gm_packet.specs.declared.kind.Kind.{Kind}
use Rattle.gm_packet.specs.declared.kind.Kind.TheVariants.{SubmitJob, SubmitJobBg, SubmitJobHigh, SubmitJobHighBg, SubmitJobLow, SubmitJobLowBg}
use Rattle.gm_packet.specs.Kinds.{kind_of}
use Rattle.gm_packet.specs.Requests.{Asked, request_of}
use Rattle.gm_packet.specs.Answers.{answer_packet, job_created}
use Rattle.gm_notes.specs.declared.states.Priority.{Priority}
use Rattle.gm_notes.specs.declared.states.Priority.TheVariants.{High, Normal, Low}
use Rattle.gm_notes.specs.declared.note.Note.{Note}
use Rattle.gm_notes.specs.declared.note.Note.TheVariants as notes
use Rattle.gm_notes.specs.Settings.{Settings}
use Rattle.gm_notes.specs.Notes.{is_open, phase, is_asleep, takes_units, slots_from}
use Rattle.gm_notes.specs.Flow.{Flow, Queued}
use Rattle.gm_notes.specs.Jobs.{Job, job_state, job, is_kept, listeners, made, functions, is_mentioned, is_able, limit, total, is_job_named, joins, joined, next_number, handle}
use Rattle.gm_notes.specs.JobStates.{is_live}
use Rattle.gm_notes.specs.Past.{Past, with_note, give, refuse, with_mention, wake, wake_one, wake_each}
use Rattle.gm_notes.specs.Texts.{spaced}
use Rattle.gm_notes.specs.Submissions.{Submission, max_name, is_bad_name, is_one_too_many, is_full, keep_or_listen, make, join_or_make, submit}
use Rattle.gm_notes.specs.Requests.{first, second, third, submission, request, packet_of}
use Rattle.gm_notes.specs.Steps.{Packet, step, run}
use Rattle.gm_history.specs.History.{History}
use Rattle.gm_history.specs.Causes.{is_foreground, is_background, is_submission, priority_of, JustQueues}
use Rattle.gm_history.specs.Laws.{InEachStep}
use Rattle.gm_history.specs.Hearing.{listens}
use Rattle.gm_laws.specs.Submitted.{JoinsNone, IsNew, JoinsOrMakes, KeepsOrListens, IsCreated, HasNoRoom, IsLong, IsBadName, HasBadName, IsTurnedDown, SubmissionsAreAnswered}
use Rattle.gm_history.proofs.Asking.{packet_does}
use Rattle.gm_history.proofs.Finding.{joined_is}
use Rattle.gm_laws.proofs.JobLaws.{none_joins, unmade}
use Rattle.gm_history.proofs.Keeping.{kept_if, counted}
use Rattle.gm_laws.proofs.Moving.{from, wake_each_notes}
use Rattle.gm_history.proofs.StepsKeep.{run_history}
use Rattle.gm_laws.proofs.StepLaws.{taken_is}
use Rattle.gm_laws.proofs.Unmade.{unmade_is}
use Rattle.gm_notes.proofs.Numbers.{same_number}
use Rattle.std.proofs.lemmas.Bool.{eqb-true}

-- ---- what queues nothing

flow_if : (t : Bool) (a b : Past) (flow : List Flow) → a.flow ≡ flow → b.flow ≡ flow → (cond t a b).flow ≡ flow
flow_if true a b flow p q = p
flow_if false a b flow p q = q

pub wakes_flow : (f slots : List ℕ) (past : Past) → (wake_each f slots past).flow ≡ past.flow
wakes_flow f [] past = refl
wakes_flow f (d ∷ slots) past =
    wakes_flow f slots (wake_one f d past)
    ∙ flow_if (is_open d past.notes && is_asleep (phase d past.notes) && is_able d f past.notes) (with_note (notes.Woken d) past) past past.flow refl refl

pub mention_flow : (f : List ℕ) (past : Past) → (with_mention f past).flow ≡ past.flow
mention_flow f past = flow_if (is_mentioned f past.notes) past (with_note (notes.Mention f) past) past.flow refl refl

pub kept_flow : (c : ℕ) (sub : Submission) (n : ℕ) (past : Past) → (keep_or_listen c sub n past).flow ≡ past.flow
kept_flow c sub n past = flow_if sub.background (with_note (notes.Kept n) past) (with_note (notes.Listens n c) past) past.flow refl refl

-- ---- who listens

counts_one_more : (c : ℕ) (slots : List ℕ) → counted c (slots ++ c ∷ []) ≡ suc (counted c slots)
counts_one_more c [] = rw (same_number c) refl
counts_one_more c (d ∷ slots) = by (c == d) (counts_one_more c slots)
  where
    by : (t : Bool) → counted c (slots ++ c ∷ []) ≡ suc (counted c slots)
        → length (cond t (d ∷ filter (λ e. c == e) (slots ++ c ∷ [])) (filter (λ e. c == e) (slots ++ c ∷ []))) ≡ suc (length (cond t (d ∷ filter (λ e. c == e) slots) (filter (λ e. c == e) slots)))
    by true rest = ap suc rest
    by false rest = rest

listens_once_more : (c n : ℕ) (older : List Note) → listens c n (notes.Listens n c ∷ older) ≡ suc (listens c n older)
listens_once_more c n older = rw (same_number n) (counts_one_more c (listeners n older))

-- ---- why it is refused

pub bad_name : (f : List ℕ) → is_bad_name f ≡ true → IsBadName f
bad_name [] e = inl refl
bad_name (b ∷ f) e = inr (by (suc (length f) == 0) (nat_lt max_name (suc (length f))) refl refl e)
  where
    by : (t u : Bool) → (suc (length f) == 0) ≡ t → nat_lt max_name (suc (length f)) ≡ u → (t || u) ≡ true → IsLong (b ∷ f)
    by true u none lt e = absurd (let some : (suc (length f) == 0) ≡ false = grind (arith, nat_tests) in let bad : true ≡ false = sym none ∙ some in cc)
    by false true none lt e = grind (arith, nat_tests)
    by false false none lt e = absurd cc

pub too_many : (k : Settings) (f : List ℕ) (l : List Note) → is_one_too_many k f l ≡ true → (is_mentioned f l ≡ false) × (k.max_functions ≤ length (functions l))
too_many k f l e = by (is_mentioned f l) (nat_le k.max_functions (length (functions l))) refl e
  where
    by : (t u : Bool) → nat_le k.max_functions (length (functions l)) ≡ u → (not t && u) ≡ true → (t ≡ false) × (k.max_functions ≤ length (functions l))
    by false true le e = (refl, grind (arith, nat_tests))
    by false false le e = absurd cc
    by true u le e = absurd cc

pub full : (f : List ℕ) (l : List Note) → is_full f l ≡ true → (0 < limit f l) × (limit f l ≤ total f l)
full f l e = by (limit f l == 0) (nat_le (limit f l) (total f l)) refl refl e
  where
    by : (t u : Bool) → (limit f l == 0) ≡ t → nat_le (limit f l) (total f l) ≡ u → (not t && u) ≡ true → (0 < limit f l) × (limit f l ≤ total f l)
    by false true some le e = (grind (arith, nat_tests), grind (arith, nat_tests))
    by false false some le e = absurd cc
    by true u some le e = absurd cc

pub no_number : (k : Settings) (l : List Note) → next_number k l ≡ None → 2 ^ 64 ≤ k.first_job + length (made l)
no_number k l e = by (nat_lt (k.first_job + length (made l)) (2 ^ 64)) refl e
  where
    by : (t : Bool) → nat_lt (k.first_job + length (made l)) (2 ^ 64) ≡ t → cond t (Some (k.first_job + length (made l))) None ≡ None → 2 ^ 64 ≤ k.first_job + length (made l)
    by true lt e = absurd cc
    by false lt e = grind (arith, nat_tests)

-- ---- what joins

pub joins_so : (u : List ℕ) → joins u ≡ true → (u ≡ [] → ⊥) × (u ≡ codes "-" → ⊥)
joins_so u e = (
  (λ is. let bad : joins [] ≡ true = ap joins (sym is) ∙ e in let worse : ⊥ = cc in worse),
  (λ is. let bad : joins (codes "-") ≡ true = ap joins (sym is) ∙ e in let worse : ⊥ = cc in worse),
)

pub so_joins : (u : List ℕ) → (u ≡ [] → ⊥) → (u ≡ codes "-" → ⊥) → joins u ≡ true
so_joins [] some other = absurd (some refl)
so_joins (b ∷ u) some other = by (bytes_eq (b ∷ u) (codes "-")) refl
  where
    by : (t : Bool) → bytes_eq (b ∷ u) (codes "-") ≡ t → not t ≡ true
    by true is = absurd (other ((bytes_eq-Decides (b ∷ u) (codes "-")).0 is))
    by false is = refl

-- ---- a submission

pub foreground_apart : (kind : Kind) → is_foreground kind ≡ true → is_background kind ≡ true → ⊥
foreground_apart SubmitJob e b = let bad : ⊥ = cc in bad
foreground_apart SubmitJobHigh e b = let bad : ⊥ = cc in bad
foreground_apart SubmitJobLow e b = let bad : ⊥ = cc in bad
foreground_apart kind e b = let bad : ⊥ = cc in bad

-- what keeps the job and who listens to it is the same in both
abbrev pub IsKeptAlike : ℕ → List Note → List Note → Type 0
IsKeptAlike n now before = (is_kept n now ≡ is_kept n before) × (listeners n now ≡ listeners n before)

-- The slot is answered with the handle of a job. This is the only job that may be new, and the only one that is kept or
-- listened to in another way. After a foreground submission the slot listens to it behind the others.
pub record Created (k : Settings) (c : ℕ) (asked : Asked) (start past : Past) : Type 0 where
  pub n : ℕ
  pub queued : JustQueues c (job_created (handle k n)) start past
  pub lives : is_live (job_state n past.notes) ≡ true
  pub how : JoinsOrMakes asked n start past
  pub keeps : KeepsOrListens asked.kind c n start past
  pub others : (m : ℕ) → (job m past.notes ≡ job m start.notes) ⊎ ((m ≡ n) × IsNew asked n start past)
  pub hears : is_foreground asked.kind ≡ true → listeners n past.notes ≡ listeners n start.notes ++ c ∷ []
  pub apart : (m : ℕ) → (m == n) ≡ false → IsKeptAlike m past.notes start.notes

abbrev pub Answered : Settings → ℕ → Asked → Past → Past → Type 0
Answered k c asked start past = Created k c asked start past ⊎ IsTurnedDown k c asked start past

-- only the job that is made is new
one_new : (n m : ℕ) (what : Job) (old : Option Job) (t : Bool) → (m == n) ≡ t → (unwrap_or (cond t (Some (Some what)) None) old ≡ old) ⊎ (m ≡ n)
one_new n m what old true is = inr (eqb-true m n is)
one_new n m what old false is = inl refl

-- another job's notes don't change it
apart_more : (m n c : ℕ) (l before : List Note) → (m == n) ≡ false → IsKeptAlike m l before → IsKeptAlike m (notes.Kept n ∷ l) before × IsKeptAlike m (notes.Listens n c ∷ l) before
apart_more m n c l before other same = (rw other same, rw other same)

module _ (k : Settings) (c : ℕ) (asked : Asked) (start : Past) (history : History k start.notes) (p : Priority) (background : Bool) (priority : priority_of asked.kind ≡ Some p)
    (kept : background ≡ true → is_background asked.kind ≡ true) (heard : background ≡ false → is_foreground asked.kind ≡ true) where
  abbrev a : List (List ℕ)
  a = asked.arguments

  abbrev sub : Submission
  sub = submission p background a

  refuses : (code : List ℕ) → HasBadName asked code ⊎ HasNoRoom k asked start code → Answered k c asked start (refuse c code start)
  refuses code why = inr (code, spaced code, refl, refl, why)

  keeps_or_listens : (n : ℕ) (past : Past) → listens c n past.notes ≡ listens c n start.notes → is_kept n past.notes ≡ is_kept n start.notes → KeepsOrListens asked.kind c n start (keep_or_listen c sub n past)
  keeps_or_listens n past same also = by background refl
    where
      by : (t : Bool) → background ≡ t → KeepsOrListens asked.kind c n start (cond t (with_note (notes.Kept n) past) (with_note (notes.Listens n c) past))
      by true is = inl (kept is, rw (same_number n) refl, same)
      by false is = inr (heard is, also, listens_once_more c n past.notes ∙ ap suc same)

  heard_last : (n : ℕ) (past : Past) → listeners n past.notes ≡ listeners n start.notes → is_foreground asked.kind ≡ true → listeners n (keep_or_listen c sub n past).notes ≡ listeners n start.notes ++ c ∷ []
  heard_last n past same e = by background refl
    where
      by : (t : Bool) → background ≡ t → listeners n (cond t (with_note (notes.Kept n) past) (with_note (notes.Listens n c) past)).notes ≡ listeners n start.notes ++ c ∷ []
      by true is = absurd (foreground_apart asked.kind e (kept is))
      by false is = rw (same_number n) (ap (λ l. l ++ c ∷ []) same)

  joins_it : (n : ℕ) → joined (first a) (second a) start.notes ≡ Some n → Answered k c asked start (give c (job_created (handle k n)) (keep_or_listen c sub n start))
  joins_it n is =
      let j = joined_is (first a) (second a) start.notes n is in
      inl (record {
        n = n;
        queued = ap (λ flow. Queued c (answer_packet (job_created (handle k n))) ∷ flow) (kept_flow c sub n start);
        lives = kept_if (λ l. is_live (job_state n l) ≡ true) background (with_note (notes.Kept n) start) (with_note (notes.Listens n c) start) j.lives j.lives;
        how = (let other = joins_so j.named.0.unique (ap joins (sym j.named.3) ∙ j.joins) in inl (j.named.0, j.named.1, j.lives, (j.named.2, j.named.3), other.0, other.1));
        keeps = keeps_or_listens n start refl refl;
        others = λ m. inl (kept_if (λ l. job m l ≡ job m start.notes) background (with_note (notes.Kept n) start) (with_note (notes.Listens n c) start) refl refl);
        hears = heard_last n start refl;
        apart = λ m other.
            let more = apart_more m n c start.notes start.notes other (refl, refl) in
            kept_if (λ l. IsKeptAlike m l start.notes) background (with_note (notes.Kept n) start) (with_note (notes.Listens n c) start) more.0 more.1;
      })

  -- nothing is there to be joined
  none_there : joined (first a) (second a) start.notes ≡ None → JoinsNone asked start
  none_there none n j =
      let named : is_job_named (first a) (second a) (job n start.notes) ≡ true =
      ap (is_job_named (first a) (second a)) j.1
      ∙ and_from (bytes_eq j.0.function (first a)) (bytes_eq j.0.unique (second a)) ((bytes_eq-Decides j.0.function (first a)).1 (sym j.3.0)) ((bytes_eq-Decides j.0.unique (second a)).1 (sym j.3.1)) in
      none_joins k (first a) (second a) n start.notes history (ap joins j.3.1 ∙ so_joins j.0.unique j.4 j.5) none
      (and_from (is_live (job_state n start.notes)) (is_job_named (first a) (second a) (job n start.notes)) j.2 named)

  makes_it : (o : Option ℕ) → next_number k start.notes ≡ o → joined (first a) (second a) start.notes ≡ None → Answered k c asked start (make k c sub o start)
  makes_it None is none = refuses (codes "no_numbers") (inr (none_there none, inr (inr (refl, no_number k start.notes is))))
  makes_it (Some n) is none =
      let f = first a in
      let what : Job = record { function = f; priority = p; unique = second a; body = third a } in
      let one = with_mention f start in
      let two = with_note (notes.Made n f p (second a) (third a)) one in
      let three = keep_or_listen c sub n two in
      let four = give c (job_created (handle k n)) three in
      let nothing = unmade_is k n start.notes history (unmade k n start.notes history is) in
      let all : (P : List Note → Type 0) → ((d : ℕ) (older : List Note) → P older → P (notes.Woken d ∷ older)) → P (notes.Kept n ∷ two.notes) → P (notes.Listens n c ∷ two.notes) → P (wake k f four).notes =
      λ P more x y. wake_each_notes P more f (slots_from 0 k.slots) four (kept_if P background (with_note (notes.Kept n) two) (with_note (notes.Listens n c) two) x y) in
      let lives : is_live (job_state n two.notes) ≡ true = rw (same_number n) refl in
      let here : job n two.notes ≡ Some what = rw (same_number n) refl in
      let same_heard : listeners n two.notes ≡ listeners n start.notes = rw (same_number n) (sym nothing.unheard) in
      let few : listens c n two.notes ≡ listens c n start.notes = ap (counted c) same_heard in
      let is_new : IsNew asked n start (wake k f four) = (what, all (λ l. job n l ≡ Some what) (λ d older x. x) here here, (priority, refl, refl, refl), nothing.unknown, none_there none) in
      let not_kept : is_kept n two.notes ≡ is_kept n start.notes = rw (same_number n) (sym nothing.unkept) in
      let keeps_so = keeps_or_listens n two few not_kept in
      inl (record {
        n = n;
        queued = wakes_flow f (slots_from 0 k.slots) four ∙ ap (λ flow. Queued c (answer_packet (job_created (handle k n))) ∷ flow) (kept_flow c sub n two ∙ mention_flow f start);
        lives = all (λ l. is_live (job_state n l) ≡ true) (λ d older x. x) lives lives;
        how = inr is_new;
        keeps = wake_each_notes (λ l. ((is_background asked.kind ≡ true) × (is_kept n l ≡ true) × (listens c n l ≡ listens c n start.notes)) ⊎ ((is_foreground asked.kind ≡ true) × (is_kept n l ≡ is_kept n start.notes) × (listens c n l ≡ suc (listens c n start.notes)))) (λ d older x. x) f (slots_from 0 k.slots) four keeps_so;
        others = λ m.
            let same : job m one.notes ≡ job m start.notes = kept_if (λ l. job m l ≡ job m start.notes) (is_mentioned f start.notes) start (with_note (notes.Mention f) start) refl refl in
            from (one_new n m what (job m one.notes) (m == n) refl) (λ e. inl (all (λ l. job m l ≡ job m start.notes) (λ d older x. x) (e ∙ same) (e ∙ same))) (λ e. inr (e, is_new));
        hears = λ e. wake_each_notes (λ l. listeners n l ≡ listeners n start.notes ++ c ∷ []) (λ d older x. x) f (slots_from 0 k.slots) four (heard_last n two same_heard e);
        apart = λ m other.
            let same : IsKeptAlike m one.notes start.notes = kept_if (λ l. IsKeptAlike m l start.notes) (is_mentioned f start.notes) start (with_note (notes.Mention f) start) (refl, refl) (refl, refl) in
            let more = apart_more m n c two.notes start.notes other (rw other same) in
            all (λ l. IsKeptAlike m l start.notes) (λ d older x. x) more.0 more.1;
      })

  joins_or_makes : (o : Option ℕ) → joined (first a) (second a) start.notes ≡ o → Answered k c asked start (join_or_make k c sub o start)
  joins_or_makes (Some n) is = joins_it n is
  joins_or_makes None is = by (is_one_too_many k (first a) start.notes) (is_full (first a) start.notes) refl refl
    where
      by : (t u : Bool) → is_one_too_many k (first a) start.notes ≡ t → is_full (first a) start.notes ≡ u
          → Answered k c asked start (cond t (refuse c (codes "too_many_functions") start) (cond u (refuse c (codes "queue_full") start) (make k c sub (next_number k start.notes) start)))
      by true u many fills = let m = too_many k (first a) start.notes many in refuses (codes "too_many_functions") (inr (none_there is, inl (refl, m.0, m.1)))
      by false true many fills = let m = full (first a) start.notes fills in refuses (codes "queue_full") (inr (none_there is, inr (inl (refl, m.0, m.1))))
      by false false many fills = makes_it (next_number k start.notes) refl is

  submits_it : Answered k c asked start (submit k c sub start)
  submits_it = by (is_bad_name (first a)) refl
    where
      by : (t : Bool) → is_bad_name (first a) ≡ t → Answered k c asked start (cond t (refuse c (codes "bad_function") start) (join_or_make k c sub (joined (first a) (second a) start.notes) start))
      by true bad = refuses (codes "bad_function") (inl (refl, bad_name (first a) bad))
      by false good = joins_or_makes (joined (first a) (second a) start.notes) refl

-- ---- steps

pub request_answered : (k : Settings) (c : ℕ) (start : Past) → History k start.notes → (kind : Kind) (a : List (List ℕ)) (timeout : ℕ) → is_submission kind ≡ true
    → Answered k c (record { kind = kind; arguments = a; timeout = timeout }) start (request k c kind a timeout start)
request_answered k c start h SubmitJob a timeout e = submits_it k c (record { kind = SubmitJob; arguments = a; timeout = timeout }) start h Normal false refl (λ x. absurd cc) (λ x. refl)
request_answered k c start h SubmitJobBg a timeout e = submits_it k c (record { kind = SubmitJobBg; arguments = a; timeout = timeout }) start h Normal true refl (λ x. refl) (λ x. absurd cc)
request_answered k c start h SubmitJobHigh a timeout e = submits_it k c (record { kind = SubmitJobHigh; arguments = a; timeout = timeout }) start h High false refl (λ x. absurd cc) (λ x. refl)
request_answered k c start h SubmitJobHighBg a timeout e = submits_it k c (record { kind = SubmitJobHighBg; arguments = a; timeout = timeout }) start h High true refl (λ x. refl) (λ x. absurd cc)
request_answered k c start h SubmitJobLow a timeout e = submits_it k c (record { kind = SubmitJobLow; arguments = a; timeout = timeout }) start h Low false refl (λ x. absurd cc) (λ x. refl)
request_answered k c start h SubmitJobLowBg a timeout e = submits_it k c (record { kind = SubmitJobLowBg; arguments = a; timeout = timeout }) start h Low true refl (λ x. refl) (λ x. absurd cc)
request_answered k c start h kind a timeout e = absurd cc

pub packet_answered : (k : Settings) (start : Past) → History k start.notes → (c number : ℕ) (bytes : List ℕ) (asked : Asked) → takes_units c start.notes ≡ true → request_of number bytes ≡ Ok asked → is_submission asked.kind ≡ true
    → Answered k c asked start (step k (Packet c number bytes) start)
packet_answered k start h c number bytes asked takes reads e =
    subst (Answered k c asked start) (sym (taken_is (takes_units c start.notes) (packet_of k c (kind_of number) bytes start) start takes ∙ packet_does bytes asked k c start (kind_of number) reads))
    (request_answered k c start h asked.kind asked.arguments asked.timeout e)

pub submissions_answered : InEachStep SubmissionsAreAnswered
submissions_answered k steps (Packet d number bytes) c asked takes (is, reads) e = by (subst (λ d. Answered k c asked (run k steps) (run k (Packet d number bytes ∷ steps))) is
    (packet_answered k (run k steps) (run_history k steps) c number bytes asked takes reads e))
  where
    by : Answered k c asked (run k steps) (run k (Packet d number bytes ∷ steps)) → IsCreated k c asked (run k steps) (run k (Packet d number bytes ∷ steps)) ⊎ IsTurnedDown k c asked (run k steps) (run k (Packet d number bytes ∷ steps))
    by (inl r) = inl (r.n, r.queued, r.lives, r.how, r.keeps)
    by (inr r) = inr r
submissions_answered k steps other c asked takes asks e = absurd asks
