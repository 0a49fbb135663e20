-- Whatever each small change keeps, each request keeps.
use Rattle.std.proofs.Common.{◌≡◌, inl, inr, ℕ, ◌<◌, Bool, true, false, cond, not, ◌&&◌, ◌||◌, List, [], ◌∷◌, length, filter}
use Rattle.std.proofs.Common.{Option, Some, None, refl, sym, ap, subst, ◌∙◌, arith}
use Rattle.std.specs.Prelude.{codes, ◌==◌, nat_le}
use Rattle.std.specs.List.{list_any}
use Rattle.std.specs.Str.{bytes_eq}
use Rattle.std.proofs.lemmas.Bool.{and_parts, or_left, or_right, not-true}
use Rattle.std.proofs.lemmas.List.Folds.{list_any-append}
use Rattle.std.proofs.lemmas.Slice.Eq.{bytes_eq-Decides}
use Rattle.std.proofs.lemmas.Bool.Decides.{nat_tests}
use Rattle.gm_packet.specs.Requests.{Asked}
use Rattle.gm_packet.specs.Answers.{Answer, answer_packet, job_created, no_job, work_fail}
use Rattle.gm_notes.specs.declared.note.Note.{Note}
use Rattle.gm_notes.specs.declared.note.Note.TheVariants as notes
use Rattle.gm_notes.specs.Settings.{Settings}
use Rattle.gm_notes.specs.Notes.{is_open, phase, is_asleep, is_awake, moment, slots_from}
use Rattle.gm_notes.specs.Flow.{Began, Emptied}
use Rattle.gm_notes.specs.Jobs.{Job, job_state, job, is_able, is_mentioned, is_empty, waiting_for, pick, joined, next_number}
use Rattle.gm_notes.specs.Jobs.{made, handle, is_handle, job_of_handle, listeners, functions, limit, total, abilities, put, is_of, Ability}
use Rattle.gm_notes.specs.declared.states.Pick.{Pick}
use Rattle.gm_notes.specs.JobStates.{JobState, is_running, is_running_at, is_live}
use Rattle.gm_notes.specs.JobStates as states
use Rattle.gm_notes.specs.Past.{Past, with_note, with_flow, with_output, give, refuse, with_mention, tell_all, wake_one, wake_each, wake}
use Rattle.gm_notes.specs.Texts.{error_of, spaced}
use Rattle.gm_notes.specs.Submissions.{Submission, is_bad_name, is_one_too_many, is_full, keep_or_listen, make, join_or_make, submit}
use Rattle.gm_notes.specs.Workers.{wake_if, can_do, cant_do, sleep_beside, pre_sleep, wake_itself, deadline_after, assignment}
use Rattle.gm_notes.specs.Workers.{tell_assigned, give_out, grab, Work, keep_report, end_if, wants_exceptions, hearers, tell_others}
use Rattle.gm_notes.specs.Workers.{tell_work, work_on, work}
use Rattle.gm_notes.specs.Requests.{first, second, third}
use Rattle.gm_notes.specs.Steps.{Step}
use Rattle.gm_history.specs.History.{runs_at_a_slot, IsBelowLimit, HasWork, Allowed, History}
use Rattle.gm_history.specs.Causes.{Caused, Ends, IsOfEnd, IsAssignment, MaySay, PacketAsks, IsFor, Mentions, priority_of, is_ending, is_tick, is_request}
use Rattle.gm_history.specs.Causes.{is_submission, is_foreground, is_background, is_enabling, is_sleeping, is_grab, is_close, asks, closes}
use Rattle.gm_history.specs.Hearing.{AllOpen}
use Rattle.gm_history.specs.Hearing.{listens, MayGet}
use Rattle.gm_history.proofs.Asking.{asks_some, request_asks, submission_kind}
use Rattle.gm_history.proofs.Finding.{found_passes, joined_is, IsNamed, IsWork, work_for, waiting_work, pick_waits, pick_work, stirred_pick}
use Rattle.gm_history.proofs.Listeners.{listeners_open, filtered_open, some_open, open_after}
use Rattle.gm_history.proofs.Sayings.{Other, created_other, assigned_other, error_other, no_job_other}
use Rattle.gm_notes.proofs.Numbers.{same_number}

-- a note that changes no flow: all but openings and closings
abbrev pub is_inner : Note → Bool
is_inner (notes.Opened c addr) = false
is_inner (notes.Closed c) = false
is_inner note = true

-- the step after these notes may queue the bytes to slot c: what tells of an end only for a request that ends a job, or
-- in a tick, and what hands out a job only for a grab
abbrev pub MayQueue : Settings → List Note → Step → ℕ → List ℕ → Type 0
MayQueue k before s c bytes =
    MaySay k before s c bytes × ((answer : Answer) → IsOfEnd k answer → bytes ≡ answer_packet answer → (is_request (is_ending k) s || is_tick s) ≡ true)
    × MayGet k before s c bytes × ((answer : Answer) → IsAssignment answer → bytes ≡ answer_packet answer → is_request is_grab s ≡ true)

-- the step is slot c's, and anything may be answered to it
abbrev pub IsHome : Settings → List Note → Step → ℕ → Type 0
IsHome k before s c = (bytes : List ℕ) → MayGet k before s c bytes

-- what is true of pasts is kept by each small change of a step after these notes
pub record Keeps (k : Settings) (before : List Note) (s : Step) (I : Past → Type 0) : Type 0 where
  pub by_note : (note : Note) (past : Past) → is_inner note ≡ true → Allowed k note past.notes → Caused k before s note past.notes → History k past.notes → I past → I (with_note note past)
  pub by_opening : (c : ℕ) (addr : List ℕ) (past : Past) → Allowed k (notes.Opened c addr) past.notes → Caused k before s (notes.Opened c addr) past.notes → History k past.notes → I past → I (with_flow (Began c) (with_note (notes.Opened c addr) past))
  pub by_closing : (c : ℕ) (past : Past) → is_open c past.notes ≡ true → Caused k before s (notes.Closed c) past.notes → History k past.notes → I past → I (with_flow (Emptied c) (with_note (notes.Closed c) past))
  pub by_saying : (c : ℕ) (bytes : List ℕ) (past : Past) → is_open c past.notes ≡ true → MayQueue k before s c bytes → History k past.notes → I past → I (with_output c bytes past)

-- what is said of the notes alone
pub keeps_notes : {k : Settings} {before : List Note} {s : Step} (P : List Note → Type 0) → ((note : Note) (older : List Note) → Allowed k note older → Caused k before s note older → History k older → P older → P (note ∷ older)) → Keeps k before s (λ past. P past.notes)
keeps_notes P more = record {
  by_note = λ note past inner allowed caused h p. more note past.notes allowed caused h p;
  by_opening = λ c addr past allowed caused h p. more (notes.Opened c addr) past.notes allowed caused h p;
  by_closing = λ c past opened caused h p. more (notes.Closed c) past.notes opened caused h p;
  by_saying = λ c bytes past opened may h p. p;
}

-- true, and each note was allowed
abbrev pub Held : Settings → (Past → Type 0) → Past → Type 0
Held k I past = History k past.notes × I past

pub kept_if : (P : List Note → Type 0) (t : Bool) (a b : Past) → P a.notes → P b.notes → P (cond t a b).notes
kept_if P true a b p q = p
kept_if P false a b p q = q

-- the step is a submission of slot c
pub record MaySubmit (s : Step) (c : ℕ) (sub : Submission) : Type 0 where
  pub asked : Asked
  pub asks : PacketAsks c s asked
  pub priority : priority_of asked.kind ≡ Some sub.priority
  pub function : first asked.arguments ≡ sub.function
  pub unique : second asked.arguments ≡ sub.unique
  pub body : third asked.arguments ≡ sub.body
  pub keeps : sub.background ≡ true → is_background asked.kind ≡ true
  pub hears : sub.background ≡ false → is_foreground asked.kind ≡ true

-- the step may report this of job n: what it may queue to a slot that listens, what may be noted, and whether the job
-- ends
pub record MayReport (k : Settings) (before : List Note) (s : Step) (n : ℕ) (w : Work) (l : List Note) : Type 0 where
  pub tells : (d : ℕ) → 0 < listens d n l → (w.exceptions_only ≡ true → wants_exceptions d l ≡ true) → MayQueue k before s d (answer_packet w.answer)
  pub tells_others : (d : ℕ) → 0 < listens d n l → (w.exceptions_only && w.ends) ≡ true → wants_exceptions d l ≡ false → MayQueue k before s d (answer_packet (work_fail (handle k n)))
  pub reports : (a b : List ℕ) → w.report ≡ Some (a, b) → Caused k before s (notes.Report n a b) l
  pub ends : w.ends ≡ true → Ends k before s n

-- what runs at a slot runs
pub slot_runs : (p : JobState) → runs_at_a_slot p ≡ true → is_running p ≡ true
slot_runs (states.Running c) e = refl
slot_runs other e = absurd cc

pub runs_somewhere : (c : ℕ) (p : JobState) → is_running_at c p ≡ true → runs_at_a_slot p ≡ true
runs_somewhere c (states.Running d) e = refl
runs_somewhere c other e = absurd cc

pub runs_there : (c : ℕ) (p : JobState) → is_running_at c p ≡ true → p ≡ states.Running c
runs_there c (states.Running d) e = let same : c ≡ d = grind (arith, nat_tests) in ap states.Running (sym same)
runs_there c states.Unmade e = absurd cc
runs_there c states.Waiting e = absurd cc
runs_there c states.Lost e = absurd cc
runs_there c states.Ended e = absurd cc
runs_there c states.Discarded e = absurd cc

-- ---- functions and their limits

-- there is room for a function that isn't mentioned
pub room : (k : Settings) (f : List ℕ) (l : List Note) → is_one_too_many k f l ≡ false → is_mentioned f l ≡ false → length (functions l) < k.max_functions
room k f l few new = grind (arith, nat_tests, few, new)

below_limit : (f : List ℕ) (l : List Note) → is_full f l ≡ false → IsBelowLimit f l
below_limit f l e = by (limit f l == 0) (nat_le (limit f l) (total f l)) refl refl e
  where
    by : (t u : Bool) → (limit f l == 0) ≡ t → nat_le (limit f l) (total f l) ≡ u → (not t && u) ≡ false → IsBelowLimit f l
    by true u is less e = let none : limit f l ≡ 0 = grind (arith, nat_tests) in inl none
    by false true is less e = absurd cc
    by false false is less e = let lt : total f l < limit f l = grind (arith, nat_tests) in inr lt

mentioned_now : (f : List ℕ) (l : List Note) → is_mentioned f (notes.Mention f ∷ l) ≡ true
mentioned_now f l =
    list_any-append (λ g. bytes_eq g f) (functions l) (f ∷ [])
    ∙ or_right (list_any (λ g. bytes_eq g f) (functions l)) (bytes_eq f f || false) (or_left (bytes_eq f f) false ((bytes_eq-Decides f f).1 refl))

pub mentioned : (f : List ℕ) (past : Past) → is_mentioned f (with_mention f past).notes ≡ true
mentioned f past = by (is_mentioned f past.notes) refl
  where
    by : (t : Bool) → is_mentioned f past.notes ≡ t → is_mentioned f (cond t past (with_note (notes.Mention f) past)).notes ≡ true
    by true is = is
    by false is = mentioned_now f past.notes

-- who is made able to do a function can do it
pub put_able : (f : List ℕ) (t : ℕ) (all : List Ability) → list_any (is_of f) (put f t all) ≡ true
put_able f t [] = or_left (bytes_eq f f) false ((bytes_eq-Decides f f).1 refl)
put_able f t (ability ∷ all) = by (is_of f ability) (put_able f t all)
  where
    by : (u : Bool) → list_any (is_of f) (put f t all) ≡ true → list_any (is_of f) (cond u (record { function = f; timeout = t } ∷ all) (ability ∷ put f t all)) ≡ true
    by true rest = or_left (bytes_eq f f) (list_any (is_of f) all) ((bytes_eq-Decides f f).1 refl)
    by false rest = or_right (is_of f ability) (list_any (is_of f) (put f t all)) rest

able_now : (c : ℕ) (f : List ℕ) (t : ℕ) (l : List Note) → is_able c f (notes.Can c f t ∷ l) ≡ true
able_now c f t l = rw (same_number c) (put_able f t (abilities c l))

-- ---- slots in a list

-- how often slot d stands in the list
abbrev pub counted : ℕ → List ℕ → ℕ
counted d slots = length (filter (λ e. d == e) slots)

counts_first : (d : ℕ) (slots : List ℕ) → 0 < counted d (d ∷ slots)
counts_first d slots = rw (same_number d) (omega arith)

counts_later : (d c : ℕ) (slots : List ℕ) → 0 < counted d slots → 0 < counted d (c ∷ slots)
counts_later d c slots lt = by (d == c)
  where
    by : (t : Bool) → 0 < length (cond t (c ∷ filter (λ e. d == e) slots) (filter (λ e. d == e) slots))
    by true = omega arith
    by false = lt

-- who stands in what is left of a list stands in the list
counts_more : (test : ℕ → Bool) (d : ℕ) (slots : List ℕ) → 0 < counted d (filter test slots) → 0 < counted d slots
counts_more test d [] lt = lt
counts_more test d (c ∷ slots) lt = by (test c) (d == c) refl (counts_more test d slots) lt
  where
    by : (t u : Bool) → (d == c) ≡ u → (0 < counted d (filter test slots) → 0 < counted d slots) → 0 < counted d (cond t (c ∷ filter test slots) (filter test slots))
        → 0 < length (cond u (c ∷ filter (λ e. d == e) slots) (filter (λ e. d == e) slots))
    by t true is rest h = omega arith
    by true false is rest h = rest (rw is at h)
    by false false is rest h = rest h

-- and passes the test
counts_passed : (test : ℕ → Bool) (d : ℕ) (slots : List ℕ) → 0 < counted d (filter test slots) → test d ≡ true
counts_passed test d [] lt = absurd (omega (arith, lt))
counts_passed test d (c ∷ slots) lt = by (test c) (d == c) refl refl (counts_passed test d slots) lt
  where
    by : (t u : Bool) → test c ≡ t → (d == c) ≡ u → (0 < counted d (filter test slots) → test d ≡ true) → 0 < counted d (cond t (c ∷ filter test slots) (filter test slots)) → test d ≡ true
    by true true passes is rest h = let same : d ≡ c = grind (arith, nat_tests) in ap test same ∙ passes
    by true false passes is rest h = rest (rw is at h)
    by false u passes is rest h = rest h

pub hears_listens : (only : Bool) (d : ℕ) (slots : List ℕ) (l : List Note) → 0 < counted d (hearers only slots l) → 0 < counted d slots
hears_listens true d slots l lt = counts_more (λ c. wants_exceptions c l) d slots lt
hears_listens false d slots l lt = lt

hears_wants : (only : Bool) (d : ℕ) (slots : List ℕ) (l : List Note) → 0 < counted d (hearers only slots l) → only ≡ true → wants_exceptions d l ≡ true
hears_wants true d slots l lt e = counts_passed (λ c. wants_exceptions c l) d slots lt
hears_wants false d slots l lt e = absurd cc

-- a handle is the text that names its job
pub handled_is : (k : Settings) (text : List ℕ) (l : List Note) (n : ℕ) → job_of_handle k text l ≡ Some n → text ≡ handle k n
handled_is k text l n e = sym ((bytes_eq-Decides (handle k n) text).0 (found_passes (is_handle k text) (made l) n e))

-- telling adds no note
pub tell_all_notes : (answer : Answer) (slots : List ℕ) (past : Past) → (tell_all answer slots past).notes ≡ past.notes
tell_all_notes answer [] past = refl
tell_all_notes answer (c ∷ slots) past = tell_all_notes answer slots (give c answer past)

pub tell_others_notes : (t : Bool) (answer : Answer) (slots : List ℕ) (l : List Note) (past : Past) → (tell_others t answer slots l past).notes ≡ past.notes
tell_others_notes true answer slots l past = tell_all_notes answer (filter (λ c. not (wants_exceptions c l)) slots) past
tell_others_notes false answer slots l past = refl

module _ {k : Settings} {before : List Note} {s : Step} {I : Past → Type 0} (K : Keeps k before s I) where
  pub held_if : (t : Bool) (a b : Past) → (t ≡ true → Held k I a) → (t ≡ false → Held k I b) → Held k I (cond t a b)
  held_if true a b p q = p refl
  held_if false a b p q = q refl

  pub note_keeps : (note : Note) (past : Past) → is_inner note ≡ true → Allowed k note past.notes → Caused k before s note past.notes → Held k I past → Held k I (with_note note past)
  note_keeps note past inner allowed caused h = ((allowed, h.0), K.by_note note past inner allowed caused h.0 h.1)

  pub says_keeps : (c : ℕ) (bytes : List ℕ) (past : Past) → is_open c past.notes ≡ true → MayQueue k before s c bytes → Held k I past → Held k I (with_output c bytes past)
  says_keeps c bytes past opened may h = (h.0, K.by_saying c bytes past opened may h.0 h.1)

  pub not_said : (c : ℕ) (bytes : List ℕ) → Other bytes → MayGet k before s c bytes → MayQueue k before s c bytes
  not_said c bytes other gets = ((λ e. absurd (other.0 e)), (λ answer ends e. absurd (other.1 k answer ends e)), gets, (λ answer gives e. absurd (other.2 answer gives e)))

  pub tells_keeps : (answer : Answer) (slots : List ℕ) (past : Past) → ((d : ℕ) → 0 < counted d slots → MayQueue k before s d (answer_packet answer)) → AllOpen slots past.notes → Held k I past
      → Held k I (tell_all answer slots past)
  tells_keeps answer [] past may all h = h
  tells_keeps answer (c ∷ slots) past may all h =
      tells_keeps answer slots (give c answer past) (λ d lt. may d (counts_later d c slots lt)) all.1 (says_keeps c (answer_packet answer) past all.0 (may c (counts_first c slots)) h)

  -- ---- waking and mentioning

  wake_one_keeps : (f : List ℕ) (c : ℕ) (past : Past) → ((c : ℕ) (older : List Note) → Caused k before s (notes.Woken c) older) → IsWork f past.notes → Held k I past → Held k I (wake_one f c past)
  wake_one_keeps f c past wakes work h =
      held_if (is_open c past.notes && is_asleep (phase c past.notes) && is_able c f past.notes) (with_note (notes.Woken c) past) past
      (λ e. let p = and_parts (is_open c past.notes && is_asleep (phase c past.notes)) (is_able c f past.notes) e in
      let q = and_parts (is_open c past.notes) (is_asleep (phase c past.notes)) p.0 in
      note_keeps (notes.Woken c) past refl (q.0, q.1, work_for c f past.notes work p.1) (wakes c past.notes) h)
      (λ e. h)

  wake_each_keeps : (f : List ℕ) (slots : List ℕ) (past : Past) → ((c : ℕ) (older : List Note) → Caused k before s (notes.Woken c) older) → IsWork f past.notes → Held k I past → Held k I (wake_each f slots past)
  wake_each_keeps f [] past wakes work h = h
  wake_each_keeps f (c ∷ slots) past wakes work h =
      wake_each_keeps f slots (wake_one f c past) wakes
      (kept_if (IsWork f) (is_open c past.notes && is_asleep (phase c past.notes) && is_able c f past.notes) (with_note (notes.Woken c) past) past work work)
      (wake_one_keeps f c past wakes work h)

  pub wake_keeps : (f : List ℕ) (past : Past) → ((c : ℕ) (older : List Note) → Caused k before s (notes.Woken c) older) → IsWork f past.notes → Held k I past → Held k I (wake k f past)
  wake_keeps f past wakes work h = wake_each_keeps f (slots_from 0 k.slots) past wakes work h

  pub mentions_keeps : (f : List ℕ) (past : Past) → Mentions s f → is_one_too_many k f past.notes ≡ false → Held k I past → Held k I (with_mention f past)
  mentions_keeps f past may few h =
      held_if (is_mentioned f past.notes) past (with_note (notes.Mention f) past) (λ e. h)
      (λ e. note_keeps (notes.Mention f) past refl (e, room k f past.notes few e) may h)

  pub stir_keeps : (c : ℕ) (past : Past) → (asks is_grab c s || closes c s) ≡ true → Held k I past → Held k I (wake_itself c past)
  stir_keeps c past may h =
      held_if (is_asleep (phase c past.notes)) (with_note (notes.Stirred c) past) past (λ e. note_keeps (notes.Stirred c) past refl e may h) (λ e. h)

  -- ---- what slot c asks

  module _ (c : ℕ) (home : IsHome k before s c) where
    pub gives_keeps : (answer : Answer) (past : Past) → is_open c past.notes ≡ true → Other (answer_packet answer) → Held k I past → Held k I (give c answer past)
    gives_keeps answer past opened other h = says_keeps c (answer_packet answer) past opened (not_said c (answer_packet answer) other (home (answer_packet answer))) h

    pub refuses_keeps : (code : List ℕ) (past : Past) → is_open c past.notes ≡ true → Held k I past → Held k I (refuse c code past)
    refuses_keeps code past opened h = gives_keeps (error_of code) past opened (error_other code (spaced code)) h

    -- ---- submissions

    module _ (sub : Submission) (may : MaySubmit s c sub) where
      makes : is_request is_submission s ≡ true
      makes = request_asks is_submission c s may.asked may.asks (submission_kind may.asked.kind sub.priority may.priority)

      wanted_keeps : (n : ℕ) (past : Past) → is_live (job_state n past.notes) ≡ true → IsNamed sub.function sub.unique (job n past.notes) → is_open c past.notes ≡ true → Held k I past
          → Held k I (keep_or_listen c sub n past)
      wanted_keeps n past live named opened h =
          let for : IsFor may.asked named.0 = (may.function ∙ named.2, may.unique ∙ named.3) in
          held_if sub.background (with_note (notes.Kept n) past) (with_note (notes.Listens n c) past)
          (λ e. note_keeps (notes.Kept n) past refl live (c, may.asked, may.asks, may.keeps e, named.0, named.1, for) h)
          (λ e. note_keeps (notes.Listens n c) past refl (live, opened) (may.asked, may.asks, may.hears e, named.0, named.1, for) h)

      wanted_open : (n : ℕ) (past : Past) → is_open c past.notes ≡ true → is_open c (keep_or_listen c sub n past).notes ≡ true
      wanted_open n past opened = kept_if (λ l. is_open c l ≡ true) sub.background (with_note (notes.Kept n) past) (with_note (notes.Listens n c) past) opened opened

      makes_keeps : (o : Option ℕ) (past : Past) → is_open c past.notes ≡ true → next_number k past.notes ≡ o → joined sub.function sub.unique past.notes ≡ None
          → is_one_too_many k sub.function past.notes ≡ false → is_full sub.function past.notes ≡ false → Held k I past → Held k I (make k c sub o past)
      makes_keeps None past opened next none few below h = refuses_keeps (codes "no_numbers") past opened h
      makes_keeps (Some n) past opened next none few below h =
          let f = sub.function in
          let one = with_mention f past in
          let two = with_note (notes.Made n f sub.priority sub.unique sub.body) one in
          let three = keep_or_listen c sub n two in
          let kept : (P : List Note → Type 0) → P past.notes → P (notes.Mention f ∷ past.notes) → P one.notes = λ P p q. kept_if P (is_mentioned f past.notes) past (with_note (notes.Mention f) past) p q in
          let opened_one = kept (λ l. is_open c l ≡ true) opened opened in
          let next_one = kept (λ l. next_number k l ≡ Some n) next next in
          let none_one = kept (λ l. joined f sub.unique l ≡ None) none none in
          let limit_past = below_limit f past.notes below in
          let limit_one = kept (IsBelowLimit f) limit_past limit_past in
          let what : Job = record { function = f; priority = sub.priority; unique = sub.unique; body = sub.body } in
          let live : is_live (job_state n two.notes) ≡ true = rw (same_number n) refl in
          let here : job n two.notes ≡ Some what = rw (same_number n) refl in
          let waits : job_state n two.notes ≡ states.Waiting = rw (same_number n) refl in
          let kind = submission_kind may.asked.kind sub.priority may.priority in
          let mentions : Mentions s f = inl (c, may.asked, may.asks, or_left (is_submission may.asked.kind) (is_enabling may.asked.kind) kind, may.function) in
          let held_two = note_keeps (notes.Made n f sub.priority sub.unique sub.body) one refl (next_one, none_one, mentioned f past, limit_one)
          (c, may.asked, may.asks, (may.priority, may.function, may.unique, may.body)) (mentions_keeps f past mentions few h) in
          let held_three = wanted_keeps n two live (what, here, refl, refl) opened_one held_two in
          let held_four = gives_keeps (job_created (handle k n)) three (wanted_open n two opened_one) (created_other (handle k n)) held_three in
          let work : IsWork f three.notes = kept_if (IsWork f) sub.background (with_note (notes.Kept n) two) (with_note (notes.Listens n c) two) (n, what, waits, here, refl) (n, what, waits, here, refl) in
          wake_keeps f (give c (job_created (handle k n)) three)
          (λ d older. or_left (is_request is_submission s || asks is_enabling d s || asks is_sleeping d s) (is_close s) (or_left (is_request is_submission s || asks is_enabling d s) (asks is_sleeping d s) (or_left (is_request is_submission s) (asks is_enabling d s) makes)))
          work held_four

      joins_keeps : (o : Option ℕ) (past : Past) → is_open c past.notes ≡ true → joined sub.function sub.unique past.notes ≡ o → Held k I past → Held k I (join_or_make k c sub o past)
      joins_keeps (Some n) past opened is h =
          let joined = joined_is sub.function sub.unique past.notes n is in
          gives_keeps (job_created (handle k n)) (keep_or_listen c sub n past) (wanted_open n past opened) (created_other (handle k n))
          (wanted_keeps n past joined.lives joined.named opened h)
      joins_keeps None past opened is h =
          held_if (is_one_too_many k sub.function past.notes) (refuse c (codes "too_many_functions") past) _ (λ e. refuses_keeps (codes "too_many_functions") past opened h)
          (λ e. held_if (is_full sub.function past.notes) (refuse c (codes "queue_full") past) _ (λ g. refuses_keeps (codes "queue_full") past opened h)
          (λ g. makes_keeps (next_number k past.notes) past opened refl is e g h))

      pub submit_keeps : (past : Past) → is_open c past.notes ≡ true → Held k I past → Held k I (submit k c sub past)
      submit_keeps past opened h =
          held_if (is_bad_name sub.function) (refuse c (codes "bad_function") past) _ (λ e. refuses_keeps (codes "bad_function") past opened h)
          (λ e. joins_keeps (joined sub.function sub.unique past.notes) past opened refl h)

    -- ---- workers

    woken_keeps : (t : Bool) (past : Past) → Caused k before s (notes.Woken c) past.notes → (t ≡ true → (is_open c past.notes ≡ true) × (is_asleep (phase c past.notes) ≡ true) × HasWork c past.notes) → Held k I past → Held k I (wake_if t c past)
    woken_keeps true past may a h = note_keeps (notes.Woken c) past refl (a refl) may h
    woken_keeps false past may a h = h

    pub can_do_keeps : (f : List ℕ) (t : ℕ) (past : Past) → asks is_enabling c s ≡ true → Mentions s f → Caused k before s (notes.Can c f t) (with_mention f past).notes → is_open c past.notes ≡ true → Held k I past
        → Held k I (can_do k c f t past)
    can_do_keeps f t past may mentions can opened h =
        let one = with_mention f past in
        let two = with_note (notes.Can c f t) one in
        let kept : (P : List Note → Type 0) → P past.notes → P (notes.Mention f ∷ past.notes) → P one.notes = λ P p q. kept_if P (is_mentioned f past.notes) past (with_note (notes.Mention f) past) p q in
        let opened_one = kept (λ l. is_open c l ≡ true) opened opened in
        let wakes = is_asleep (phase c past.notes) && not (is_empty (waiting_for f past.notes)) in
        held_if (is_bad_name f) (refuse c (codes "bad_function") past) _ (λ e. refuses_keeps (codes "bad_function") past opened h)
        (λ e. held_if (is_one_too_many k f past.notes) (refuse c (codes "too_many_functions") past) _ (λ g. refuses_keeps (codes "too_many_functions") past opened h)
        (λ g. woken_keeps wakes two
        (or_left (is_request is_submission s || asks is_enabling c s || asks is_sleeping c s) (is_close s) (or_left (is_request is_submission s || asks is_enabling c s) (asks is_sleeping c s) (or_right (is_request is_submission s) (asks is_enabling c s) may)))
        (λ w. let p = and_parts (is_asleep (phase c past.notes)) (not (is_empty (waiting_for f past.notes))) w in
        let work = waiting_work f past.notes (unless (is_empty (waiting_for f past.notes)) p.1) in
        (opened_one, kept (λ l. is_asleep (phase c l) ≡ true) p.0 p.0, work_for c f two.notes (kept (IsWork f) work work) (able_now c f t one.notes)))
        (note_keeps (notes.Can c f t) one refl (opened_one, mentioned f past) can (mentions_keeps f past mentions g h))))
      where
        unless : (t : Bool) → not t ≡ true → t ≡ false
        unless true e = absurd cc
        unless false e = refl

    pub cant_do_keeps : (f : List ℕ) (past : Past) → Caused k before s (notes.Cant c f) past.notes → is_open c past.notes ≡ true → Held k I past → Held k I (cant_do c f past)
    cant_do_keeps f past may opened h =
        held_if (is_bad_name f) (refuse c (codes "bad_function") past) (with_note (notes.Cant c f) past) (λ e. refuses_keeps (codes "bad_function") past opened h)
        (λ e. note_keeps (notes.Cant c f) past refl opened may h)

    sleep_beside_keeps : (o : Option Pick) (past : Past) → asks is_sleeping c s ≡ true → is_open c past.notes ≡ true → is_asleep (phase c past.notes) ≡ true → ((found : Pick) → o ≡ Some found → HasWork c past.notes) → Held k I past
        → Held k I (sleep_beside o c past)
    sleep_beside_keeps None past may opened asleep work h = h
    sleep_beside_keeps (Some found) past may opened asleep work h =
        note_keeps (notes.Woken c) past refl (opened, asleep, work found refl)
        (or_left (is_request is_submission s || asks is_enabling c s || asks is_sleeping c s) (is_close s) (or_right (is_request is_submission s || asks is_enabling c s) (asks is_sleeping c s) may)) h

    pub pre_sleep_keeps : (past : Past) → asks is_sleeping c s ≡ true → is_open c past.notes ≡ true → Held k I past → Held k I (pre_sleep k c past)
    pre_sleep_keeps past may opened h =
        let one = with_note (notes.Slept c) past in
        let asleep : is_asleep (phase c one.notes) ≡ true = rw (same_number c) refl in
        held_if (is_awake (phase c past.notes)) (sleep_beside (pick k c past.notes) c one) past
        (λ e. sleep_beside_keeps (pick k c past.notes) one may opened asleep (λ found is. pick_work k c found past.notes is) (note_keeps (notes.Slept c) past refl (opened, e) may h))
        (λ e. h)

    assigned_keeps : (uniq : Bool) (n : ℕ) (o : Option Job) (past : Past) → asks is_grab c s ≡ true → is_open c past.notes ≡ true → Held k I past → Held k I (tell_assigned k c uniq n o past)
    assigned_keeps uniq n None past may opened h = h
    assigned_keeps uniq n (Some job) past may opened h =
        let other = assigned_other k uniq n job in
        says_keeps c (answer_packet (assignment k uniq n job)) past opened
        ((λ e. absurd (other.0 e)), (λ answer ends e. absurd (other.1 k answer ends e)), home (answer_packet (assignment k uniq n job)), (λ answer gives e. asks_some is_grab c s may)) h

    gives_out_keeps : (uniq : Bool) (o : Option Pick) (past : Past) → asks is_grab c s ≡ true → pick k c before ≡ o → is_open c past.notes ≡ true → pick k c past.notes ≡ o → Held k I past → Held k I (give_out k c uniq o past)
    gives_out_keeps uniq None past may first opened is h =
        says_keeps c (answer_packet no_job) past opened ((λ e. (may, first)), (λ answer ends e. absurd (no_job_other.0 k answer ends e)), home (answer_packet no_job), (λ answer gives e. absurd (no_job_other.1 answer gives e))) h
    gives_out_keeps uniq (Some found) past may first opened is h =
        let one = with_note (notes.Assigned found.job c (deadline_after (moment past.notes) found.timeout)) past in
        assigned_keeps uniq found.job (job found.job past.notes) one may opened
        (note_keeps (notes.Assigned found.job c (deadline_after (moment past.notes) found.timeout)) past refl (pick_waits k c found past.notes is, opened, (found, is, refl)) (may, (found, first, refl)) h)

    pub grab_keeps : (uniq : Bool) (past : Past) → asks is_grab c s ≡ true → pick k c before ≡ pick k c past.notes → is_open c past.notes ≡ true → Held k I past → Held k I (grab k c uniq past)
    grab_keeps uniq past may first opened h =
        gives_out_keeps uniq (pick k c past.notes) (wake_itself c past) may first
        (kept_if (λ l. is_open c l ≡ true) (is_asleep (phase c past.notes)) (with_note (notes.Stirred c) past) past opened opened)
        (kept_if (λ l. pick k c l ≡ pick k c past.notes) (is_asleep (phase c past.notes)) (with_note (notes.Stirred c) past) past (stirred_pick k c past.notes) refl)
        (stir_keeps c past (or_left (asks is_grab c s) (closes c s) may) h)

    -- ---- work

    ended_keeps : (t : Bool) (n : ℕ) (past : Past) → (t ≡ true → Ends k before s n) → is_running (job_state n past.notes) ≡ true → Held k I past → Held k I (end_if t n past)
    ended_keeps true n past may running h = note_keeps (notes.Ended n) past refl running (may refl) h
    ended_keeps false n past may running h = h

    report_keeps : (n : ℕ) (o : Option (List ℕ × List ℕ)) (past : Past) → ((a b : List ℕ) → o ≡ Some (a, b) → Caused k before s (notes.Report n a b) past.notes) → runs_at_a_slot (job_state n past.notes) ≡ true → Held k I past
        → Held k I (keep_report n o past)
    report_keeps n None past may running h = h
    report_keeps n (Some numbers) past may running h = note_keeps (notes.Report n numbers.0 numbers.1) past refl running (may numbers.0 numbers.1 refl) h

    report_notes : (P : List Note → Type 0) (n : ℕ) (o : Option (List ℕ × List ℕ)) (past : Past) → P past.notes → ((a b : List ℕ) → P (notes.Report n a b ∷ past.notes)) → P (keep_report n o past).notes
    report_notes P n None past p q = p
    report_notes P n (Some numbers) past p q = q numbers.0 numbers.1

    hearers_open : (t : Bool) (slots : List ℕ) (l : List Note) → AllOpen slots l → AllOpen (hearers t slots l) l
    hearers_open true slots l all = filtered_open slots l
    hearers_open false slots l all = all

    others_keeps : (t : Bool) (answer : Answer) (slots : List ℕ) (l : List Note) (past : Past) → ((d : ℕ) → 0 < counted d slots → t ≡ true → wants_exceptions d l ≡ false → MayQueue k before s d (answer_packet answer)) → AllOpen slots past.notes
        → Held k I past → Held k I (tell_others t answer slots l past)
    others_keeps true answer slots l past may all h =
        tells_keeps answer (filter (λ c. not (wants_exceptions c l)) slots) past
        (λ d lt. may d (counts_more (λ c. not (wants_exceptions c l)) d slots lt) refl (not-true (wants_exceptions d l) (counts_passed (λ c. not (wants_exceptions c l)) d slots lt)))
        (some_open (λ c. not (wants_exceptions c l)) slots past.notes all) h
    others_keeps false answer slots l past may all h = h

    tells_work_keeps : (w : Work) (n : ℕ) (past : Past) → MayReport k before s n w past.notes → runs_at_a_slot (job_state n past.notes) ≡ true → Held k I past → Held k I (tell_work k w n past)
    tells_work_keeps w n past may running h =
        let all = listeners n past.notes in
        let slots = hearers w.exceptions_only all past.notes in
        let one = keep_report n w.report past in
        let two = tell_all w.answer slots one in
        let three = tell_others (w.exceptions_only && w.ends) (work_fail (handle k n)) all past.notes two in
        let opened = listeners_open k past.notes h.0 n in
        let heard = hearers_open w.exceptions_only all past.notes opened in
        let heard_one = report_notes (λ l. AllOpen slots l) n w.report past heard (λ a b. open_after slots past.notes (notes.Report n a b ∷ past.notes) (λ d e. e) heard) in
        let opened_one = report_notes (λ l. AllOpen all l) n w.report past opened (λ a b. open_after all past.notes (notes.Report n a b ∷ past.notes) (λ d e. e) opened) in
        let runs = slot_runs (job_state n past.notes) running in
        let running_one = report_notes (λ l. is_running (job_state n l) ≡ true) n w.report past runs (λ a b. runs) in
        let same = tell_all_notes w.answer slots one in
        let same_too = tell_others_notes (w.exceptions_only && w.ends) (work_fail (handle k n)) all past.notes two in
        ended_keeps w.ends n three may.ends (subst (λ l. is_running (job_state n l) ≡ true) (sym (same_too ∙ same)) running_one)
        (others_keeps (w.exceptions_only && w.ends) (work_fail (handle k n)) all past.notes two may.tells_others (subst (AllOpen all) (sym same) opened_one)
        (tells_keeps w.answer slots one (λ d lt. may.tells d (hears_listens w.exceptions_only d all past.notes lt) (hears_wants w.exceptions_only d all past.notes lt)) heard_one
        (report_keeps n w.report past may.reports running h)))

    -- the job that the handle names, if it runs at the slot
    works_on_keeps : (text : List ℕ) (w : Work) (o : Option ℕ) (past : Past) → job_of_handle k text past.notes ≡ o
        → ((n : ℕ) → job_state n past.notes ≡ states.Running c → text ≡ handle k n → MayReport k before s n w past.notes) → is_open c past.notes ≡ true → Held k I past → Held k I (work_on k c w o past)
    works_on_keeps text w None past is may opened h = refuses_keeps (codes "job_not_found") past opened h
    works_on_keeps text w (Some n) past is may opened h =
        held_if (is_running_at c (job_state n past.notes)) (tell_work k w n past) (refuse c (codes "job_not_found") past)
        (λ e. tells_work_keeps w n past (may n (runs_there c (job_state n past.notes) e) (handled_is k text past.notes n is)) (runs_somewhere c (job_state n past.notes) e) h)
        (λ e. refuses_keeps (codes "job_not_found") past opened h)

    pub works_keeps : (text : List ℕ) (w : Work) (past : Past) → ((n : ℕ) → job_state n past.notes ≡ states.Running c → text ≡ handle k n → MayReport k before s n w past.notes) → is_open c past.notes ≡ true → Held k I past
        → Held k I (work k c text w past)
    works_keeps text w past may opened h = works_on_keeps text w (job_of_handle k text past.notes) past refl may opened h
