-- Nothing but a job's end is told as its end, and to nobody but its listeners.
use Rattle.std.proofs.Common.{◌≡◌, ◌⊎◌, inl, inr, ℕ, zero, suc, ◌+◌, ◌<◌, ◌≤◌, Bool, true, false, cond, ◌&&◌, ◌||◌, List, [], ◌∷◌, ◌++◌, length, filter, replicate}
use Rattle.std.proofs.Common.{Option, Some, None, Ok, refl, sym, ap, subst, ◌∙◌, arith, max, append_assoc}
use Rattle.std.specs.Prelude.{◌==◌, unwrap_or, codes}
use Rattle.std.specs.Str.{bytes_eq}
use Rattle.std.specs.Option.{ok_or}
use Rattle.std.proofs.lemmas.Bool.{and_parts}
use Rattle.std.proofs.lemmas.List.{append-nil, append_cancel_left}
use Rattle.std.proofs.lemmas.Slice.Eq.{bytes_eq-Decides}
use Rattle.gm_packet.specs.declared.kind.Kind.{Kind}
use Rattle.gm_packet.specs.Kinds.{kind_of}
use Rattle.gm_packet.specs.Requests.{Asked, read_as, read_kind, request_of}
use Rattle.gm_packet.specs.declared.request.RequestFault.TheVariants.{BadArguments}
use Rattle.gm_packet.specs.Answers.{Answer, answer_packet, work_fail}
use Rattle.gm_notes.specs.declared.note.Note.TheVariants.{Ended, Now}
use Rattle.gm_notes.specs.Settings.{Settings}
use Rattle.gm_notes.specs.Notes.{moment, takes_units}
use Rattle.gm_notes.specs.Jobs.{job_state, deadline, listeners, handle, is_handle, made, job_of_handle}
use Rattle.gm_notes.specs.JobStates.{JobState, is_running, is_running_at}
use Rattle.gm_notes.specs.JobStates as states
use Rattle.gm_notes.specs.Past.{Past, with_note, refuse, tell_all}
use Rattle.gm_notes.specs.Texts.{error_of, spaced}
use Rattle.gm_notes.specs.Workers.{Work, wants_exceptions, tell_work, work_on}
use Rattle.gm_notes.specs.Closings.{rising, is_reached, expire_one, expire_each, tick}
use Rattle.gm_notes.specs.Requests.{packet_of, first, request, request_if_read}
use Rattle.gm_notes.specs.Steps.{Step, Packet, Tick, unless_not_open, run, step}
use Rattle.gm_history.specs.History.{History}
use Rattle.gm_history.specs.Causes.{IsOfEnd, is_request, is_ending, is_tick, is_one_of}
use Rattle.gm_laws.specs.Listeners.{outputs, Queues, copies, heard, TellsEnd, OnlyEndsAreTold}
use Rattle.gm_history.specs.Hearing.{listens, passed_on}
use Rattle.gm_history.proofs.Finding.{found_passes}
use Rattle.gm_history.proofs.Keeping.{MayQueue, tell_all_notes, slot_runs, runs_somewhere}
use Rattle.gm_history.proofs.Sayings.{error_other}
use Rattle.gm_laws.proofs.Outputs.{told, copies_append, copies_other}
use Rattle.gm_laws.proofs.Passing.{says_to, tells, Reports, reports, end_reported}
use Rattle.gm_history.proofs.Asking.{kind_read}
use Rattle.gm_history.proofs.StepsKeep.{step_keeps, taken_or_not, run_history}
use Rattle.gm_notes.proofs.Numbers.{same_number}

-- ---- copies

-- what there is a copy of is what was queued
pub copied : (bytes other : List ℕ) (m : ℕ) → 0 < copies bytes (replicate m other) → (bytes ≡ other) × (0 < m)
copied bytes other zero lt = absurd (omega arith)
copied bytes other (suc m) lt = by (bytes_eq bytes other) refl
  where
    by : (t : Bool) → bytes_eq bytes other ≡ t → (bytes ≡ other) × (0 < suc m)
    by true is = ((bytes_eq-Decides bytes other).0 is, omega arith)
    by false is =
        let none = copies_other bytes other (suc m) (λ e. let yes : true ≡ false = sym ((bytes_eq-Decides bytes other).1 e) ∙ is in cc) in
        absurd (omega (arith, none, lt))

-- and of what was heard
heard_copied : (bytes : List ℕ) (o : Option Answer) (m : ℕ) → 0 < copies bytes (heard o m) → (answer : Answer) × (o ≡ Some answer) × (bytes ≡ answer_packet answer) × (0 < m)
heard_copied bytes None m lt = absurd (omega arith)
heard_copied bytes (Some answer) m lt = let is = copied bytes (answer_packet answer) m lt in (answer, refl, is.0, is.1)

-- nothing newer was queued
pub none_newer : (c : ℕ) (newer : List (List ℕ)) (before after : Past) (bytes : List ℕ) → outputs c after.flow ≡ outputs c before.flow → Queues c newer before after → 0 < copies bytes newer → ⊥
none_newer c newer before after bytes same queued lt =
    let none : newer ≡ [] = append_cancel_left (outputs c before.flow) newer [] (sym queued ∙ (same ∙ sym (append-nil (outputs c before.flow)))) in
    let few : copies bytes newer ≡ 0 = ap (copies bytes) none in
    omega (arith, few, lt)

-- ---- a step that never queues an answer

module _ (k : Settings) (s : Step) (start : Past) (history : History k start.notes) (c : ℕ) (answer : Answer)
    (never : (d : ℕ) (bytes : List ℕ) → MayQueue k start.notes s d bytes → bytes ≡ answer_packet answer → ⊥) where
  abbrev count : Past → ℕ
  count past = copies (answer_packet answer) (outputs c past.flow)

  more_at : (t : Bool) (bytes : List ℕ) (queued : List (List ℕ)) → (bytes ≡ answer_packet answer → ⊥) → copies (answer_packet answer) (cond t (queued ++ bytes ∷ []) queued) ≡ copies (answer_packet answer) queued
  more_at true bytes queued differ =
      let none = copies_other (answer_packet answer) bytes 1 (λ e. differ (sym e)) in
      omega (arith, copies_append (answer_packet answer) queued (bytes ∷ []), none)
  more_at false bytes queued differ = refl

  began_at : (t : Bool) (queued : List (List ℕ)) → copies (answer_packet answer) (cond t [] queued) ≤ copies (answer_packet answer) queued
  began_at true queued = omega arith
  began_at false queued = omega arith

  none_more : count (step k s start) ≤ count start
  none_more =
      (step_keeps {I = λ past. count past ≤ count start} start s
      (record {
        by_note = λ note past inner allowed cause h i. i;
        by_opening = λ d addr past allowed cause h i. let fewer = began_at (c == d) (outputs c past.flow) in omega (arith, fewer, i);
        by_closing = λ d past opened cause h i. i;
        by_saying = λ d bytes past opened may h i.
            subst (λ x. x ≤ count start) (sym (more_at (c == d) bytes (outputs c past.flow) (never d bytes may))) i;
      })
      (λ d e h i. i)
      (history, omega arith)).1

  pub quiet : (newer : List (List ℕ)) → Queues c newer start (step k s start) → 0 < copies (answer_packet answer) newer → ⊥
  quiet newer queued lt =
      let all : count (step k s start) ≡ copies (answer_packet answer) (outputs c start.flow ++ newer) = ap (copies (answer_packet answer)) queued in
      let few = none_more in
      omega (arith, all, few, copies_append (answer_packet answer) (outputs c start.flow) newer, lt)

-- ---- a request that ends a job

module _ (k : Settings) (start : Past) (c worker number : ℕ) (bytes : List ℕ) (newer : List (List ℕ)) (answer : Answer) (ends : IsOfEnd k answer) (lt : 0 < copies (answer_packet answer) newer) where
  abbrev OnlyIts : Past → Type 0
  OnlyIts past = Queues c newer start past →
      (n : ℕ) × (tells : Answer) × (answer_packet answer ≡ answer_packet tells) × TellsEnd k start.notes c n (Packet worker number bytes) tells
      × (is_running (job_state n start.notes) ≡ true) × (job_state n past.notes ≡ states.Ended) × (0 < listens c n start.notes)

  nothing_its : OnlyIts start
  nothing_its queued = absurd (none_newer c newer start start (answer_packet answer) refl queued lt)

  given_at : (t : Bool) (error : List ℕ) → (error ≡ answer_packet answer → ⊥) → cond t (outputs c start.flow ++ error ∷ []) (outputs c start.flow) ≡ outputs c start.flow ++ newer → ⊥
  given_at true error differ e =
      let are : newer ≡ error ∷ [] = append_cancel_left (outputs c start.flow) newer (error ∷ []) (sym e) in
      let few : copies (answer_packet answer) newer ≡ 0 = ap (copies (answer_packet answer)) are ∙ copies_other (answer_packet answer) error 1 (λ x. differ (sym x)) in
      omega (arith, few, lt)
  given_at false error differ e = none_newer c newer start start (answer_packet answer) refl (e) lt

  refused_its : (code : List ℕ) → OnlyIts (refuse worker code start)
  refused_its code queued = absurd (given_at (c == worker) (answer_packet (error_of code)) ((error_other code (spaced code)).1 k answer ends) queued)

  -- a request that ends the job that the handle names
  module _ (asked : Asked) (may : is_ending k asked.kind ≡ true) (reads : request_of number bytes ≡ Ok asked) where
    ended_its : (w : Work) (m : ℕ) → w.ends ≡ true → says_to k w m (wants_exceptions c start.notes) ≡ passed_on k (wants_exceptions c start.notes) m asked.kind asked.arguments
        → is_running (job_state m start.notes) ≡ true → OnlyIts (tell_work k w m start)
    ended_its w m ends_it says runs queued =
        let says_it = says_to k w m (wants_exceptions c start.notes) in
        let are : newer ≡ heard says_it (listens c m start.notes) =
        append_cancel_left (outputs c start.flow) newer (heard says_it (listens c m start.notes)) (sym queued ∙ tells k w m start c) in
        let same = heard_copied (answer_packet answer) says_it (listens c m start.notes) (subst (λ l. 0 < copies (answer_packet answer) l) are lt) in
        let over : job_state m (tell_work k w m start).notes ≡ states.Ended = rw (ends_it, same_number m) refl in
        (m, same.0, same.2, (asked, reads, may, sym says ∙ same.1), runs, over, same.3)

    asks_its : OnlyIts (request k worker asked.kind asked.arguments asked.timeout start)
    asks_its =
        let report = end_reported k 0 true asked.kind asked.arguments may in
        let r = reports k 0 asked.kind asked.arguments report.0 report.1 in
        subst OnlyIts (sym (r.does worker asked.timeout start)) (by r (job_of_handle k (first asked.arguments) start.notes) refl)
      where
        by : (r : Reports k asked.kind asked.arguments) (o : Option ℕ) → job_of_handle k (first asked.arguments) start.notes ≡ o → OnlyIts (work_on k worker r.packet o start)
        by r None is = refused_its (codes "job_not_found")
        by r (Some m) is = at (is_running_at worker (job_state m start.notes)) refl
          where
            names : first asked.arguments ≡ handle k m
            names = sym ((bytes_eq-Decides (handle k m) (first asked.arguments)).0 (found_passes (is_handle k (first asked.arguments)) (made start.notes) m is))

            at : (t : Bool) → is_running_at worker (job_state m start.notes) ≡ t → OnlyIts (cond t (tell_work k r.packet m start) (refuse worker (codes "job_not_found") start))
            at true here = ended_its r.packet m (r.ends ∙ may) (r.says m (wants_exceptions c start.notes) names) (slot_runs (job_state m start.notes) (runs_somewhere worker (job_state m start.notes) here))
            at false here = refused_its (codes "job_not_found")

  packet_its : (o : Option Kind) → kind_of number ≡ o → is_one_of (is_ending k) o ≡ true → OnlyIts (packet_of k worker o bytes start)
  packet_its None is e = absurd cc
  packet_its (Some kind) is e = by (read_as kind bytes) refl
    where
      by : (o : Option Asked) → read_as kind bytes ≡ o → OnlyIts (request_if_read k worker o start)
      by None read = refused_its (codes "bad_arguments")
      by (Some asked) read =
          asks_its asked (ap (is_ending k) (kind_read kind bytes asked read) ∙ e) (ap (λ o. read_kind o bytes) is ∙ ap (λ o. ok_or o BadArguments) read)

-- ---- a tick

abbrev fails : Settings → ℕ → List ℕ
fails k m = answer_packet (work_fail (handle k m))

-- so far in a tick after start: what was queued to slot c is of jobs that the tick ended
record OfEnded (k : Settings) (start past : Past) (c : ℕ) (bytes : List ℕ) : Type 0 where
  newer : List (List ℕ)
  queued : Queues c newer start past
  whose : 0 < copies bytes newer → (m : ℕ) × (bytes ≡ fails k m) × (is_running (job_state m start.notes) ≡ true) × (job_state m past.notes ≡ states.Ended) × (0 < listens c m start.notes)
  heard : (m : ℕ) → listeners m past.notes ≡ listeners m start.notes
  ran : (m : ℕ) → is_running (job_state m past.notes) ≡ true → is_running (job_state m start.notes) ≡ true

ended_still : (t : Bool) (old : JobState) → old ≡ states.Ended → unwrap_or (cond t (Some states.Ended) None) old ≡ states.Ended
ended_still true old e = refl
ended_still false old e = e

running_before : (t : Bool) (old : JobState) → is_running (unwrap_or (cond t (Some states.Ended) None) old) ≡ true → is_running old ≡ true
running_before true old e = absurd cc
running_before false old e = e

one_of : (x y : ℕ) → 0 < x + y → (0 < x) ⊎ (0 < y)
one_of zero y lt = inr (omega arith)
one_of (suc x) y lt = inl (omega arith)

module _ (k : Settings) (start : Past) (c : ℕ) (bytes : List ℕ) where
  module _ (j : ℕ) (past : Past) (s : OfEnded k start past c bytes) (runs : is_running (job_state j past.notes) ≡ true) where
    abbrev all : Past
    all = tell_all (work_fail (handle k j)) (listeners j past.notes) past

    abbrev many : ℕ
    many = listens c j past.notes

    same_notes : all.notes ≡ past.notes
    same_notes = tell_all_notes (work_fail (handle k j)) (listeners j past.notes) past

    whose_now : 0 < copies bytes (s.newer ++ replicate many (fails k j))
        → (m : ℕ) × (bytes ≡ fails k m) × (is_running (job_state m start.notes) ≡ true) × (job_state m (Ended j ∷ past.notes) ≡ states.Ended) × (0 < listens c m start.notes)
    whose_now lt = by (one_of (copies bytes s.newer) (copies bytes (replicate many (fails k j))) (subst (λ x. 0 < x) (copies_append bytes s.newer (replicate many (fails k j))) lt))
      where
        by : (0 < copies bytes s.newer) ⊎ (0 < copies bytes (replicate many (fails k j)))
            → (m : ℕ) × (bytes ≡ fails k m) × (is_running (job_state m start.notes) ≡ true) × (job_state m (Ended j ∷ past.notes) ≡ states.Ended) × (0 < listens c m start.notes)
        by (inl more) = let w = s.whose more in (w.0, w.1, w.2, ended_still (w.0 == j) (job_state w.0 past.notes) w.3, w.4)
        by (inr more) =
            let same = copied bytes (fails k j) many more in
            let over : job_state j (Ended j ∷ past.notes) ≡ states.Ended = rw (same_number j) refl in
            (j, same.0, s.ran j runs, over, subst (λ l. 0 < length (filter (λ d. c == d) l)) (s.heard j) same.1)

    failed_ended : OfEnded k start (with_note (Ended j) all) c bytes
    failed_ended = record {
      newer = s.newer ++ replicate many (fails k j);
      queued = told c (work_fail (handle k j)) (listeners j past.notes) past
          ∙ (ap (λ l. l ++ replicate many (fails k j)) s.queued ∙ append_assoc (outputs c start.flow) s.newer (replicate many (fails k j)));
      whose = λ lt. let w = whose_now lt in (w.0, w.1, w.2, ap (λ l. job_state w.0 (Ended j ∷ l)) same_notes ∙ w.3, w.4);
      heard = λ m. ap (listeners m) same_notes ∙ s.heard m;
      ran = λ m e. s.ran m (running_before (m == j) (job_state m past.notes) (subst (λ l. is_running (job_state m (Ended j ∷ l)) ≡ true) same_notes e));
    }

  expired_ended : (j : ℕ) (past : Past) → OfEnded k start past c bytes → OfEnded k start (expire_one k j past) c bytes
  expired_ended j past s = by (is_running (job_state j past.notes) && is_reached (deadline j past.notes) (moment past.notes)) refl
    where
      by : (t : Bool) → (is_running (job_state j past.notes) && is_reached (deadline j past.notes) (moment past.notes)) ≡ t
          → OfEnded k start (cond t (with_note (Ended j) (tell_all (work_fail (handle k j)) (listeners j past.notes) past)) past) c bytes
      by true is = failed_ended j past s (and_parts (is_running (job_state j past.notes)) (is_reached (deadline j past.notes) (moment past.notes)) is).0
      by false is = s

  all_ended : (jobs : List ℕ) (past : Past) → OfEnded k start past c bytes → OfEnded k start (expire_each k jobs past) c bytes
  all_ended [] past s = s
  all_ended (j ∷ jobs) past s = all_ended jobs (expire_one k j past) (expired_ended j past s)

  ticked : (now : ℕ) → OfEnded k start (tick k now start) c bytes
  ticked now =
      all_ended (rising start) (with_note (Now (max now (moment start.notes))) start)
      (record { newer = []; queued = sym (append-nil (outputs c start.flow)); whose = λ lt. absurd (omega arith); heard = λ m. refl; ran = λ m e. e })

-- ---- steps

module _ (k : Settings) (start : Past) (history : History k start.notes) (c : ℕ) (newer : List (List ℕ)) (answer : Answer) (ends : IsOfEnd k answer) (lt : 0 < copies (answer_packet answer) newer) where
  abbrev Only : Step → Type 0
  Only s = Queues c newer start (step k s start) →
      (n : ℕ) × (tells : Answer) × (answer_packet answer ≡ answer_packet tells) × TellsEnd k start.notes c n s tells
      × (is_running (job_state n start.notes) ≡ true) × (job_state n (step k s start).notes ≡ states.Ended) × (0 < listens c n start.notes)

  still : (s : Step) → (is_request (is_ending k) s || is_tick s) ≡ false → Only s
  still s other q =
      absurd (quiet k s start history c answer (λ d bytes may e. let bad : true ≡ false = sym (may.1 answer ends e) ∙ other in let worse : ⊥ = cc in worse) newer q lt)

  by_packet : (worker number : ℕ) (bytes : List ℕ) (t : Bool) → is_one_of (is_ending k) (kind_of number) ≡ t → Only (Packet worker number bytes)
  by_packet worker number bytes true is =
      taken_or_not (OnlyIts k start c worker number bytes newer answer ends lt) (unless_not_open (takes_units worker start.notes)) (packet_of k worker (kind_of number) bytes start) start
      (λ taken. packet_its k start c worker number bytes newer answer ends lt (kind_of number) refl is) (nothing_its k start c worker number bytes newer answer ends lt)
  by_packet worker number bytes false is = still (Packet worker number bytes) (ap (λ t. t || false) is)

  only_of : (s : Step) → Only s
  only_of (Packet worker number bytes) = by_packet worker number bytes (is_one_of (is_ending k) (kind_of number)) refl
  only_of (Tick now) = λ q.
      let t = ticked k start c (answer_packet answer) now in
      let are : newer ≡ t.newer = append_cancel_left (outputs c start.flow) newer t.newer (sym q ∙ t.queued) in
      let w = t.whose (subst (λ l. 0 < copies (answer_packet answer) l) are lt) in
      (w.0, work_fail (handle k w.0), w.1, refl, w.2, w.3, w.4)
  only_of s = still s refl

pub only_ends : (k : Settings) (s : Step) (steps : List Step) → OnlyEndsAreTold k (run k steps) s (run k (s ∷ steps))
only_ends k s steps c newer answer queued ends lt = only_of k (run k steps) (run_history k steps) c newer answer ends lt s queued
