-- What GET_STATUS is answered is true.
use Rattle.std.proofs.Common.{◌≡◌, ◌⊎◌, inl, inr, ℕ, Bool, true, false, cond, ◌&&◌, List, [], ◌∷◌, Option, Some, None, Result, Ok, Err}
use Rattle.std.proofs.Common.{refl, sym, ap, ap₂, subst, ◌∙◌}
use Rattle.std.specs.Prelude.{◌==◌, codes, unwrap_or}
use Rattle.std.specs.Str.{bytes_eq}
use Rattle.std.proofs.lemmas.Bool.{and_from}
use Rattle.std.proofs.lemmas.Option.{same_Some}
use Rattle.std.proofs.lemmas.Slice.Eq.{bytes_eq-Decides}
use Rattle.gm_packet.specs.declared.kind.Kind.{Kind}
use Rattle.gm_packet.specs.declared.kind.Kind.TheVariants.{WorkStatus, GetStatus}
use Rattle.gm_packet.specs.declared.request.RequestFault.{RequestFault}
use Rattle.gm_packet.specs.Kinds.{kind_of}
use Rattle.gm_packet.specs.Requests.{Asked, request_of}
use Rattle.gm_packet.specs.Answers.{answer_packet, work_status, status_res}
use Rattle.gm_notes.specs.declared.note.Note.{Note}
use Rattle.gm_notes.specs.declared.note.Note.TheVariants as notes
use Rattle.gm_notes.specs.Settings.{Settings}
use Rattle.gm_notes.specs.Notes.{takes_units}
use Rattle.gm_notes.specs.Jobs.{job_state, report, listeners, handle, job_of_handle}
use Rattle.gm_notes.specs.JobStates.{JobState, is_running, is_running_at, is_live}
use Rattle.gm_notes.specs.JobStates as states
use Rattle.gm_notes.specs.Flow.{Queued}
use Rattle.gm_notes.specs.Past.{Past, with_note, give}
use Rattle.gm_notes.specs.Workers.{Work}
use Rattle.gm_notes.specs.Requests.{first, second, third, passing, request, tell_status, packet_of}
use Rattle.gm_notes.specs.Steps.{Step, Packet, unless, unless_not_open, step, run}
use Rattle.gm_history.specs.History.{Allowed, History}
use Rattle.gm_history.specs.Causes.{Caused, PacketAsks}
use Rattle.gm_laws.specs.Statuses.{is_reporting, numbers_of, reported_numbers, last_reported, TellsOfJob, TellsOfNone, StatusIsTrue}
use Rattle.gm_history.proofs.Asking.{packet_does}
use Rattle.gm_laws.proofs.Handles.{handle_names}
use Rattle.gm_laws.proofs.JobLaws.{unmade, live_place}
use Rattle.gm_history.proofs.Keeping.{handled_is, runs_there, tell_all_notes}
use Rattle.gm_laws.proofs.Moving.{from, both_not}
use Rattle.gm_laws.proofs.Passing.{works_does}
use Rattle.gm_laws.proofs.Unmade.{nothing_yet, unmade_is}
use Rattle.gm_history.proofs.StepsKeep.{run_history}
use Rattle.gm_history.proofs.Caused.{note_law}
use Rattle.gm_laws.proofs.StepLaws.{taken_is}
use Rattle.gm_notes.proofs.Numbers.{same_number}
use Rattle.std.proofs.lemmas.Bool.{eqb-true}

-- WORK_STATUS of the slot where the job runs
request_reports : (k : Settings) (n : ℕ) (start : Past) → History k start.notes → (c : ℕ) → job_state n start.notes ≡ states.Running c → (a : List (List ℕ)) (timeout : ℕ) (kind : Kind) → is_reporting kind ≡ true → first a ≡ handle k n
    → report n (request k c kind a timeout start).notes ≡ (second a, third a)
request_reports k n start history c runs a timeout WorkStatus e names =
    ap (λ (past : Past). report n past.notes) (works_does k c n start history runs reporting (first a) names)
    ∙ (ap (report n) (tell_all_notes reporting.answer (listeners n start.notes) (with_note (notes.Report n (second a) (third a)) start)) ∙ here)
  where
    reporting : Work
    reporting = record (passing (work_status (first a) (second a) (third a))) { report = Some (second a, third a) }

    here : report n (notes.Report n (second a) (third a) ∷ start.notes) ≡ (second a, third a)
    here = rw (same_number n) refl
request_reports k n start history c runs a timeout kind e names = absurd cc

-- ---- a packet, by what it reads as

module _ (k : Settings) (n : ℕ) (start : Past) (history : History k start.notes) (c number : ℕ) (bytes : List ℕ) (takes : takes_units c start.notes ≡ true) where
  abbrev s : Step
  s = Packet c number bytes

  -- what it reports
  abbrev says : Result Asked RequestFault → Option (List ℕ × List ℕ)
  says r = cond (is_running_at c (job_state n start.notes)) (numbers_of k n r) None

  -- the numbers that it reports are those that are told from then on
  numbers_then : (asked : Asked) (x : List ℕ × List ℕ) → request_of number bytes ≡ Ok asked → is_running_at c (job_state n start.notes) ≡ true → numbers_of k n (Ok asked) ≡ Some x → report n (step k s start).notes ≡ x
  numbers_then asked x reads runs e = by (is_reporting asked.kind) (bytes_eq (first a) (handle k n)) refl refl e
    where
      a : List (List ℕ)
      a = asked.arguments

      by : (t u : Bool) → is_reporting asked.kind ≡ t → bytes_eq (first a) (handle k n) ≡ u → cond (t && u) (Some (second a, third a)) None ≡ Some x → report n (step k s start).notes ≡ x
      by true true is names e =
          ap (λ (past : Past). report n past.notes) (taken_is (takes_units c start.notes) (packet_of k c (kind_of number) bytes start) start takes ∙ packet_does bytes asked k c start (kind_of number) reads)
          ∙ (request_reports k n start history c (runs_there c (job_state n start.notes) runs) a asked.timeout asked.kind is ((bytes_eq-Decides (first a) (handle k n)).0 names) ∙ same_Some (second a, third a) x e)
      by true false is names e = absurd cc
      by false u is names e = absurd cc

  module _ (r : Result Asked RequestFault) (reads : request_of number bytes ≡ r) where
    -- what is told changes only by what it reports
    abbrev ReportedSo : List Note → Type 0
    ReportedSo l = (report n l ≡ report n start.notes) ⊎ (says r ≡ Some (report n l))

    report_here : (a b : List ℕ) (m : ℕ) (older : List Note) → n ≡ m → Caused k start.notes s (notes.Report m a b) older → says r ≡ Some (a, b)
    report_here a b m older same cause =
        let asked = cause.1 in
        let runs : is_running_at c (job_state n start.notes) ≡ true =
        ap (λ x. is_running_at c (job_state x start.notes)) same ∙ (ap (is_running_at c) cause.4 ∙ (ap (λ x. c == x) cause.2.0 ∙ same_number c)) in
        let names : first asked.arguments ≡ handle k n = cause.5 ∙ ap (handle k) (sym same) in
        let tests : (is_reporting asked.kind && bytes_eq (first asked.arguments) (handle k n)) ≡ true =
        and_from (is_reporting asked.kind) (bytes_eq (first asked.arguments) (handle k n)) (ap is_reporting cause.3) ((bytes_eq-Decides (first asked.arguments) (handle k n)).1 names) in
        ap (λ t. cond t (numbers_of k n r) None) runs
        ∙ (ap (numbers_of k n) (sym reads ∙ cause.2.1)
        ∙ (ap (λ t. cond t (Some (second asked.arguments, third asked.arguments)) None) tests ∙ ap₂ (λ x y. Some (x, y)) cause.6 cause.7))

    reported_more : (note : Note) (older : List Note) → Allowed k note older → Caused k start.notes s note older → History k older → ReportedSo older → ReportedSo (note ∷ older)
    reported_more (notes.Made m f p u body) older allowed cause h so = by (n == m) refl so
      where
        by : (t : Bool) → (n == m) ≡ t → ReportedSo older → ReportedSo (notes.Made m f p u body ∷ older)
        by true is so =
            let none : report n older ≡ nothing_yet = (unmade_is k n older h (ap (λ x. job_state x older) (eqb-true n m is) ∙ unmade k m older h allowed.0)).unreported in
            let same : report n (notes.Made m f p u body ∷ older) ≡ report n older = rw is (sym none) in
            from so (λ e. inl (same ∙ e)) (λ e. inr (e ∙ ap Some (sym same)))
        by false is so = let same : report n (notes.Made m f p u body ∷ older) ≡ report n older = rw is refl in from so (λ e. inl (same ∙ e)) (λ e. inr (e ∙ ap Some (sym same)))
    reported_more (notes.Report m a b) older allowed cause h so = by (n == m) refl so
      where
        by : (t : Bool) → (n == m) ≡ t → ReportedSo older → ReportedSo (notes.Report m a b ∷ older)
        by true is so = let here : report n (notes.Report m a b ∷ older) ≡ (a, b) = rw is refl in inr (report_here a b m older (eqb-true n m is) cause ∙ ap Some (sym here))
        by false is so = let same : report n (notes.Report m a b ∷ older) ≡ report n older = rw is refl in from so (λ e. inl (same ∙ e)) (λ e. inr (e ∙ ap Some (sym same)))
    reported_more note older allowed cause h so = so

    so_reported : ReportedSo (step k s start).notes
    so_reported = note_law k s start history ReportedSo (λ note older allowed cause h p. reported_more note older allowed cause h p) (inl refl)

  runs_if : (t : Bool) (o : Option (List ℕ × List ℕ)) (x : List ℕ × List ℕ) → cond t o None ≡ Some x → (t ≡ true) × (o ≡ Some x)
  runs_if true o x e = (refl, e)
  runs_if false o x e = absurd cc

  told_then : (x : List ℕ × List ℕ) (r : Result Asked RequestFault) → request_of number bytes ≡ r → says r ≡ Some x → report n (step k s start).notes ≡ x
  told_then x (Ok asked) reads e = let p = runs_if (is_running_at c (job_state n start.notes)) (numbers_of k n (Ok asked)) x e in numbers_then asked x reads p.0 p.1
  told_then x (Err fault) reads e = let p = runs_if (is_running_at c (job_state n start.notes)) None x e in let none = p.1 in absurd cc

  -- it leaves the numbers that it reports, or those that there were
  packet_reports : (r : Result Asked RequestFault) → request_of number bytes ≡ r → report n (step k s start).notes ≡ unwrap_or (says r) (report n start.notes)
  packet_reports r reads = by (says r) refl
    where
      by : (o : Option (List ℕ × List ℕ)) → says r ≡ o → report n (step k s start).notes ≡ unwrap_or o (report n start.notes)
      by (Some x) is = told_then x r reads is
      by None is = from (so_reported r reads) (λ e. e) (λ e. let none = sym is ∙ e in absurd cc)

-- ---- steps

-- a step that is no packet reports nothing
still_told : (k : Settings) (n : ℕ) (s : Step) (start : Past) → ((c number : ℕ) (bytes : List ℕ) → s ≡ Packet c number bytes → ⊥) → History k start.notes → report n (step k s start).notes ≡ report n start.notes
still_told k n s start other history = note_law k s start history (λ l. report n l ≡ report n start.notes) (λ note older allowed cause h p. more note older allowed cause h p) refl
  where
    asked_by : (c : ℕ) (asked : Asked) (s : Step) → ((d number : ℕ) (bytes : List ℕ) → s ≡ Packet d number bytes → ⊥) → PacketAsks c s asked → ⊥
    asked_by c asked (Packet d number bytes) other a = other d number bytes refl
    asked_by c asked s other a = a

    more : (note : Note) (older : List Note) → Allowed k note older → Caused k start.notes s note older → History k older → report n older ≡ report n start.notes → report n (note ∷ older) ≡ report n start.notes
    more (notes.Made m f p u body) older allowed cause h e = absurd (asked_by cause.0 cause.1 s other cause.2)
    more (notes.Report m a b) older allowed cause h e = absurd (asked_by cause.0 cause.1 s other cause.2)
    more note older allowed cause h e = e

step_reports : (k : Settings) (n : ℕ) (s : Step) (start : Past) → History k start.notes → report n (step k s start).notes ≡ unwrap_or (reported_numbers k n start s) (report n start.notes)
step_reports k n (Packet c number bytes) start history = by (takes_units c start.notes) refl
  where
    by : (t : Bool) → takes_units c start.notes ≡ t
        → report n (step k (Packet c number bytes) start).notes ≡ unwrap_or (cond (t && is_running_at c (job_state n start.notes)) (numbers_of k n (request_of number bytes)) None) (report n start.notes)
    by true takes = packet_reports k n start history c number bytes takes (request_of number bytes) refl
    by false takes = ap (λ t. report n (unless (unless_not_open t) (packet_of k c (kind_of number) bytes start) start).notes) takes
step_reports k n s start history = still_told k n s start (λ c number bytes e. absurd cc) history

-- what is told is what was last reported
pub told_is_reported : (k : Settings) (n : ℕ) (steps : List Step) → report n (run k steps).notes ≡ last_reported k n steps
told_is_reported k n [] = refl
told_is_reported k n (s ∷ earlier) = step_reports k n s (run k earlier) (run_history k earlier) ∙ ap (unwrap_or (reported_numbers k n (run k earlier) s)) (told_is_reported k n earlier)

-- ---- the answer

module _ (k : Settings) (steps : List Step) (c : ℕ) (text : List ℕ) where
  abbrev start : Past
  start = run k steps

  abbrev StatusSo : Past → Type 0
  StatusSo after = (after.notes ≡ start.notes) × (TellsOfJob k steps c text after ⊎ TellsOfNone k steps c text after)

  named : (m : ℕ) (o : Option ℕ) → job_of_handle k text start.notes ≡ o → is_live (job_state m start.notes) ≡ true → text ≡ handle k m → o ≡ Some m
  named m o is lives names =
      sym is ∙ (ap (λ x. job_of_handle k x start.notes) names ∙ handle_names k start.notes m (run_history k steps) (live_place (job_state m start.notes) lives))

  status_so : (o : Option ℕ) → job_of_handle k text start.notes ≡ o → StatusSo (tell_status k c text o start)
  status_so None is = (refl, inr ((λ m lives names. let bad = named m None is lives names in absurd cc), refl))
  status_so (Some n) is = by (is_live (job_state n start.notes)) refl
    where
      by : (t : Bool) → is_live (job_state n start.notes) ≡ t
          → StatusSo (cond t (give c (status_res text true (is_running (job_state n start.notes)) (report n start.notes).0 (report n start.notes).1) start) (give c (status_res text false false (codes "0") (codes "0")) start))
      by true lives = (
        refl,
        inl (
          n,
          handled_is k text start.notes n is,
          lives,
          ap (λ (x : List ℕ × List ℕ). Queued c (answer_packet (status_res text true (is_running (job_state n start.notes)) x.0 x.1)) ∷ start.flow) (told_is_reported k n steps),
        ),
      )
      by false gone = (
        refl,
        inr ((λ m lives names. let same : n ≡ m = same_Some n m (named m (Some n) is lives names) in both_not (is_live (job_state m start.notes)) lives (subst (λ x. is_live (job_state x start.notes) ≡ false) same gone)), refl),
      )

  asks_status : (kind : Kind) (a : List (List ℕ)) (timeout : ℕ) → kind ≡ GetStatus → first a ≡ text → StatusSo (request k c kind a timeout start)
  asks_status GetStatus a timeout is names = subst (λ x. StatusSo (tell_status k c x (job_of_handle k x start.notes) start)) (sym names) (status_so (job_of_handle k text start.notes) refl)
  asks_status kind a timeout is names = absurd cc

pub status_true : StatusIsTrue
status_true k steps c number bytes asked takes reads is =
    let start = run k steps in
    subst (StatusSo k steps c (first asked.arguments)) (sym (taken_is (takes_units c start.notes) (packet_of k c (kind_of number) bytes start) start takes ∙ packet_does bytes asked k c start (kind_of number) reads))
    (asks_status k steps c (first asked.arguments) asked.kind asked.arguments asked.timeout is refl)
