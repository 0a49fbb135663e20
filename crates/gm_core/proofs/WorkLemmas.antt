-- What workers say of their jobs.
use Rattle.std.proofs.Common.{◌≡◌, ℕ, ◌+◌, ◌≤◌, Bool, true, false, not, ◌&&◌, ◌||◌, ◌==◌, if◌then◌else◌, List, [], ◌∷◌, filter, Option, Some, None}
use Rattle.std.proofs.Common.{unwrap_or, codes, Result, Ok, Err, refl, sym, ap, subst, ◌∙◌, arith}
use Rattle.std.specs.Option.{option_map}
use Rattle.std.specs.Result.{OnOk, OnErr}
use Rattle.std.specs.declared.alloc.AllocError.{AllocError}
use Rattle.std.proofs.lemmas.Bool.{false≢true}
use Rattle.gm_packet.specs.Answers.{Answer, answer_packet, work_fail}
use Rattle.gm_notes.specs.declared.note.Note.{Note}
use Rattle.gm_notes.specs.declared.note.Note.TheVariants.{Report}
use Rattle.gm_notes.specs.Settings.{Settings}
use Rattle.gm_notes.specs.Notes.{is_open, has_option, moment as moment_of, mode as mode_of}
use Rattle.gm_notes.specs.Flow.{waiting}
use Rattle.gm_notes.specs.Jobs.{job_state, listeners, report, handle}
use Rattle.gm_notes.specs.JobStates.{is_running_at}
use Rattle.gm_notes.specs.Past.{Past, with_note, refuse, tell_all}
use Rattle.gm_notes.specs.Workers.{Work, hearers, wants_exceptions, keep_report, end_if, tell_others, tell_work, work_on}
use Rattle.gm_queues.specs.FunctionTables as queues
use Rattle.gm_conns.specs.ConnTables as conns
use Rattle.gm_jobs.specs.Live.{Live, reported}
use Rattle.gm_jobs.specs.Tables.{Table, job, listeners_of, Changes}
use Rattle.gm_core.specs.declared.server.Tables.{Tables}
use Rattle.gm_core.specs.Writing.{Text}
use Rattle.gm_core.specs.Facts.{Seen, ConnFacts, conn_facts, function_facts, job_facts}
use Rattle.gm_core.specs.Holds.{AllTouched, Goes, Does, Keeps, AreOpen, HoldsConns, HoldsFunctions, HoldsJobs, IsJob}
use Rattle.gm_core.specs.Telling.{Roomed, Poured, hears, needed, poured, running_there, IsRunning}
use Rattle.gm_core.proofs.TellLemmas.{touched_roomed, holds_roomed, hears_roomed, poured_is, told_notes}
use Rattle.gm_core.proofs.JobLemmas.{quietly, turned}
use Rattle.gm_core.proofs.FunctionLemmas.{some_same}
use Rattle.gm_core.proofs.OnceLemmas.{filter_alike}
use Rattle.gm_core.proofs.CoreLemmas.{OnlyConns, goes_then, goes_jobs, goes_nothing}
use Rattle.gm_core.proofs.Running.{running}

-- ---- reports

reported_each : (names : List (List ℕ)) (notes : List Note) (is_open : ℕ → Bool) (n m : ℕ) (a b : List ℕ) (t : Bool) (l : Live) → (n == m) ≡ t → IsJob names l (job_facts notes) is_open m
    → IsJob names (if t then reported a b l else l) (job_facts (Report n a b ∷ notes)) is_open m
reported_each names notes is_open n m a b true l e is =
    record { function = is.function; job = is.job; job_state = is.job_state; kept = is.kept; listeners = is.listeners; report = said (m == n) (turned n m true e); deadline = is.deadline; heard = is.heard }
  where
    said : (s : Bool) → s ≡ true → unwrap_or (if s then Some (a, b) else None) (report m notes) ≡ (a, b)
    said true e = refl
    said false e = absurd (false≢true e)
reported_each names notes is_open n m a b false l e is =
    record { function = is.function; job = is.job; job_state = is.job_state; kept = is.kept; listeners = is.listeners; report = said (m == n) (turned n m false e); deadline = is.deadline; heard = is.heard }
  where
    said : (s : Bool) → s ≡ false → unwrap_or (if s then Some (a, b) else None) (report m notes) ≡ unwrap_or l.report (codes "0", codes "0")
    said false e = is.report
    said true e = absurd (false≢true (sym e))

jobs_reported : {k : Settings} {functions : queues.Table} {old new : Table} {is_open : ℕ → Bool} (notes : List Note) (n : ℕ) (a b : List ℕ) → Changes n (reported a b) old new
    → HoldsJobs k functions old is_open (job_facts notes) → HoldsJobs k functions new is_open (job_facts (Report n a b ∷ notes))
jobs_reported {k} {functions} {old} {new} {is_open} notes n a b changes holds =
    quietly {facts = job_facts notes} {now = job_facts (Report n a b ∷ notes)} n (reported a b) changes (λ l. refl) refl refl refl refl refl
    (λ m l is. reported_each functions.names notes is_open n m a b (n == m) l refl is) holds

pub does_report : (old : Tables) (new : Table) (n : ℕ) (a b : List ℕ) (result : Result (Unit {0}) AllocError) → OnOk result (Changes n (reported a b) old.jobs new)
    → OnErr result (new ≡ old.jobs) → Does old result (record old { jobs = new }) (with_note (Report n a b))
does_report old new n a b (Ok done) ok err =
    goes_jobs old new (with_note (Report n a b))
    (λ p keeps. record { conns = keeps.conns; functions = keeps.functions; jobs = jobs_reported p.notes n a b ok keeps.jobs; moment = keeps.moment; mode = keeps.mode })
does_report old new n a b (Err wanting) ok err = goes_nothing refl refl refl err refl refl

-- a report changes no listeners
pub reported_listeners : (old new : Table) (n : ℕ) (a b : List ℕ) (result : Result (Unit {0}) AllocError) → OnOk result (Changes n (reported a b) old new) → OnErr result (new ≡ old)
    → listeners_of (job new n) ≡ listeners_of (job old n)
reported_listeners old new n a b (Ok done) ok err = ap listeners_of (ok.jobs n) ∙ by (n == n) (job old n)
  where
    by : (t : Bool) (o : Option Live) → listeners_of (if t then option_map (reported a b) o else o) ≡ listeners_of o
    by true None = refl
    by true (Some l) = refl
    by false o = refl
reported_listeners old new n a b (Err wanting) ok err = ap (λ (t : Table). listeners_of (job t n)) err

-- ---- who hears

some_open : (opened P : ℕ → Bool) (slots : List ℕ) → AreOpen opened slots → AreOpen opened (filter P slots)
some_open opened P [] all = tt
some_open opened P (c ∷ slots) all = by (P c) (some_open opened P slots all.1)
  where
    by : (t : Bool) → AreOpen opened (filter P slots) → AreOpen opened (if t then c ∷ filter P slots else filter P slots)
    by true rest = (all.0, rest)
    by false rest = rest

module _ (k : Settings) (table : conns.Table) (names : List (List ℕ)) (notes : List Note) (w : ℕ → List ℕ) (holds : HoldsConns k table names (conn_facts notes) w) where
  hears_all : (c : ℕ) → is_open c notes ≡ true → hears table false c ≡ true
  hears_all c opened = let is = holds.opens c ∙ opened in rw is refl

  all_hear : (slots : List ℕ) → AreOpen (λ c. is_open c notes) slots → filter (hears table false) slots ≡ slots
  all_hear [] opened = refl
  all_hear (c ∷ slots) opened = let here = hears_all c opened.0 in rw here (ap (λ (l : List ℕ). c ∷ l) (all_hear slots opened.1))

  hears_some : (c : ℕ) → hears table true c ≡ wants_exceptions c notes
  hears_some c = by (is_open c notes) refl
    where
      by : (t : Bool) → is_open c notes ≡ t → hears table true c ≡ (t && has_option c notes)
      by true e =
          let is = holds.opens c ∙ e in
          let option = ap (λ (s : Seen). s.has_option) (holds.seen c e) in
          rw (is, option) refl
      by false e = let is = holds.opens c ∙ e in rw is refl

  pub hearers_are : (exceptions_only : Bool) (slots : List ℕ) → AreOpen (λ c. is_open c notes) slots → filter (hears table exceptions_only) slots ≡ hearers exceptions_only slots notes
  hearers_are true slots opened = filter_alike (hears table true) (λ c. wants_exceptions c notes) slots hears_some
  hearers_are false slots opened = all_hear slots opened

  pub others_are : (slots : List ℕ) → AreOpen (λ c. is_open c notes) slots
      → filter (hears table false) (filter (λ c. not (hears table true c)) slots) ≡ filter (λ c. not (wants_exceptions c notes)) slots
  others_are slots opened =
      all_hear (filter (λ c. not (hears table true c)) slots) (some_open (λ c. is_open c notes) (λ c. not (hears table true c)) slots opened)
      ∙ filter_alike (λ c. not (hears table true c)) (λ c. not (wants_exceptions c notes)) slots (λ c. ap not (hears_some c))

-- ---- jobs that run

pub reported_runs : (old new : Table) (n : ℕ) (a b : List ℕ) (result : Result (Unit {0}) AllocError) → OnOk result (Changes n (reported a b) old new) → OnErr result (new ≡ old)
    → IsRunning (job old n) → IsRunning (job new n)
reported_runs old new n a b (Ok done) ok err runs = subst IsRunning (sym (ok.jobs n)) (by (n == n) (job old n) runs)
  where
    by : (t : Bool) (o : Option Live) → IsRunning o → IsRunning (if t then option_map (reported a b) o else o)
    by true (Some l) runs = runs
    by true None runs = runs
    by false o runs = runs
reported_runs old new n a b (Err wanting) ok err runs = subst (λ (t : Table). IsRunning (job t n)) (sym err) runs

-- ---- what is said

-- a report that is kept changes nothing of who hears
heard_after : (n : ℕ) (answer : Answer) (exceptions_only : Bool) (told : Option (List ℕ × List ℕ)) (p : Past)
    → tell_all answer (hearers exceptions_only (listeners n (keep_report n told p).notes) (keep_report n told p).notes) (keep_report n told p)
    ≡ tell_all answer (hearers exceptions_only (listeners n p.notes) p.notes) (keep_report n told p)
heard_after n answer true None p = refl
heard_after n answer false None p = refl
heard_after n answer true (Some numbers) p = refl
heard_after n answer false (Some numbers) p = refl

pub told_after : (k : Settings) (w : Work) (ends : Bool) (n : ℕ) (p : Past) → (w.exceptions_only && w.ends) ≡ false → ends ≡ w.ends
    → end_if ends n (tell_all w.answer (hearers w.exceptions_only (listeners n (keep_report n w.report p).notes) (keep_report n w.report p).notes) (keep_report n w.report p))
    ≡ tell_work k w n p
told_after k w ends n p alone is =
    ap (λ (t : Bool). end_if t n (tell_all w.answer (hearers w.exceptions_only (listeners n (keep_report n w.report p).notes) (keep_report n w.report p).notes) (keep_report n w.report p))) is
    ∙ (ap (end_if w.ends n) (heard_after n w.answer w.exceptions_only w.report p)
    ∙ ap (λ (t : Bool). end_if w.ends n (tell_others t (work_fail (handle k n)) (listeners n p.notes) p.notes (tell_all w.answer (hearers w.exceptions_only (listeners n p.notes) p.notes) (keep_report n w.report p))))
    (sym alone))

-- an exception is no report, and ends its job
pub excepted : (k : Settings) (w : Work) (n : ℕ) (p : Past) → w.exceptions_only ≡ true → w.ends ≡ true → w.report ≡ None
    → (let told = tell_all w.answer (hearers true (listeners n p.notes) p.notes) p in end_if true n (tell_others true (work_fail (handle k n)) (listeners n told.notes) told.notes told))
    ≡ tell_work k w n p
excepted k w n p only ends none =
    let told = tell_all w.answer (hearers true (listeners n p.notes) p.notes) p in
    ap (λ (l : List Note). end_if true n (tell_others true (work_fail (handle k n)) (listeners n l) l told)) (told_notes w.answer (hearers true (listeners n p.notes) p.notes) p)
    ∙ rw (only, ends, none) refl

-- a packet that doesn't end its job as an exception ends it as it says itself
pub ends_itself : (ends only by_exception : Bool) → (only && (ends || (only && by_exception))) ≡ false → ends ≡ (ends || (only && by_exception))
ends_itself true only t e = refl
ends_itself false true t e = sym e
ends_itself false false t e = refl

pub works_there : (k : Settings) (c : ℕ) (w : Work) (n : ℕ) (o : Option ℕ) (p : Past) → Some n ≡ running_there c o p.notes → tell_work k w n p ≡ work_on k c w o p
works_there k c w n None p e = absurd cc
works_there k c w n (Some m) p e = by (is_running_at c (job_state m p.notes)) e
  where
    by : (t : Bool) → Some n ≡ (if t then Some m else None) → tell_work k w n p ≡ (if t then tell_work k w m p else refuse c (codes "job_not_found") p)
    by true e = ap (λ (x : ℕ). tell_work k w x p) (some_same n m e)
    by false e = absurd cc

pub works_nowhere : (k : Settings) (c : ℕ) (w : Work) (o : Option ℕ) (p : Past) → (let none : Option ℕ = None in none) ≡ running_there c o p.notes
    → refuse c (codes "job_not_found") p ≡ work_on k c w o p
works_nowhere k c w None p e = refl
works_nowhere k c w (Some m) p e = by (is_running_at c (job_state m p.notes)) e
  where
    by : (t : Bool) → (let none : Option ℕ = None in none) ≡ (if t then Some m else None) → refuse c (codes "job_not_found") p ≡ (if t then tell_work k w m p else refuse c (codes "job_not_found") p)
    by true e = absurd cc
    by false e = refl

-- room is nothing that the past tells of
pub goes_with_room : {old new : Tables} → OnlyConns old new → Roomed old.conns new.conns → Goes old new (λ past. past)
goes_with_room {old} {new} only roomed =
    goes_then {a = old} {b = record old { conns = new.conns }}
    (record {
      config = refl;
      others = touched_roomed roomed;
      past = λ p keeps. record { conns = holds_roomed roomed keeps.conns; functions = keeps.functions; jobs = keeps.jobs; moment = keeps.moment; mode = keeps.mode };
    })
    (goes_nothing {a = record old { conns = new.conns }} {b = new} only.config refl only.functions only.jobs only.moment only.mode)

-- what is told to some slots is told to them in the past
pub told_to : (old : Tables) (told : conns.Table) (text heard : List ℕ) (who : Past → List ℕ) → AllTouched old.conns told
    → ((k : Settings) (names : List (List ℕ)) (facts : ConnFacts) (bytes : ℕ → List ℕ) → HoldsConns k old.conns names facts bytes
    → HoldsConns k told names facts (poured text heard bytes))
    → ((p : Past) → Keeps old p → heard ≡ who p)
    → (answer : Answer) → text ≡ answer_packet answer → Goes old (record old { conns = told }) (λ past. tell_all answer (who past) past)
told_to old told text heard who touched pours they_are answer is_text = record {
  config = refl;
  others = touched;
  past = λ p keeps.
      let notes : (tell_all answer (who p) p).notes ≡ p.notes = told_notes answer (who p) p in
      let now = they_are p keeps in
      let held = subst (λ (w : ℕ → List ℕ). HoldsConns old.config told old.functions.names (conn_facts p.notes) w)
      ((λ i. poured (is_text i) (now i) (λ d. waiting d p.flow)) ∙ poured_is answer (who p) p)
      (pours old.config old.functions.names (conn_facts p.notes) (λ d. waiting d p.flow) keeps.conns) in
      record {
        conns = subst (λ (l : List Note). HoldsConns old.config told old.functions.names (conn_facts l) (λ d. waiting d (tell_all answer (who p) p).flow)) (sym notes) held;
        functions = subst (λ (l : List Note). HoldsFunctions old.config old.functions (function_facts l)) (sym notes) keeps.functions;
        jobs = subst (λ (l : List Note). HoldsJobs old.config old.functions old.jobs (conn_facts l).is_open (job_facts l)) (sym notes) keeps.jobs;
        moment = keeps.moment ∙ ap moment_of (sym notes);
        mode = keeps.mode ∙ ap mode_of (sym notes);
      };
}

-- what is told to those who listen to a job that runs is told in the past
pub told_goes : (old : Tables) (told : conns.Table) (n : ℕ) (e : Bool) (text slots : List ℕ) → IsRunning (job old.jobs n) → slots ≡ listeners_of (job old.jobs n) → AllTouched old.conns told
    → ((k : Settings) (names : List (List ℕ)) (facts : ConnFacts) (bytes : ℕ → List ℕ) → HoldsConns k old.conns names facts bytes
    → HoldsConns k told names facts (poured text (filter (hears old.conns e) slots) bytes))
    → (answer : Answer) → text ≡ answer_packet answer → Goes old (record old { conns = told }) (λ past. tell_all answer (hearers e (listeners n past.notes) past.notes) past)
told_goes old told n e text slots runs listening touched pours answer is_text =
    told_to old told text (filter (hears old.conns e) slots) (λ past. hearers e (listeners n past.notes) past.notes) touched pours
    (λ p keeps.
    let it = running old.jobs n runs in
    let is = keeps.jobs.live n it.live it.at in
    ap (filter (hears old.conns e)) (listening ∙ ap listeners_of it.at)
    ∙ (hearers_are old.config old.conns old.functions.names p.notes (λ d. waiting d p.flow) keeps.conns e it.live.listeners is.heard
    ∙ ap (λ (l : List ℕ). hearers e l p.notes) (sym is.listeners)))
    answer is_text

-- the same of those who don't get what is only for connections with the option
pub told_others : (old : Tables) (told : conns.Table) (n : ℕ) (text slots : List ℕ) → IsRunning (job old.jobs n)
    → slots ≡ filter (λ d. not (hears old.conns true d)) (listeners_of (job old.jobs n)) → AllTouched old.conns told
    → ((k : Settings) (names : List (List ℕ)) (facts : ConnFacts) (bytes : ℕ → List ℕ) → HoldsConns k old.conns names facts bytes
    → HoldsConns k told names facts (poured text (filter (hears old.conns false) slots) bytes))
    → (answer : Answer) → text ≡ answer_packet answer
    → Goes old (record old { conns = told }) (λ past. tell_others true answer (listeners n past.notes) past.notes past)
told_others old told n text slots runs they_are touched pours answer is_text =
    told_to old told text (filter (hears old.conns false) slots) (λ past. filter (λ d. not (wants_exceptions d past.notes)) (listeners n past.notes)) touched pours
    (λ p keeps.
    let it = running old.jobs n runs in
    let is = keeps.jobs.live n it.live it.at in
    ap (filter (hears old.conns false)) (they_are ∙ ap (λ (o : Option Live). filter (λ d. not (hears old.conns true d)) (listeners_of o)) it.at)
    ∙ (others_are old.config old.conns old.functions.names p.notes (λ d. waiting d p.flow) keeps.conns it.live.listeners is.heard
    ∙ ap (filter (λ d. not (wants_exceptions d p.notes))) (sym is.listeners)))
    answer is_text

-- the same, where what was told was written before
pub told_each : (ready : Tables) (told : conns.Table) (text : Text) (n : ℕ) (e : Bool) (slots : List ℕ) → IsRunning (job ready.jobs n) → slots ≡ listeners_of (job ready.jobs n)
    → AllTouched ready.conns told
    → ((k : Settings) (names : List (List ℕ)) (facts : ConnFacts) (bytes : ℕ → List ℕ) → HoldsConns k ready.conns names facts bytes
    → HoldsConns k told names facts (poured ready.text.bytes (filter (hears ready.conns e) slots) bytes))
    → (answer : Answer) → ready.text.bytes ≡ answer_packet answer
    → Goes ready (record ready { conns = told; text = text }) (λ past. tell_all answer (hearers e (listeners n past.notes) past.notes) past)
told_each ready told text n e slots runs listening touched pours answer is_text =
    goes_then {a = ready} {b = record ready { conns = told }}
    (told_goes ready told n e ready.text.bytes slots runs listening touched pours answer is_text)
    (goes_nothing {a = record ready { conns = told }} {b = record ready { conns = told; text = text }} refl refl refl refl refl refl)

-- ---- two texts, one for those who hear and one for others

module _ (first second : conns.Table) (more : Roomed first second) (slots : List ℕ) (cost : ℕ)
    (fits : (c : ℕ) → needed cost c (filter (hears first true) slots) ≤ (conns.conn first c).room) where
  alike : filter (hears second true) slots ≡ filter (hears first true) slots
  alike = filter_alike (hears second true) (hears first true) slots (hears_roomed first second true more)

  -- when the first was told, the room for the second is still there
  pub room_left : (others : List ℕ) (count : ℕ) → ((c : ℕ) → (conns.conn first c).room + needed count c (filter (hears first false) others) ≤ (conns.conn second c).room)
      → (told : conns.Table) → Poured cost (filter (hears second true) slots) second told → (c : ℕ) → needed count c (filter (hears told false) others) ≤ (conns.conn told c).room
  room_left others count beside told pours c =
      let same : filter (hears told false) others ≡ filter (hears first false) others =
      filter_alike (hears told false) (hears first false) others (λ d. pours.hear false d ∙ hears_roomed first second false more d) in
      let spent = subst (λ (l : List ℕ). (conns.conn second c).room ≤ (conns.conn told c).room + needed cost c l) alike (pours.room c) in
      let enough = subst (λ (l : List ℕ). (conns.conn first c).room + needed count c l ≤ (conns.conn second c).room) (sym same) (beside c) in
      let has = fits c in
      omega (arith, spent, enough, has)
