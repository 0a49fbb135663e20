-- A connection that goes, and who listens no more.
use Rattle.std.proofs.Common.{◌≡◌, ℕ, ◌≤◌, ◌^◌, Bool, true, false, not, ◌==◌, if◌then◌else◌, List, [], ◌∷◌, filter, Option}
use Rattle.std.proofs.Common.{Some, None, unwrap_or, refl, sym, ap, subst, ◌∙◌}
use Rattle.std.specs.Option.{option_map}
use Rattle.std.proofs.lemmas.Bool.{false≢true}
use Rattle.gm_notes.specs.declared.note.Note.{Note}
use Rattle.gm_notes.specs.declared.note.Note.TheVariants.{Closed}
use Rattle.gm_notes.specs.declared.states.Phase.TheVariants.{Awake}
use Rattle.gm_notes.specs.Settings.{Settings}
use Rattle.gm_notes.specs.Flow.{Emptied, waiting}
use Rattle.gm_notes.specs.Notes.{is_open}
use Rattle.gm_notes.specs.Past.{Past, with_note, with_flow}
use Rattle.gm_conns.specs.Connections.{Connection, closed}
use Rattle.gm_conns.specs.ConnTables.{Table, conn, Changes}
use Rattle.gm_queues.specs.FunctionTables as queues
use Rattle.gm_jobs.specs.Live.{Live, without_listener}
use Rattle.gm_jobs.specs.Tables.{place_or, is_made, Leaves}
use Rattle.gm_jobs.specs.Tables as jobs
use Rattle.gm_core.specs.declared.server.Tables.{Tables}
use Rattle.gm_core.specs.Facts.{Seen, seen, conn_facts, job_facts}
use Rattle.gm_core.specs.Holds.{NamesFunctions, AreOpen, HoldsConns, HoldsJobs, IsJob, Holds, Goes, shown}
use Rattle.gm_core.proofs.ConnLemmas.{touched_told}
use Rattle.gm_core.proofs.JobLemmas.{was_live, made_same}

pub conns_closed : (k : Settings) (old new : Table) (names : List (List ℕ)) (c : ℕ) (told : Bool) (p : Past) → Changes c (λ _. closed) told old new
    → HoldsConns k old names (conn_facts p.notes) (λ d. waiting d p.flow)
    → HoldsConns k new names (conn_facts (Closed c ∷ p.notes)) (λ d. waiting d (Emptied c ∷ p.flow))
conns_closed k old new names c told p changes holds = record {
  slots = changes.slots ∙ holds.slots;
  opens = λ d. ap (λ (x : Connection). x.is_open) (changes.conns d) ∙ opens d (d == c) (holds.opens d);
  seen = λ d e. ap (shown names) (changes.conns d) ∙ sees d (d == c) e (seen d p.notes) (holds.seen d);
  waiting = λ d. ap (λ (x : Connection). x.waiting) (changes.conns d) ∙ waits d (d == c) (holds.waiting d);
  able = λ d. subst (NamesFunctions names) (sym (changes.conns d)) (able d (d == c));
}
  where
    opens : (d : ℕ) (t : Bool) → (conn old d).is_open ≡ is_open d p.notes → (if t then closed else conn old d).is_open ≡ unwrap_or (if t then Some false else None) (is_open d p.notes)
    opens d true e = refl
    opens d false e = e

    sees : (d : ℕ) (t : Bool) → unwrap_or (if t then Some false else None) (is_open d p.notes) ≡ true → (s : Seen) → (is_open d p.notes ≡ true → shown names (conn old d) ≡ s)
        → shown names (if t then closed else conn old d)
        ≡ record s { phase = unwrap_or (if t then Some Awake else None) s.phase; abilities = if t then [] else s.abilities }
    sees d true e s shows = absurd (false≢true e)
    sees d false e s shows = shows e

    waits : (d : ℕ) (t : Bool) → (conn old d).waiting ≡ waiting d p.flow → (if t then closed else conn old d).waiting ≡ (if t then [] else waiting d p.flow)
    waits d true e = refl
    waits d false e = e

    able : (d : ℕ) (t : Bool) → NamesFunctions names (if t then closed else conn old d)
    able d true = (tt, tt)
    able d false = holds.able d

-- the listeners that are left are open still
heard_still : (notes : List Note) (c : ℕ) (slots : List ℕ) → AreOpen (λ d. is_open d notes) slots
    → AreOpen (λ d. is_open d (Closed c ∷ notes)) (filter (λ d. not (d == c)) slots)
heard_still notes c [] all = tt
heard_still notes c (d ∷ slots) all = by (d == c) refl (heard_still notes c slots all.1)
  where
    by : (t : Bool) → (d == c) ≡ t → AreOpen (λ d. is_open d (Closed c ∷ notes)) (filter (λ d. not (d == c)) slots)
        → AreOpen (λ d. is_open d (Closed c ∷ notes)) (if not t then d ∷ filter (λ d. not (d == c)) slots else filter (λ d. not (d == c)) slots)
    by true e rest = rest
    by false e rest = (ap (λ t. unwrap_or (if t then Some false else None) (is_open d notes)) e ∙ all.0, rest)

place_kept : (c : ℕ) (made : Bool) (o : Option Live) → place_or (option_map (without_listener c) o) made ≡ place_or o made
place_kept c made None = refl
place_kept c made (Some live) = refl

pub jobs_closed : (k : Settings) (functions : queues.Table) (old new : jobs.Table) (notes : List Note) (c : ℕ) → Leaves c old new
    → HoldsJobs k functions old (λ d. is_open d notes) (job_facts notes) → HoldsJobs k functions new (λ d. is_open d (Closed c ∷ notes)) (job_facts (Closed c ∷ notes))
jobs_closed k functions old new notes c leaves holds = record {
  first = leaves.first ∙ holds.first;
  next = leaves.next ∙ holds.next;
  most = subst (λ x. x ≤ 2 ^ 64) (sym leaves.next) holds.most;
  made = holds.made;
  came = holds.came;
  begins = holds.begins;
  numbered = λ m l e.
      let was = was_live (without_listener c) true (jobs.job old m) l (sym (leaves.jobs m) ∙ e) in
      made_same old new m leaves.first leaves.next ∙ holds.numbered m was.before was.is;
  places = λ m.
      ap (λ o. place_or o (is_made new m)) (leaves.jobs m)
      ∙ (place_kept c (is_made new m) (jobs.job old m) ∙ (ap (place_or (jobs.job old m)) (made_same old new m leaves.first leaves.next) ∙ holds.places m));
  live = λ m l e.
      let was = was_live (without_listener c) true (jobs.job old m) l (sym (leaves.jobs m) ∙ e) in
      subst (λ (x : Live). IsJob functions.names x (job_facts (Closed c ∷ notes)) (λ d. is_open d (Closed c ∷ notes)) m) was.became (each m was.before (holds.live m was.before was.is));
  counts = λ m l e.
      let was = was_live (without_listener c) true (jobs.job old m) l (sym (leaves.jobs m) ∙ e) in
      ap (λ (x : Live). x.returns) (sym was.became) ∙ holds.counts m was.before was.is;
  queues = holds.queues;
  room = holds.room;
}
  where
    each : (m : ℕ) (l : Live) → IsJob functions.names l (job_facts notes) (λ d. is_open d notes) m
        → IsJob functions.names (without_listener c l) (job_facts (Closed c ∷ notes)) (λ d. is_open d (Closed c ∷ notes)) m
    each m l is = record {
      function = is.function;
      job = is.job;
      job_state = is.job_state;
      kept = is.kept;
      listeners = ap (λ (x : List ℕ). filter (λ d. not (d == c)) x) is.listeners;
      report = is.report;
      deadline = is.deadline;
      heard = heard_still notes c l.listeners is.heard;
    }

-- only connections and jobs of a core changed
pub record OnlyConnsAndJobs (old new : Tables) : Type 0 where
  pub config : new.config ≡ old.config
  pub functions : new.functions ≡ old.functions
  pub moment : new.moment ≡ old.moment
  pub mode : new.mode ≡ old.mode

pub goes_closed : {old new : Tables} (c : ℕ) → OnlyConnsAndJobs old new → Changes c (λ _. closed) true old.conns new.conns → Leaves c old.jobs new.jobs
    → Goes old new (λ past. with_flow (Emptied c) (with_note (Closed c) past))
goes_closed {old} {new} c only changes leaves = record {
  config = only.config;
  others = touched_told c changes;
  past = λ p keeps.
      let step : Past = with_flow (Emptied c) (with_note (Closed c) p) in
      let held : Holds old.config new.conns old.functions new.jobs old.moment old.mode step =
      record {
        conns = conns_closed old.config old.conns new.conns old.functions.names c true p changes keeps.conns;
        functions = keeps.functions;
        jobs = jobs_closed old.config old.functions old.jobs new.jobs p.notes c leaves keeps.jobs;
        moment = keeps.moment;
        mode = keeps.mode;
      } in
      subst (λ x. Holds new.config new.conns new.functions new.jobs new.moment x step) (sym only.mode)
      (subst (λ x. Holds new.config new.conns new.functions new.jobs x old.mode step) (sym only.moment)
      (subst (λ x. Holds new.config new.conns x new.jobs old.moment old.mode step) (sym only.functions)
      (subst (λ x. Holds x new.conns old.functions new.jobs old.moment old.mode step) (sym only.config) held)));
}
