-- What text lines do to a core.
use Rattle.std.proofs.Common.{◌≡◌, ◌≢◌, ℕ, ◌≤◌, Bool, true, false, ◌==◌, if◌then◌else◌, List, [], ◌∷◌, ◌++◌, length, Option}
use Rattle.std.proofs.Common.{Some, None, unwrap_or, refl, sym, ap, subst, ◌∙◌, arith}
use Rattle.std.specs.Prelude.{IsSome, IsNone, is_some, slice_get}
use Rattle.std.specs.Str.{bytes_eq}
use Rattle.std.proofs.lemmas.Bool.Decides.{nat_tests}
use Rattle.std.proofs.lemmas.Slice.Eq.{bytes_eq-Decides}
use Rattle.gm_notes.specs.declared.note.Note.{Note}
use Rattle.gm_notes.specs.declared.note.Note.TheVariants.{Limit, Went}
use Rattle.gm_notes.specs.declared.states.Mode.{Mode}
use Rattle.gm_notes.specs.declared.states.Priority.{Priority}
use Rattle.gm_notes.specs.declared.states.Mode.TheVariants.{Running, Graceful, Stopped}
use Rattle.gm_notes.specs.Settings.{Settings}
use Rattle.gm_notes.specs.Notes.{slots_from, accepts_connections}
use Rattle.gm_notes.specs.Flow.{waiting}
use Rattle.gm_notes.specs.Past.{Past, with_note, with_output, with_mention}
use Rattle.gm_notes.specs.Lines.{shut_each, go_graceful}
use Rattle.gm_queues.specs.FunctionTables.{Table, number_of, limit, SetsLimit, ChangesNames, IsFree}
use Rattle.gm_jobs.specs.Tables as jobs
use Rattle.gm_core.specs.declared.server.Tables.{Tables}
use Rattle.gm_core.specs.Facts.{JobFacts, conn_facts, function_facts, job_facts}
use Rattle.gm_core.specs.Holds.{name_at, limit_named, jobs_named, HoldsConns, HoldsFunctions, HoldsJobs, Holds, Keeps, Goes}
use Rattle.gm_core.proofs.ConnLemmas.{touched_same}
use Rattle.gm_core.proofs.FunctionLemmas.{number_is, some_same, is_none_of, known, anew}
use Rattle.gm_core.proofs.MentionLemmas.{number_here}
use Rattle.gm_core.proofs.CoreLemmas.{goes_functions, goes_as, goes_nothing, goes_mention}

-- ---- the mode

-- only the mode of a core changed
pub record OnlyMode (old new : Tables) : Type 0 where
  pub config : new.config ≡ old.config
  pub conns : new.conns ≡ old.conns
  pub functions : new.functions ≡ old.functions
  pub jobs : new.jobs ≡ old.jobs
  pub moment : new.moment ≡ old.moment

pub goes_went : (old new : Tables) (m : Mode) → OnlyMode old new → new.mode ≡ m → Goes old new (with_note (Went m))
goes_went old new m only is = record {
  config = only.config;
  others = touched_same only.conns;
  past = λ p keeps.
      let step : Past = with_note (Went m) p in
      let held : Holds old.config old.conns old.functions old.jobs old.moment m step =
      record { conns = keeps.conns; functions = keeps.functions; jobs = keeps.jobs; moment = keeps.moment; mode = refl } in
      subst (λ x. Holds new.config new.conns new.functions new.jobs new.moment x step) (sym is)
      (subst (λ x. Holds new.config new.conns new.functions new.jobs x m step) (sym only.moment)
      (subst (λ x. Holds new.config new.conns new.functions x old.moment m step) (sym only.jobs)
      (subst (λ x. Holds new.config new.conns x old.jobs old.moment m step) (sym only.functions)
      (subst (λ x. Holds new.config x old.functions old.jobs old.moment m step) (sym only.conns)
      (subst (λ x. Holds x old.conns old.functions old.jobs old.moment m step) (sym only.config) held)))));
}

pub turned : (m : Mode) (past : Past) → accepts_connections m ≡ true → with_note (Went Graceful) past ≡ go_graceful m past
turned Running past e = refl
turned Graceful past e = absurd cc
turned Stopped past e = absurd cc

pub not_turned : (m : Mode) (past : Past) → accepts_connections m ≡ false → past ≡ go_graceful m past
not_turned Running past e = absurd cc
not_turned Graceful past e = refl
not_turned Stopped past e = refl

-- it doesn't matter that the answer is queued first
pub turned_told : (c : ℕ) (text : List ℕ) (m : Mode) (past : Past) → go_graceful m (with_output c text past) ≡ with_output c text (go_graceful m past)
turned_told c text Running past = refl
turned_told c text Graceful past = refl
turned_told c text Stopped past = refl

-- ---- limits

module _ (old new : Table) (name : List ℕ) (f size : ℕ) (at : number_of name old ≡ Some f) (changes : SetsLimit f size old new) where
  number_same : (g : List ℕ) → number_of g new ≡ number_of g old
  number_same g = ap (λ (l : List (List ℕ)). number_of g (record old { names = l })) changes.names

  other : (g : List ℕ) (h : ℕ) → number_of g old ≡ Some h → bytes_eq name g ≡ false → (f == h) ≡ false
  other g h there apart = by (f == h) refl
    where
      by : (t : Bool) → (f == h) ≡ t → (f == h) ≡ false
      by false e = e
      by true e =
          let same : f ≡ h = grind (arith, nat_tests) in
          let is : name ≡ g = sym (number_is name old f at) ∙ (ap (name_at old.names) same ∙ number_is g old h there) in
          let wrong : bytes_eq name g ≡ true = (bytes_eq-Decides name g).1 is in
          absurd cc

  limited : (g : List ℕ) (t : Bool) → bytes_eq name g ≡ t → (o : Option ℕ) → number_of g old ≡ o → (was : ℕ) → limit_named o old ≡ was
      → limit_named (number_of g new) new ≡ unwrap_or (if t then Some size else None) was
  limited g true e o there was is =
      let one : name ≡ g = (bytes_eq-Decides name g).0 e in
      let here : number_of g new ≡ Some f = number_same g ∙ (ap (λ n. number_of n old) (sym one) ∙ at) in
      let itself : (f == f) ≡ true = grind (arith, nat_tests) in
      let now : limit new f ≡ size = changes.limits f ∙ ap (λ t. if t then size else limit old f) itself in
      ap (λ o. limit_named o new) here ∙ now
  limited g false e None there was is = ap (λ o. limit_named o new) (number_same g ∙ there) ∙ is
  limited g false e (Some h) there was is =
      let kept : limit new h ≡ limit old h = changes.limits h ∙ ap (λ t. if t then size else limit old h) (other g h there e) in
      ap (λ o. limit_named o new) (number_same g ∙ there) ∙ (kept ∙ is)

  functions_limited : (k : Settings) (notes : List Note) → HoldsFunctions k old (function_facts notes) → HoldsFunctions k new (function_facts (Limit name size ∷ notes))
  functions_limited k notes holds = record {
    most = changes.most ∙ holds.most;
    few = let few = holds.few in subst (λ (l : List (List ℕ)). length l ≤ new.most) (sym changes.names) (subst (λ n. length old.names ≤ n) (sym changes.most) few);
    names = changes.names ∙ holds.names;
    distinct = λ g n there. number_same n ∙ holds.distinct g n (ap (λ (l : List (List ℕ)). slice_get l g) (sym changes.names) ∙ there);
    limits = λ g. limited g (bytes_eq name g) refl (number_of g old) refl _ (holds.limits g);
  }

-- jobs don't tell of limits
jobs_stay : (table : Table) (limits : List ℕ) (o : Option ℕ) (p : Priority) → jobs_named o p (record table { limits = limits }) ≡ jobs_named o p table
jobs_stay table limits None p = refl
jobs_stay table limits (Some f) p = refl

jobs_limited : {k : Settings} {table : Table} {live : jobs.Table} {is_open : ℕ → Bool} {facts : JobFacts} (limits : List ℕ) → HoldsJobs k table live is_open facts
    → HoldsJobs k (record table { limits = limits }) live is_open facts
jobs_limited {k} {table} {live} {is_open} {facts} limits holds = record {
  first = holds.first;
  next = holds.next;
  most = holds.most;
  made = holds.made;
  came = holds.came;
  begins = holds.begins;
  numbered = holds.numbered;
  places = holds.places;
  live = holds.live;
  counts = holds.counts;
  queues = λ name p. jobs_stay table limits (number_of name table) p ∙ holds.queues name p;
  room = holds.room;
}

pub goes_limit : (old : Tables) (new : Table) (name : List ℕ) (f size : ℕ) → number_of name old.functions ≡ Some f → SetsLimit f size old.functions new
    → Goes old (record old { functions = new }) (with_note (Limit name size))
goes_limit old new name f size at changes =
    goes_functions old new (with_note (Limit name size))
    (λ p keeps.
    let same : record old.functions { limits = new.limits } ≡ new =
    (λ i. record { seed = sym changes.seed i; most = sym changes.most i; names = sym changes.names i; limits = new.limits; queues = sym changes.queues i }) in
    record {
      conns = subst (λ (l : List (List ℕ)). HoldsConns old.config old.conns l (conn_facts p.notes) (λ c. waiting c p.flow)) (sym changes.names) keeps.conns;
      functions = functions_limited old.functions new name f size at changes old.config p.notes keeps.functions;
      jobs = subst (λ (t : Table). HoldsJobs old.config t old.jobs (conn_facts p.notes).is_open (job_facts p.notes)) same (jobs_limited new.limits keeps.jobs);
      moment = keeps.moment;
      mode = keeps.mode;
    })

-- ---- a function that is mentioned, if it wasn't

is_some_of : {A : Type 0} (o : Option A) (x : A) → o ≡ Some x → IsSome o
is_some_of o x e = ap is_some e

pub goes_mentioned : (old : Tables) (new : Table) (name : List ℕ) (f : ℕ) → number_of name new ≡ Some f → (IsSome (number_of name old.functions) → new ≡ old.functions)
    → (IsNone (number_of name old.functions) → ChangesNames (old.functions.names ++ name ∷ []) old.functions new)
    → (IsNone (number_of name old.functions) → IsFree f new)
    → (IsNone (number_of name old.functions) → length old.functions.names ≢ old.functions.most)
    → Goes old (record old { functions = new }) (with_mention name)
goes_mentioned old new name f found stays fresh free room = by (number_of name old.functions) refl
  where
    by : (o : Option ℕ) → number_of name old.functions ≡ o → Goes old (record old { functions = new }) (with_mention name)
    by (Some g) e =
        goes_as (with_mention name) (goes_nothing refl refl (stays (is_some_of (number_of name old.functions) g e)) refl refl refl)
        (λ p keeps. let there = known old.config old.functions p.notes keeps.functions name g e in rw there refl)
    by None e =
        let none = is_none_of (number_of name old.functions) e in
        let here : f ≡ length old.functions.names = some_same f (length old.functions.names) (sym found ∙ number_here old.functions new name e (fresh none)) in
        goes_as (with_mention name) (goes_mention old new name e (fresh none) (subst (λ g. IsFree g new) here (free none)) (room none))
        (λ p keeps. let absent = anew old.config old.functions p.notes keeps.functions name e in rw absent refl)

-- ---- connections that are shut, one after another

-- the core keeps a past from which shutting these slots leads where shutting all led from the first
pub record Shutting (core : Tables) (slot left : ℕ) (k : Settings) (past : Past) : Type 0 where
  pub now : Past
  pub keeps : Keeps core now
  pub leads : shut_each (slots_from 0 k.slots) past ≡ shut_each (slots_from slot left) now
