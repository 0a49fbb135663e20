-- What a live job's place decides, and a core in which only jobs and queues changed.
use Rattle.std.proofs.Common.{◌≡◌, ℕ, ◌≤◌, Bool, true, false, not, ◌&&◌, ◌||◌, ◌==◌, if◌then◌else◌, List}
use Rattle.std.proofs.Common.{length, Option, Some, None, refl, sym, ap, subst, ◌∙◌, arith}
use Rattle.std.specs.Prelude.{slice_index, slice_get}
use Rattle.std.proofs.lemmas.Bool.{false≢true}
use Rattle.std.proofs.lemmas.Bool.Decides.{nat_tests}
use Rattle.gm_notes.specs.declared.note.Note.TheVariants.{Discarded}
use Rattle.gm_notes.specs.Settings.{Settings}
use Rattle.gm_notes.specs.Notes.{moment, mode}
use Rattle.gm_notes.specs.Flow.{Flow, waiting}
use Rattle.gm_notes.specs.Past.{Past, with_note}
use Rattle.gm_notes.specs.Jobs.{job_state, is_wanted}
use Rattle.gm_notes.specs.JobStates.{is_running_at}
use Rattle.gm_notes.specs.Closings.{give_back_one, return_or_lose}
use Rattle.gm_conns.specs.ConnTables as conns
use Rattle.gm_queues.specs.FunctionTables.{number_of}
use Rattle.gm_queues.specs.FunctionTables as queues
use Rattle.gm_jobs.specs.declared.job.LivePlace.{LivePlace}
use Rattle.gm_jobs.specs.declared.job.LivePlace.TheVariants.{Waiting, Running}
use Rattle.gm_jobs.specs.declared.job.LivePlace.TheVariants as live_places
use Rattle.gm_jobs.specs.Live.{Live, waits, runs_at, is_run_by, is_orphan, is_wanted as is_wanted_live}
use Rattle.gm_jobs.specs.Tables.{Table, job, passes, Ends}
use Rattle.gm_core.specs.declared.server.Tables.{Tables}
use Rattle.gm_core.specs.Facts.{ConnFacts, FunctionFacts, conn_facts, function_facts, job_facts}
use Rattle.gm_core.specs.Holds.{job_state_at, limit_named, HoldsConns, HoldsFunctions, HoldsJobs, Holds, Keeps, Goes}
use Rattle.gm_core.specs.Ticks.{OthersStay}
use Rattle.gm_core.proofs.ConnLemmas.{touched_same}
use Rattle.std.proofs.lemmas.Bool.{eqb-true}

-- ---- what a job is

pub orphan_waits : (live : Live) → is_orphan live ≡ true → live.live_place ≡ Waiting
orphan_waits live e = by live.live_place e
  where
    by : (s : LivePlace) → (waits s && not live.kept && length live.listeners == 0) ≡ true → s ≡ Waiting
    by Waiting e = refl
    by (Running c) e = absurd (false≢true e)
    by live_places.Lost e = absurd (false≢true e)

pub run_there : (slot : ℕ) (live : Live) → is_run_by slot live ≡ true → live.live_place ≡ Running slot
run_there slot live e = by live.live_place e
  where
    by : (s : LivePlace) → runs_at slot s ≡ true → s ≡ Running slot
    by Waiting e = absurd (false≢true e)
    by (Running c) e = ap (λ (x : ℕ). Running x) (eqb-true c slot e)
    by live_places.Lost e = absurd (false≢true e)

-- only the job that ends changes
pub others_stay : (n : ℕ) (old new : Table) → Ends n old new → OthersStay n old new
others_stay n old new ends m differs = ends.jobs m ∙ by (n == m) refl
  where
    by : (t : Bool) → (n == m) ≡ t → (if t then None else job old m) ≡ job old m
    by true e = let same : m ≡ n = grind (arith, nat_tests) in absurd (differs same)
    by false e = refl

-- ---- jobs and queues of a core that changed

-- the connections of a core stay, and so do the functions, but for their queues
pub record OnlyQueues (old new : Tables) : Type 0 where
  pub config : new.config ≡ old.config
  pub conns : new.conns ≡ old.conns
  pub moment : new.moment ≡ old.moment
  pub mode : new.mode ≡ old.mode
  pub most : new.functions.most ≡ old.functions.most
  pub names : new.functions.names ≡ old.functions.names
  pub limits : new.functions.limits ≡ old.functions.limits

module _ (k : Settings) (old new : queues.Table) (most : new.most ≡ old.most) (names : new.names ≡ old.names) (limits : new.limits ≡ old.limits) where
  number_still : (name : List ℕ) → number_of name new ≡ number_of name old
  number_still name = ap (λ (l : List (List ℕ)). number_of name (record old { names = l })) names

  limit_still : (o : Option ℕ) → limit_named o new ≡ limit_named o old
  limit_still None = refl
  limit_still (Some h) = ap (λ (l : List ℕ). slice_index l h) limits

  pub conns_still : {table : conns.Table} {facts : ConnFacts} {w : ℕ → List ℕ} → HoldsConns k table old.names facts w → HoldsConns k table new.names facts w
  conns_still {table} {facts} {w} holds = subst (λ (l : List (List ℕ)). HoldsConns k table l facts w) (sym names) holds

  pub functions_still : {facts : FunctionFacts} → HoldsFunctions k old facts → HoldsFunctions k new facts
  functions_still {facts} holds = record {
    most = most ∙ holds.most;
    few = subst (λ (l : List (List ℕ)). length l ≤ new.most) (sym names) (subst (λ x. length old.names ≤ x) (sym most) holds.few);
    names = names ∙ holds.names;
    distinct = λ f name at. number_still name ∙ holds.distinct f name (ap (λ (l : List (List ℕ)). slice_get l f) (sym names) ∙ at);
    limits = λ name. ap (λ o. limit_named o new) (number_still name) ∙ (limit_still (number_of name old) ∙ holds.limits name);
  }

-- what a step means that changes only where jobs are
pub record MovesJobs (step : Past → Past) : Type 0 where
  pub conns : (p : Past) → conn_facts (step p).notes ≡ conn_facts p.notes
  pub flow : (p : Past) → (step p).flow ≡ p.flow
  pub functions : (p : Past) → function_facts (step p).notes ≡ function_facts p.notes
  pub moment : (p : Past) → moment (step p).notes ≡ moment p.notes
  pub mode : (p : Past) → mode (step p).notes ≡ mode p.notes

pub goes_moved : {old new : Tables} (step : Past → Past) → OnlyQueues old new → MovesJobs step
    → ((p : Past) → Keeps old p → HoldsJobs old.config new.functions new.jobs (conn_facts p.notes).is_open (job_facts (step p).notes)) → Goes old new step
goes_moved {old} {new} step only moves jobs_hold = record {
  config = only.config;
  others = touched_same only.conns;
  past = λ p keeps.
      let connections = subst (λ (x : ConnFacts). HoldsConns old.config old.conns new.functions.names x (λ c. waiting c (step p).flow)) (sym (moves.conns p))
      (subst (λ (x : List Flow). HoldsConns old.config old.conns new.functions.names (conn_facts p.notes) (λ c. waiting c x)) (sym (moves.flow p))
      (conns_still old.config old.functions new.functions only.most only.names only.limits keeps.conns)) in
      let functions = subst (HoldsFunctions old.config new.functions) (sym (moves.functions p)) (functions_still old.config old.functions new.functions only.most only.names only.limits keeps.functions) in
      let jobs = subst (λ (x : ConnFacts). HoldsJobs old.config new.functions new.jobs x.is_open (job_facts (step p).notes)) (sym (moves.conns p)) (jobs_hold p keeps) in
      let held : Holds old.config old.conns new.functions new.jobs old.moment old.mode (step p) =
      record { conns = connections; functions = functions; jobs = jobs; moment = keeps.moment ∙ sym (moves.moment p); mode = keeps.mode ∙ sym (moves.mode p) } in
      subst (λ x. Holds new.config new.conns new.functions new.jobs new.moment x (step p)) (sym only.mode)
      (subst (λ x. Holds new.config new.conns new.functions new.jobs x old.mode (step p)) (sym only.moment)
      (subst (λ x. Holds new.config x new.functions new.jobs old.moment old.mode (step p)) (sym only.conns)
      (subst (λ x. Holds x old.conns new.functions new.jobs old.moment old.mode (step p)) (sym only.config) held)));
}

-- ---- what a job's place and its listeners decide

module _ (core : Tables) (past : Past) (keeps : Keeps core past) (slot n : ℕ) (runs : passes (is_run_by slot) (job core.jobs n) ≡ true) (live : Live) (at : job core.jobs n ≡ Some live) where
  running : is_running_at slot (job_state n past.notes) ≡ true
  running =
      ap (is_running_at slot) ((keeps.jobs.live n live at).job_state ∙ ap job_state_at (run_there slot live (sym (ap (passes (is_run_by slot)) at) ∙ runs)))
      ∙ (let e : (slot == slot) ≡ true = grind (arith, nat_tests) in e)

  wanted : is_wanted n past.notes ≡ is_wanted_live live
  wanted = let is = keeps.jobs.live n live at in (λ i. is.kept i || not (length (is.listeners i) == 0))

  pub given_back : is_wanted_live live ≡ true → return_or_lose core.config n past ≡ give_back_one core.config slot n past
  given_back wants = let w = wanted ∙ wants in let r = running in rw (r, w) refl

  pub given_up : is_wanted_live live ≡ false → with_note (Discarded n) past ≡ give_back_one core.config slot n past
  given_up wants = let w = wanted ∙ wants in let r = running in rw (r, w) refl
