-- What is known of a job that runs, and its queue.
use Rattle.std.proofs.Common.{◌≡◌, ℕ, true, false, Option, Some, None, refl, sym, ap, subst}
use Rattle.std.proofs.lemmas.Bool.{false≢true}
use Rattle.gm_notes.specs.declared.states.Priority.{Priority}
use Rattle.gm_jobs.specs.Live.{Live, waits, is_run_by}
use Rattle.gm_jobs.specs.Tables.{Table, job, passes}
use Rattle.gm_queues.specs.FunctionTables.{HasIdleRoom}
use Rattle.gm_core.specs.declared.server.Tables.{Tables}
use Rattle.gm_core.specs.Facts.{conn_facts, function_facts}
use Rattle.gm_core.specs.Holds.{IsKept}
use Rattle.gm_core.specs.Telling.{IsRunning}
use Rattle.gm_core.proofs.EndLemmas.{run_there}
use Rattle.gm_core.proofs.CloseLemmas.{place_for}

pub record Runs (table : Table) (n : ℕ) : Type 0 where
  pub live : Live
  pub at : job table n ≡ Some live
  pub runs : waits live.live_place ≡ false

pub running : (table : Table) (n : ℕ) → IsRunning (job table n) → Runs table n
running table n runs = by (job table n) refl runs
  where
    by : (o : Option Live) → job table n ≡ o → IsRunning o → Runs table n
    by (Some l) e runs = record { live = l; at = e; runs = runs }
    by None e runs = absurd runs

-- a job that runs at this slot runs
pub run_by_running : (table : Table) (slot n : ℕ) → passes (is_run_by slot) (job table n) ≡ true → IsRunning (job table n)
run_by_running table slot n passing = by (job table n) passing
  where
    by : (o : Option Live) → passes (is_run_by slot) o ≡ true → IsRunning o
    by None passing = absurd (false≢true passing)
    by (Some live) passing = ap waits (run_there slot live passing)

pub run_at : (table : Table) (slot n : ℕ) → passes (is_run_by slot) (job table n) ≡ true → Runs table n
run_at table slot n passing = running table n (run_by_running table slot n passing)

-- in tables that hold what has happened, room is reserved for it in its queue
pub own_room : (tables : Tables) (n : ℕ) → IsKept tables → (it : Runs tables.jobs n) (f : ℕ) (p : Priority) → f ≡ it.live.function → p ≡ it.live.priority → HasIdleRoom tables.functions f p
own_room tables n kept it f p same_f same_p =
    let past = kept.0 in
    let functions = tables.functions in
    subst (λ (x : ℕ). HasIdleRoom functions x p) (sym same_f)
    (subst (λ (q : Priority). HasIdleRoom functions it.live.function q) (sym same_p)
    (place_for tables.config functions tables.jobs (conn_facts past.notes).is_open past.notes (function_facts past.notes) kept.1.functions kept.1.jobs n it.live it.at it.runs))
