-- A core to which nothing has happened.
use Rattle.std.proofs.Common.{◌≡◌, ℕ, ◌<◌, ◌≤◌, ◌^◌, Bool, true, false, Some, None, ◌&&◌, not, ◌==◌, if◌then◌else◌, nat_le}
use Rattle.std.proofs.Common.{nat_lt, [], length, refl, sym, ap, subst, arith}
use Rattle.std.proofs.lemmas.Bool.Decides.{nat_tests}
use Rattle.std.specs.declared.hash.RandomState.{RandomState}
use Rattle.gm_notes.specs.declared.states.Mode.TheVariants.{Running}
use Rattle.gm_notes.specs.declared.config.ConfigError.TheVariants.{BadName, BadNumber, BadSlots, BadFunctions}
use Rattle.gm_notes.specs.Settings.{Settings, config_fault, is_name, is_within}
use Rattle.gm_notes.specs.Past.{nothing}
use Rattle.gm_conns.specs.Connections.{Connection, closed}
use Rattle.gm_conns.specs.ConnTables.{Table, conn}
use Rattle.gm_queues.specs.FunctionTables.{no_functions}
use Rattle.gm_jobs.specs.Tables.{no_jobs, place_or}
use Rattle.gm_core.specs.Holds.{NamesFunctions, Holds}

none_made : (first n : ℕ) → (nat_le first n && nat_lt n first) ≡ false
none_made first n = grind (arith, nat_tests)

pub holds_nothing : (k : Settings) (seed : RandomState) (table : Table) → length table.conns ≡ k.slots → ((c : ℕ) → conn table c ≡ closed) → k.first_job ≤ 2 ^ 64 → 0 < k.first_job
    → Holds k table (no_functions seed k.max_functions) (no_jobs seed k.first_job) 0 Running nothing
holds_nothing k seed table slots ends fits positive = record {
  conns = record {
    slots = slots;
    opens = λ c. ap (λ (x : Connection). x.is_open) (ends c);
    seen = λ c opened. absurd cc;
    waiting = λ c. ap (λ (x : Connection). x.waiting) (ends c);
    able = λ c. subst (NamesFunctions []) (sym (ends c)) (tt, tt);
  };
  functions = record { most = refl; few = omega arith; names = refl; distinct = λ f name at. absurd cc; limits = λ name. refl };
  jobs = record {
    first = refl;
    next = omega arith;
    most = fits;
    made = refl;
    came = λ P. refl;
    begins = positive;
    numbered = λ n found at. absurd cc;
    places = λ n. ap (place_or None) (none_made k.first_job n);
    live = λ n found at. absurd cc;
    counts = λ n found at. absurd cc;
    queues = λ name p. refl;
    room = λ f p h. absurd (omega (arith, h));
  };
  moment = refl;
  mode = refl;
}

-- the first job's number isn't 0 where nothing is wrong with the settings
pub begins_above : (k : Settings) → config_fault k ≡ None → 0 < k.first_job
begins_above k right = by (not (is_name k.name)) (k.first_job == 0) refl right
  where
    by : (a b : Bool) → (k.first_job == 0) ≡ b
        → (if a then Some BadName else (if b then Some BadNumber else (if not (is_within 1024 k.slots) then Some BadSlots else (if not (is_within 65536 k.max_functions) then Some BadFunctions else None)))) ≡ None
        → 0 < k.first_job
    by true b e right = absurd cc
    by false true e right = absurd cc
    by false false e right = grind (arith, nat_tests)
