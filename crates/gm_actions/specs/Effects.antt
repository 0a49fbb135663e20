-- The effect of a call on the past that a server holds, in whatever form it holds it.
use Rattle.std.specs.Prelude.{◌≡◌, ℕ, true, false, codes, List, Result, Ok, Err}
use Rattle.gm_packet.specs.Answers.{status_res}
use Rattle.gm_notes.specs.Settings.{Settings}
use Rattle.gm_notes.specs.Jobs.{job_state, report}
use Rattle.gm_notes.specs.JobStates.{is_running}
use Rattle.gm_notes.specs.Past.{Past, give}
use Rattle.gm_notes.specs.Steps.{Step, run}

-- A server went from old to new. Its settings are the same; it holds the past changed so, whatever past it held; and
-- whatever else it promises of each call is true of this one.
pub record Changes {A : Type 0} (settings_of : A → Settings) (keeps : A → Past → Type 0) (also : A → A → Type 0) (old new : A) (change : Past → Past) : Type 0 where
  pub config : settings_of new ≡ settings_of old
  pub past : (past : Past) → keeps old past → keeps new (change past)
  pub others : also old new

-- a call that ran out of memory changes nothing
abbrev pub if_done : {E : Type 0} → Result (Unit {0}) E → (Past → Past) → Past → Past
if_done (Ok done) change past = change past
if_done (Err failed) change past = past

-- The server has these settings, and holds what these steps give.
pub record Agrees {A : Type 0} (settings_of : A → Settings) (keeps : A → Past → Type 0) (server : A) (k : Settings) (steps : List Step) : Type 0 where
  pub settings : settings_of server ≡ k
  pub past : keeps server (run k steps)

-- ---- the answers to GET_STATUS

-- the answer about a live job
abbrev pub known_told : ℕ → List ℕ → ℕ → Past → Past
known_told c text n past =
    give c (status_res text true (is_running (job_state n past.notes)) (report n past.notes).0 (report n past.notes).1) past

-- the answer about any other
abbrev pub unknown_told : ℕ → List ℕ → Past → Past
unknown_told c text past = give c (status_res text false false (codes "0") (codes "0")) past
