-- Jobs whose deadlines are reached.
use Rattle.std.specs.Prelude.{◌≡◌, ◌≢◌, ℕ, ◌+◌, Bool, List, [], ◌∷◌, filter}
use Rattle.gm_packet.specs.Answers.{answer_packet, work_fail}
use Rattle.gm_notes.specs.Settings.{Settings}
use Rattle.gm_notes.specs.Jobs.{handle}
use Rattle.gm_jobs.specs.Live.{Live, is_due}
use Rattle.gm_jobs.specs.Tables.{Table, job, listeners_of, IsNext, IsLast}
use Rattle.gm_core.specs.declared.server.ticking.Late.{Late}
use Rattle.gm_core.specs.Telling.{needed}
use Rattle.gm_core.specs.Writing.{copied_text}

-- these are all live jobs above `after` whose deadlines are reached, in the order of their numbers, each with the
-- packet that reports its failure
abbrev pub AreLate : Settings → ℕ → List (ℕ × Live) → ℕ → List Late → Type 0
AreLate k now live after [] = IsLast (is_due now) after live
AreLate k now live after (late ∷ rest) =
    IsNext (is_due now) after live late.job × (late.text ≡ copied_text (answer_packet (work_fail (handle k late.job)))) × AreLate k now live late.job rest

-- the bytes that slot c gets of them, if it is to
abbrev pub late_bytes : (ℕ → Bool) → Table → ℕ → List Late → ℕ
late_bytes hears table c [] = 0
late_bytes hears table c (late ∷ rest) =
    needed late.text.cost c (filter hears (listeners_of (job table late.job))) + late_bytes hears table c rest

-- no other job changes
abbrev pub OthersStay : ℕ → Table → Table → Type 0
OthersStay n old new = (m : ℕ) → m ≢ n → job new m ≡ job old m
