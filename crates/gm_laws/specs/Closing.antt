-- The effect of the closing of a slot.
use Rattle.std.specs.Prelude.{◌≡◌, ◌⊎◌, ℕ, true, false, ◌==◌, if◌then◌else◌}
use Rattle.gm_notes.specs.Settings.{Settings}
use Rattle.gm_notes.specs.Notes.{is_open}
use Rattle.gm_notes.specs.Jobs.{job_state, is_kept, is_wanted}
use Rattle.gm_notes.specs.JobStates as states
use Rattle.gm_notes.specs.Past.{Past}
use Rattle.gm_notes.specs.Steps.{Step, Close}
use Rattle.gm_history.specs.Causes.{closes}
use Rattle.gm_history.specs.Hearing.{listens}

-- the slot listens to nothing; other slots listen to what they did, and what was kept is
abbrev pub ListensNoMore : ℕ → Past → Past → Type 0
ListensNoMore c before after = (n d : ℕ) →
    (listens d n after.notes ≡ (if c == d then 0 else listens d n before.notes)) × (is_kept n after.notes ≡ is_kept n before.notes)

-- a job that ran there waits again or is lost if it is wanted still; one that waited goes on waiting; and either is
-- discarded if nobody wants it. Jobs that run at another slot go on.
abbrev pub LeavesItsJobs : ℕ → Past → Past → Type 0
LeavesItsJobs c before after = (n : ℕ) →
    (job_state n before.notes ≡ states.Running c → is_wanted n after.notes ≡ true → (job_state n after.notes ≡ states.Waiting) ⊎ (job_state n after.notes ≡ states.Lost))
    × (job_state n before.notes ≡ states.Waiting → is_wanted n after.notes ≡ true → job_state n after.notes ≡ states.Waiting)
    × ((job_state n before.notes ≡ states.Running c) ⊎ (job_state n before.notes ≡ states.Waiting) → is_wanted n after.notes ≡ false → job_state n after.notes ≡ states.Discarded)
    × ((d : ℕ) → (c ≡ d → ⊥) → job_state n before.notes ≡ states.Running d → job_state n after.notes ≡ states.Running d)

-- The closing of an open slot is taken, and nothing else closes a slot.
abbrev pub ClosingCloses : Settings → Past → Step → Past → Type 0
ClosingCloses k before s after =
    ((c : ℕ) → s ≡ Close c → is_open c before.notes ≡ true → (is_open c after.notes ≡ false) × ListensNoMore c before after × LeavesItsJobs c before after)
    × ((c : ℕ) → is_open c before.notes ≡ true → closes c s ≡ false → is_open c after.notes ≡ true)
