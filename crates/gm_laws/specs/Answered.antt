-- Ticks, and the text lines whose answer is one line.
use Rattle.std.specs.Prelude.{◌≡◌, ◌⊎◌, ℕ, Bool, true, max, List, ◌∷◌, None}
use Rattle.gm_admin.specs.Commands.{Commanded, Shutdown}
use Rattle.gm_admin.specs.Answers.{ok_text}
use Rattle.gm_notes.specs.Settings.{Settings}
use Rattle.gm_notes.specs.Notes.{takes_units, moment}
use Rattle.gm_notes.specs.Flow.{Queued}
use Rattle.gm_notes.specs.Past.{Past}
use Rattle.gm_notes.specs.Steps.{Step, Line, Tick, refusal}
use Rattle.gm_history.specs.Causes.{Commands}

-- a tick is never refused, and brings the server to its moment, unless that has passed already; nothing else changes
-- the moment
abbrev pub TicksAreTaken : Settings → Past → Step → Past → Type 0
TicksAreTaken k before s after =
    ((now : ℕ) → s ≡ Tick now → (refusal k s before ≡ None) × (moment after.notes ≡ max now (moment before.notes)))
    × ((moment after.notes ≡ moment before.notes) ⊎ ((now : ℕ) × (s ≡ Tick now)))

-- the step is a line of slot c, which takes units, with this command
abbrev pub IsCommanded : ℕ → Commanded → Past → Step → Type 0
IsCommanded c command before s = ((line : List ℕ) × (s ≡ Line c line)) × Commands s command × (takes_units c before.notes ≡ true)

-- from one past to the other just this text is queued, to slot c, and nothing else happens to bytes
abbrev pub JustWrites : ℕ → List ℕ → Past → Past → Type 0
JustWrites c text before after = after.flow ≡ Queued c text ∷ before.flow

abbrev pub ShutdownIsAnswered : Settings → Past → Step → Past → Type 0
ShutdownIsAnswered k before s after = (c : ℕ) (graceful : Bool) → IsCommanded c (Shutdown graceful) before s → JustWrites c ok_text before after
