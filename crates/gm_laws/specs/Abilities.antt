-- Slots can do what they asked for.
use Rattle.std.specs.Prelude.{◌≡◌, ◌⊎◌, ℕ, true, false, List, Some}
use Rattle.gm_packet.specs.declared.kind.Kind.TheVariants.{CantDo, ResetAbilities}
use Rattle.gm_packet.specs.Requests.{Asked}
use Rattle.gm_notes.specs.Settings.{Settings}
use Rattle.gm_notes.specs.Notes.{takes_units}
use Rattle.gm_notes.specs.Jobs.{is_able}
use Rattle.gm_notes.specs.Past.{Past}
use Rattle.gm_notes.specs.Requests.{first}
use Rattle.gm_notes.specs.Steps.{Step}
use Rattle.gm_history.specs.Causes.{PacketAsks, job_seconds, closes}
use Rattle.gm_history.specs.History.{is_able_within}
use Rattle.gm_laws.specs.Refusals.{IsError, HasReason}

-- the request is to do this function from now on, within these seconds
abbrev pub Enables : Asked → List ℕ → ℕ → Type 0
Enables asked f seconds = (first asked.arguments ≡ f) × (job_seconds asked.kind asked.timeout ≡ Some seconds)

-- it is to do it no more
abbrev pub Disables : Asked → List ℕ → Type 0
Disables asked f = ((asked.kind ≡ CantDo) × (first asked.arguments ≡ f)) ⊎ (asked.kind ≡ ResetAbilities)

-- there is a reason not to, and an ERROR with its code is the answer
abbrev pub IsRejected : Settings → ℕ → Asked → Past → Past → Type 0
IsRejected k c asked before after = (code : List ℕ) × HasReason k c asked before code × IsError c code before after

-- a slot that takes units gets or loses the ability as it asks, or is answered with an ERROR
abbrev pub AbilitiesCome : Settings → Past → Step → Past → Type 0
AbilitiesCome k before s after = (c : ℕ) (asked : Asked) (f : List ℕ) → takes_units c before.notes ≡ true → PacketAsks c s asked →
    ((seconds : ℕ) → Enables asked f seconds → (is_able_within c f seconds after.notes ≡ true) ⊎ IsRejected k c asked before after)
    × (Disables asked f → (is_able c f after.notes ≡ false) ⊎ IsRejected k c asked before after)

-- an ability comes only by asking for it, and goes only by asking for that, for the function with other seconds, or
-- with the slot
abbrev pub AbilitiesStay : Past → Step → Past → Type 0
AbilitiesStay before s after = (c : ℕ) (f : List ℕ) (seconds : ℕ) →
    (is_able_within c f seconds after.notes ≡ true →
    (is_able_within c f seconds before.notes ≡ true) ⊎ ((asked : Asked) × PacketAsks c s asked × Enables asked f seconds))
    × (is_able_within c f seconds before.notes ≡ true →
    (is_able_within c f seconds after.notes ≡ true) ⊎ ((closes c s ≡ true)
    ⊎ ((asked : Asked) × PacketAsks c s asked × (Disables asked f ⊎ ((other : ℕ) × Enables asked f other)))))

abbrev pub AbilitiesAreAsAsked : Settings → Past → Step → Past → Type 0
AbilitiesAreAsAsked k before s after = AbilitiesCome k before s after × AbilitiesStay before s after
