-- Which events are refused, as which error.
use Rattle.std.specs.Prelude.{◌≡◌, ◌⊎◌, ℕ, ◌<◌, true, false, Some}
use Rattle.gm_notes.specs.declared.states.Mode.TheVariants.{Running}
use Rattle.gm_notes.specs.declared.event.ApplyError.{ApplyError}
use Rattle.gm_notes.specs.declared.event.ApplyError.TheVariants.{NotOpen, NoSlot, NotOwed, Refusing}
use Rattle.gm_notes.specs.Settings.{Settings}
use Rattle.gm_notes.specs.Notes.{is_open, takes_units, mode}
use Rattle.gm_notes.specs.Past.{Past}
use Rattle.gm_notes.specs.Servers.{owes}
use Rattle.gm_notes.specs.Steps.{Step, Open, Packet, Line, Fault, Close, Tick, Took, Withdrew, Drain, refusal}

-- no NOOP is owed to slot c, or it isn't open
abbrev pub IsOwedNone : ℕ → Past → ApplyError → Type 0
IsOwedNone c before error =
    ((error ≡ NotOpen) × (is_open c before.notes ≡ false)) ⊎ ((error ≡ NotOwed) × (is_open c before.notes ≡ true) × (owes c before ≡ false))

-- the reasons that bar an event
abbrev pub IsBarred : Settings → Step → Past → ApplyError → Type 0
-- the server goes down, or no slot is free
IsBarred k (Open addr) before error =
    ((error ≡ Refusing) × (mode before.notes ≡ Running → ⊥))
    ⊎ ((error ≡ NoSlot) × (mode before.notes ≡ Running) × ((c : ℕ) → c < k.slots → is_open c before.notes ≡ true))
-- the slot takes no units
IsBarred k (Packet c number bytes) before error = (error ≡ NotOpen) × (takes_units c before.notes ≡ false)
IsBarred k (Line c bytes) before error = (error ≡ NotOpen) × (takes_units c before.notes ≡ false)
IsBarred k (Fault c fault) before error = (error ≡ NotOpen) × (takes_units c before.notes ≡ false)
IsBarred k (Close c) before error = (error ≡ NotOpen) × (is_open c before.notes ≡ false)
IsBarred k (Took c) before error = IsOwedNone c before error
IsBarred k (Withdrew c) before error = IsOwedNone c before error
-- nothing bars a tick or a drain
IsBarred k (Tick now) before error = ⊥
IsBarred k (Drain c) before error = ⊥

-- a step is refused exactly if something bars it, and then changes nothing
abbrev pub OnlyTheBarredIsRefused : Settings → Past → Step → Past → Type 0
OnlyTheBarredIsRefused k before s after = (error : ApplyError) →
    (IsBarred k s before error → refusal k s before ≡ Some error)
    × (refusal k s before ≡ Some error → IsBarred k s before error × (after ≡ before))
