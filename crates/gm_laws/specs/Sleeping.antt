-- Which slots sleep, since when, and until when.
use Rattle.std.specs.Prelude.{◌≡◌, ◌⊎◌, ℕ, Bool, true, false, ◌==◌}
use Rattle.gm_packet.specs.declared.kind.Kind.TheVariants.{PreSleep}
use Rattle.gm_packet.specs.Requests.{Asked}
use Rattle.gm_notes.specs.declared.states.Phase.TheVariants.{Awake}
use Rattle.gm_notes.specs.Settings.{Settings}
use Rattle.gm_notes.specs.Notes.{takes_units, phase, is_asleep, is_awake}
use Rattle.gm_notes.specs.Past.{Past}
use Rattle.gm_notes.specs.Servers.{owes}
use Rattle.gm_notes.specs.Steps.{Step, Packet, Close, Took, Withdrew}
use Rattle.gm_history.specs.Causes.{PacketAsks, asks, is_sleeping, is_grab}

-- slot c sleeps, or is owed a NOOP
abbrev pub Rests : ℕ → Past → Type 0
Rests c past = is_awake (phase c past.notes) ≡ false

-- the step is a grab or the closing of slot c, or the taking or the withdrawal of its NOOP
abbrev pub rouses : ℕ → Step → Bool
rouses c (Packet d number bytes) = asks is_grab c (Packet d number bytes)
rouses c (Close d) = c == d
rouses c (Took d) = c == d
rouses c (Withdrew d) = c == d
rouses c other = false

-- a slot begins to rest only with PRE_SLEEP; its grab ends its sleep, and with its NOOP's taking or withdrawal it is
-- awake
abbrev pub SleepersAskedForIt : Settings → Past → Step → Past → Type 0
SleepersAskedForIt k before s after =
    ((c : ℕ) → Rests c after → Rests c before ⊎ (asks is_sleeping c s ≡ true))
    × ((c : ℕ) (asked : Asked) → takes_units c before.notes ≡ true → PacketAsks c s asked → is_grab asked.kind ≡ true → is_asleep (phase c after.notes) ≡ false)
    × ((c : ℕ) → owes c before ≡ true → (s ≡ Took c) ⊎ (s ≡ Withdrew c) → phase c after.notes ≡ Awake)

-- PRE_SLEEP of a slot that takes units is enough, and nothing but what rouses it ends its rest
abbrev pub AskingIsEnough : Settings → Past → Step → Past → Type 0
AskingIsEnough k before s after =
    ((c : ℕ) (asked : Asked) → takes_units c before.notes ≡ true → PacketAsks c s asked → asked.kind ≡ PreSleep → Rests c after)
    × ((c : ℕ) → Rests c before → rouses c s ≡ false → Rests c after)
