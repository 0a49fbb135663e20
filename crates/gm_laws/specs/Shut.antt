-- Which slots are heard, what shuts a slot, and what changes the mode.
use Rattle.std.specs.Prelude.{◌≡◌, ◌⊎◌, ℕ, true, false, None}
use Rattle.gm_admin.specs.Commands.{Shutdown}
use Rattle.gm_notes.specs.Settings.{Settings}
use Rattle.gm_notes.specs.Notes.{is_open, is_shut, mode}
use Rattle.gm_notes.specs.Past.{Past}
use Rattle.gm_notes.specs.Steps.{Step, Packet, Line, Fault, refusal}
use Rattle.gm_history.specs.Causes.{GoesTo, Commands, faults}

-- slot c is heard with this step exactly if it is open and isn't shut
pub record IsHeard (k : Settings) (before : Past) (c : ℕ) (s : Step) : Type 0 where
  pub heard : is_open c before.notes ≡ true → is_shut c before.notes ≡ false → refusal k s before ≡ None
  pub alone : refusal k s before ≡ None → (is_open c before.notes ≡ true) × (is_shut c before.notes ≡ false)

abbrev pub WhoIsntShutIsHeard : Settings → Past → Step → Past → Type 0
WhoIsntShutIsHeard k before (Packet c number bytes) after = IsHeard k before c (Packet c number bytes)
WhoIsntShutIsHeard k before (Line c bytes) after = IsHeard k before c (Line c bytes)
WhoIsntShutIsHeard k before (Fault c fault) after = IsHeard k before c (Fault c fault)
WhoIsntShutIsHeard k before other after = Unit {0}

-- a step that shuts slot c: a fault of it, or a `shutdown` line that isn't graceful
abbrev pub Shuts : ℕ → Step → Type 0
Shuts c s = (faults c s ≡ true) ⊎ Commands s (Shutdown false)

-- a slot that is open and shut was so before, or the step shuts it; and one that the step opens isn't shut
abbrev pub ShutHasItsReason : Settings → Past → Step → Past → Type 0
ShutHasItsReason k before s after =
    ((c : ℕ) → is_open c after.notes ≡ true → is_shut c after.notes ≡ true →
    ((is_open c before.notes ≡ true) × (is_shut c before.notes ≡ true)) ⊎ Shuts c s)
    × ((c : ℕ) → is_open c before.notes ≡ false → is_open c after.notes ≡ true → is_shut c after.notes ≡ false)

-- the mode stays, or the step is the `shutdown` line that says the new one
abbrev pub LinesAloneChangeTheMode : Settings → Past → Step → Past → Type 0
LinesAloneChangeTheMode k before s after = (mode after.notes ≡ mode before.notes) ⊎ GoesTo (mode after.notes) s
