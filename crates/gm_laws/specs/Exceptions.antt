-- Which slots get exceptions.
use Rattle.std.specs.Prelude.{◌≡◌, ◌⊎◌, ℕ, true, false, codes}
use Rattle.gm_packet.specs.declared.kind.Kind.TheVariants.{OptionReq}
use Rattle.gm_packet.specs.Requests.{Asked}
use Rattle.gm_packet.specs.Answers.{option_res}
use Rattle.gm_notes.specs.Settings.{Settings}
use Rattle.gm_notes.specs.Notes.{is_open, takes_units, has_option}
use Rattle.gm_notes.specs.Past.{Past}
use Rattle.gm_notes.specs.Requests.{first}
use Rattle.gm_notes.specs.Steps.{Step}
use Rattle.gm_history.specs.Causes.{PacketAsks, closes, JustQueues}

-- the step is the OPTION_REQ of slot c for exceptions
abbrev pub WantsExceptions : ℕ → Step → Type 0
WantsExceptions c s = (asked : Asked) × PacketAsks c s asked × (asked.kind ≡ OptionReq) × (first asked.arguments ≡ codes "exceptions")

-- the slot is open, and gets exceptions
abbrev pub GetsExceptions : ℕ → Past → Type 0
GetsExceptions c past = (is_open c past.notes ≡ true) × (has_option c past.notes ≡ true)

-- A slot gets exceptions from its OPTION_REQ on, which is answered, until it closes, and not otherwise.
abbrev pub ExceptionsArePassedOn : Settings → Past → Step → Past → Type 0
ExceptionsArePassedOn k before s after =
    ((c : ℕ) → takes_units c before.notes ≡ true → WantsExceptions c s → JustQueues c (option_res (codes "exceptions")) before after × GetsExceptions c after)
    × ((c : ℕ) → GetsExceptions c before → closes c s ≡ false → GetsExceptions c after)
    × ((c : ℕ) → GetsExceptions c after → GetsExceptions c before ⊎ WantsExceptions c s)
