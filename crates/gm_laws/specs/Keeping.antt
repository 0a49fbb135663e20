-- Which jobs are kept on, and which slots listen.
use Rattle.std.specs.Prelude.{◌≡◌, ◌⊎◌, ℕ, true, not, ◌==◌, [], ◌∷◌, ◌++◌, filter}
use Rattle.gm_packet.specs.Requests.{Asked}
use Rattle.gm_notes.specs.Settings.{Settings}
use Rattle.gm_notes.specs.Jobs.{is_kept, listeners}
use Rattle.gm_notes.specs.Past.{Past}
use Rattle.gm_notes.specs.Steps.{Step}
use Rattle.gm_history.specs.Causes.{PacketAsks, is_background, is_foreground, closes}
use Rattle.gm_laws.specs.Submitted.{JoinsOrMakes}

-- the step is a submission in the background, of any slot, that joins or makes job n
abbrev pub SubmitsInTheBackground : ℕ → Past → Step → Past → Type 0
SubmitsInTheBackground n before s after =
    (c : ℕ) × (asked : Asked) × PacketAsks c s asked × (is_background asked.kind ≡ true) × JoinsOrMakes asked n before after

-- it is one in the foreground, of slot c
abbrev pub SubmitsInTheForeground : ℕ → ℕ → Past → Step → Past → Type 0
SubmitsInTheForeground c n before s after =
    (asked : Asked) × PacketAsks c s asked × (is_foreground asked.kind ≡ true) × JoinsOrMakes asked n before after

-- the same slots listen to job n, in the same order; or one is left out, which closes; or one is added after the
-- others, which submits this job in the foreground
abbrev pub ListenersStay : ℕ → Past → Step → Past → Type 0
ListenersStay n before s after =
    (listeners n after.notes ≡ listeners n before.notes)
    ⊎ (((c : ℕ) × (closes c s ≡ true) × (listeners n after.notes ≡ filter (λ d. not (d == c)) (listeners n before.notes)))
    ⊎ ((c : ℕ) × SubmitsInTheForeground c n before s after × (listeners n after.notes ≡ listeners n before.notes ++ c ∷ [])))

-- a kept job stays kept, and becomes so only in a background submission of this job; and the listeners stay
abbrev pub HearingAndKeepingStay : Settings → Past → Step → Past → Type 0
HearingAndKeepingStay k before s after = (n : ℕ) →
    (is_kept n before.notes ≡ true → is_kept n after.notes ≡ true)
    × (is_kept n after.notes ≡ true → (is_kept n before.notes ≡ true) ⊎ SubmitsInTheBackground n before s after)
    × ListenersStay n before s after
