-- The answer to a step that is taken.
use Rattle.std.specs.Prelude.{◌≡◌, ℕ, true, false, Some, None}
use Rattle.gm_notes.specs.Settings.{Settings}
use Rattle.gm_notes.specs.Notes.{is_open}
use Rattle.gm_notes.specs.Past.{Past}
use Rattle.gm_notes.specs.Steps.{Step, refusal, done}
use Rattle.gm_laws.specs.Laws.{was_made}

-- the step opens slot c
abbrev pub IsOpenedBy : ℕ → Past → Past → Type 0
IsOpenedBy c before after = (is_open c before.notes ≡ false) × (is_open c after.notes ≡ true)

-- it makes job n
abbrev pub IsMadeBy : ℕ → Past → Past → Type 0
IsMadeBy n before after = (was_made n before.notes ≡ false) × (was_made n after.notes ≡ true)

-- the answer names the slot that the step opens, and the job that it makes, and no other
abbrev pub AnswersNameWhatIsNew : Settings → Past → Step → Past → Type 0
AnswersNameWhatIsNew k before s after = refusal k s before ≡ None →
    ((c : ℕ) → ((done k s before).opened ≡ Some c → IsOpenedBy c before after) × (IsOpenedBy c before after → (done k s before).opened ≡ Some c))
    × ((n : ℕ) → ((done k s before).created ≡ Some n → IsMadeBy n before after) × (IsMadeBy n before after → (done k s before).created ≡ Some n))
