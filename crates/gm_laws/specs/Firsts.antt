-- In which order a slot's functions are tried.
use Rattle.std.specs.Prelude.{◌≡◌, ◌⊎◌, ℕ, Bool, true, false, List, [], ◌∷◌, ◌++◌, map, filter, Some}
use Rattle.std.specs.List.{All}
use Rattle.gm_notes.specs.declared.note.Note.{Note}
use Rattle.gm_notes.specs.declared.states.Priority.{Priority}
use Rattle.gm_notes.specs.Settings.{Settings}
use Rattle.gm_notes.specs.Jobs.{Job, job_state, job, abilities, is_able}
use Rattle.gm_notes.specs.JobStates as states
use Rattle.gm_notes.specs.Past.{Past}
use Rattle.gm_notes.specs.Steps.{Step}

-- no job of the function waits
abbrev pub HasNoneWaiting : List Note → List ℕ → Type 0
HasNoneWaiting notes f = (n : ℕ) (what : Job) → job_state n notes ≡ states.Waiting → job n notes ≡ Some what → what.function ≡ f → ⊥

-- none of this priority
abbrev pub HasNoneWaitingOf : Priority → List Note → List ℕ → Type 0
HasNoneWaitingOf p notes f = (n : ℕ) (what : Job) →
    job_state n notes ≡ states.Waiting → job n notes ≡ Some what → what.function ≡ f → what.priority ≡ p → ⊥

-- the functions that slot c can do
abbrev pub functions_of : ℕ → List Note → List (List ℕ)
functions_of c notes = map (λ ability. ability.function) (abilities c notes)

-- without round-robin the job that a slot is given is of its first function for which one waits, and with as_gearmand
-- of the first for which one of its priority waits
abbrev pub GivesOfTheFirst : Settings → Past → Past → Type 0
GivesOfTheFirst k before after = (n c : ℕ) (what : Job) → k.round_robin ≡ false →
    job_state n before.notes ≡ states.Waiting → job_state n after.notes ≡ states.Running c → job n before.notes ≡ Some what →
    (earlier later : List (List ℕ)) × (functions_of c before.notes ≡ earlier ++ what.function ∷ later)
    × (k.as_gearmand ≡ false → All (HasNoneWaiting before.notes) earlier)
    × (k.as_gearmand ≡ true → All (HasNoneWaitingOf what.priority before.notes) earlier)

-- a step leaves the functions of a slot in their order: some may go, or one that the slot couldn't do comes last
abbrev pub KeepsTheirOrder : Past → Past → Type 0
KeepsTheirOrder before after = (c : ℕ) →
    ((keeps : List ℕ → Bool) × (functions_of c after.notes ≡ filter keeps (functions_of c before.notes)))
    ⊎ ((f : List ℕ) × (is_able c f before.notes ≡ false) × (functions_of c after.notes ≡ functions_of c before.notes ++ f ∷ []))

abbrev pub FirstAbilityWins : Settings → Past → Step → Past → Type 0
FirstAbilityWins k before s after = GivesOfTheFirst k before after × KeepsTheirOrder before after
