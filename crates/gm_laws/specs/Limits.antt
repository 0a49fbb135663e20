-- The limits of functions.
use Rattle.std.specs.Prelude.{◌≡◌, ◌⊎◌, ℕ, ◌<◌, ◌≤◌, true, List, ◌∷◌, length, Some, Ok}
use Rattle.gm_admin.specs.declared.fault.AdminError.{AdminError}
use Rattle.gm_admin.specs.Commands.{MaxQueue}
use Rattle.gm_admin.specs.Answers.{ok_text}
use Rattle.gm_notes.specs.declared.note.Note.{Note}
use Rattle.gm_notes.specs.Settings.{Settings}
use Rattle.gm_notes.specs.Notes.{takes_units}
use Rattle.gm_notes.specs.Flow.{Queued}
use Rattle.gm_notes.specs.Jobs.{Job, job, functions, limit, total, is_able}
use Rattle.gm_notes.specs.Past.{Past}
use Rattle.gm_notes.specs.Steps.{Step, Line}
use Rattle.gm_history.specs.Causes.{Commands}
use Rattle.gm_laws.specs.Laws.{IsAmong}
use Rattle.gm_laws.specs.Refusals.{IsErr, IsErroneous}

-- a step that leaves a function with more jobs that wait or run leaves it with no more than its limit, if it has one
abbrev pub NoneIsOverfull : Past → Past → Type 0
NoneIsOverfull before after = (f : List ℕ) → 0 < limit f before.notes → total f before.notes < total f after.notes → total f after.notes ≤ limit f before.notes

-- there are never more functions than the settings say, and each job and each ability is for one of them
abbrev pub FunctionsAreFew : Settings → List Note → Type 0
FunctionsAreFew k notes =
    (length (functions notes) ≤ k.max_functions)
    × ((n : ℕ) (what : Job) → job n notes ≡ Some what → IsAmong what.function (functions notes))
    × ((c : ℕ) (f : List ℕ) → is_able c f notes ≡ true → IsAmong f (functions notes))

-- only `maxqueue` changes the limit of the function that it names, to what it says
abbrev pub LimitsStay : Past → Step → Past → Type 0
LimitsStay before s after = (f : List ℕ) → (limit f after.notes ≡ limit f before.notes) ⊎ Commands s (MaxQueue f (limit f after.notes))

-- of a slot that takes units it does so and is answered with `OK`, or there is a reason not to, and it is answered with
-- its `ERR` line
abbrev pub MaxqueueIsAnswered : Settings → Past → Step → Past → Type 0
MaxqueueIsAnswered k before s after = (c : ℕ) (line f : List ℕ) (size : ℕ) → s ≡ Line c line → Commands s (MaxQueue f size) → takes_units c before.notes ≡ true →
    ((after.flow ≡ Queued c ok_text ∷ before.flow) × (limit f after.notes ≡ size))
    ⊎ ((error : AdminError) × IsErroneous k (Ok (MaxQueue f size)) before error × IsErr c error before after)

abbrev pub LimitsHold : Settings → Past → Step → Past → Type 0
LimitsHold k before s after = NoneIsOverfull before after × FunctionsAreFew k after.notes × LimitsStay before s after × MaxqueueIsAnswered k before s after
