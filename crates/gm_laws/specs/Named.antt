-- Which functions there are.
use Rattle.std.specs.Prelude.{◌≡◌, ◌⊎◌, ℕ, true, List, [], ◌∷◌, ◌++◌, Some, None}
use Rattle.gm_packet.specs.declared.kind.Kind.TheVariants.{CanDo, CanDoTimeout}
use Rattle.gm_packet.specs.Requests.{Asked}
use Rattle.gm_admin.specs.Commands.{MaxQueue}
use Rattle.gm_admin.specs.Answers.{ok_text}
use Rattle.gm_notes.specs.Settings.{Settings}
use Rattle.gm_notes.specs.Jobs.{Job, job, functions, is_able}
use Rattle.gm_notes.specs.Past.{Past}
use Rattle.gm_notes.specs.Requests.{first}
use Rattle.gm_notes.specs.Steps.{Step}
use Rattle.gm_history.specs.Causes.{PacketAsks}
use Rattle.gm_laws.specs.Answered.{IsCommanded, JustWrites}
use Rattle.gm_laws.specs.Laws.{IsAmong}

-- the step is CAN_DO or CAN_DO_TIMEOUT of this function, and its slot can do it then
abbrev pub NamesAbility : Step → Past → List ℕ → Type 0
NamesAbility s after f =
    (c : ℕ) × (asked : Asked)
    × PacketAsks c s asked × ((asked.kind ≡ CanDo) ⊎ (asked.kind ≡ CanDoTimeout)) × (first asked.arguments ≡ f) × (is_able c f after.notes ≡ true)

-- it makes a job of the function
abbrev pub NamesNewJob : Past → Past → List ℕ → Type 0
NamesNewJob before after f = (n : ℕ) × (what : Job) × (job n before.notes ≡ None) × (job n after.notes ≡ Some what) × (what.function ≡ f)

-- it is `maxqueue` with the function's name, and is answered with `OK`
abbrev pub NamesLimit : Past → Step → Past → List ℕ → Type 0
NamesLimit before s after f = (c size : ℕ) × IsCommanded c (MaxQueue f size) before s × JustWrites c ok_text before after

-- the step names the function, and is taken
abbrev pub Names : Past → Step → Past → List ℕ → Type 0
Names before s after f = NamesAbility s after f ⊎ (NamesNewJob before after f ⊎ NamesLimit before s after f)

-- the functions stay, or one that wasn't there comes last, and the step names it
abbrev pub FunctionsGrowBy : Past → Step → Past → Type 0
FunctionsGrowBy before s after =
    (functions after.notes ≡ functions before.notes)
    ⊎ ((f : List ℕ) × (functions after.notes ≡ functions before.notes ++ f ∷ []) × (IsAmong f (functions before.notes) → ⊥) × Names before s after f)

-- and what a step names is there then
abbrev pub FunctionsAreWhatWasNamed : Settings → Past → Step → Past → Type 0
FunctionsAreWhatWasNamed k before s after = FunctionsGrowBy before s after × ((f : List ℕ) → Names before s after f → IsAmong f (functions after.notes))
