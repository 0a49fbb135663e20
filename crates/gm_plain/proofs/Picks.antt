-- What is picked waits.
use Rattle.std.proofs.Common.{◌≡◌, ℕ, Bool, true, false, List, [], ◌∷◌, ◌++◌, Option, Some, None, refl, sym, subst}
use Rattle.std.specs.Prelude.{if◌then◌else◌, filter, IfSome}
use Rattle.std.specs.Option.{option_or}
use Rattle.std.proofs.lemmas.Bool.{and_parts}
use Rattle.gm_notes.specs.declared.states.Priority.{Priority}
use Rattle.gm_notes.specs.declared.states.Priority.TheVariants.{High, Normal, Low}
use Rattle.gm_notes.specs.declared.note.Note.{Note}
use Rattle.gm_notes.specs.Jobs.{Ability, job_state, job, is_job_with, is_queued, queue, waiting_for, first_of, as_they_came, pick_from, pick_with, pick_highest}
use Rattle.gm_notes.specs.declared.states.Pick.{Pick}
use Rattle.gm_notes.specs.JobStates.{is_waiting}

abbrev AllWait : List Note → List ℕ → Type 0
AllWait notes [] = Unit {0}
AllWait notes (n ∷ jobs) = (is_waiting (job_state n notes) ≡ true) × AllWait notes jobs

filtered : (f : List ℕ) (p : Priority) (notes : List Note) (jobs : List ℕ) → AllWait notes (filter (is_queued f p notes) jobs)
filtered f p notes [] = tt
filtered f p notes (n ∷ jobs) = by (is_queued f p notes n) refl (filtered f p notes jobs)
  where
    by : (t : Bool) → is_queued f p notes n ≡ t → AllWait notes (filter (is_queued f p notes) jobs)
        → AllWait notes (if t then n ∷ filter (is_queued f p notes) jobs else filter (is_queued f p notes) jobs)
    by true e rest = ((and_parts (is_waiting (job_state n notes)) (is_job_with f p (job n notes)) e).0, rest)
    by false e rest = rest

joined : (notes : List Note) (a b : List ℕ) → AllWait notes a → AllWait notes b → AllWait notes (a ++ b)
joined notes [] b x y = y
joined notes (n ∷ a) b x y = (x.0, joined notes a b x.1 y)

all_wait : (f : List ℕ) (notes : List Note) → AllWait notes (waiting_for f notes)
all_wait f notes =
    joined notes (queue f High notes ++ queue f Normal notes) (queue f Low notes)
    (joined notes (queue f High notes) (queue f Normal notes) (filtered f High notes (as_they_came notes)) (filtered f Normal notes (as_they_came notes)))
    (filtered f Low notes (as_they_came notes))

abbrev PickWaits : List Note → Option Pick → Type 0
PickWaits notes None = Unit {0}
PickWaits notes (Some found) = is_waiting (job_state found.job notes) ≡ true

first_waits : (notes : List Note) (jobs : List ℕ) (timeout : ℕ) (otherwise : Option Pick) → AllWait notes jobs → PickWaits notes otherwise → PickWaits notes (first_of jobs timeout otherwise)
first_waits notes [] timeout otherwise all rest = rest
first_waits notes (n ∷ jobs) timeout otherwise all rest = all.0

pick_waits : (abilities : List Ability) (notes : List Note) → PickWaits notes (pick_from abilities notes)
pick_waits [] notes = tt
pick_waits (ability ∷ abilities) notes =
    first_waits notes (waiting_for ability.function notes) ability.timeout (pick_from abilities notes) (all_wait ability.function notes) (pick_waits abilities notes)

found_waits : (notes : List Note) (found : Option Pick) → PickWaits notes found → IfSome found (λ picked. is_waiting (job_state picked.job notes) ≡ true)
found_waits notes None waits = tt
found_waits notes (Some picked) waits = waits

-- of the picks from any abilities
pub picked_waits : (abilities : List Ability) (notes : List Note) (found : Option Pick) → found ≡ pick_from abilities notes
    → IfSome found (λ picked. is_waiting (job_state picked.job notes) ≡ true)
picked_waits abilities notes found is = found_waits notes found (subst (PickWaits notes) (sym is) (pick_waits abilities notes))

with_waits : (p : Priority) (abilities : List Ability) (notes : List Note) → PickWaits notes (pick_with p abilities notes)
with_waits p [] notes = tt
with_waits p (ability ∷ abilities) notes =
    first_waits notes (queue ability.function p notes) ability.timeout (pick_with p abilities notes) (filtered ability.function p notes (as_they_came notes)) (with_waits p abilities notes)

either_waits : (notes : List Note) (found otherwise : Option Pick) → PickWaits notes found → PickWaits notes otherwise → PickWaits notes (option_or found otherwise)
either_waits notes None otherwise waits rest = rest
either_waits notes (Some picked) otherwise waits rest = waits

highest_waits : (abilities : List Ability) (notes : List Note) → PickWaits notes (pick_highest abilities notes)
highest_waits abilities notes =
    either_waits notes (pick_with High abilities notes) (option_or (pick_with Normal abilities notes) (pick_with Low abilities notes)) (with_waits High abilities notes)
    (either_waits notes (pick_with Normal abilities notes) (pick_with Low abilities notes) (with_waits Normal abilities notes) (with_waits Low abilities notes))

-- of the highest priority
pub highest_picked_waits : (abilities : List Ability) (notes : List Note) (found : Option Pick) → found ≡ pick_highest abilities notes
    → IfSome found (λ picked. is_waiting (job_state picked.job notes) ≡ true)
highest_picked_waits abilities notes found is = found_waits notes found (subst (PickWaits notes) (sym is) (highest_waits abilities notes))
