-- The owners of a history's entries: a connection's events are handed in at its slot's desk, and its slot's pen drains
-- the bytes that wait for it.
use Rattle.std.specs.Prelude.{◌≡◌, ℕ, ◌==◌, if◌then◌else◌, Bool, true, false, List, [], ◌∷◌, All, Option, Some, None}
use Rattle.gm_shared.specs.declared.tape.Actor.{Actor}
use Rattle.gm_shared.specs.declared.tape.Actor.TheVariants.{Desk, Pen}
use Rattle.gm_shared.specs.declared.tape.TapeStep.{TapeStep}
use Rattle.gm_shared.specs.declared.tape.Entry.{Entry}
use Rattle.gm_notes.specs.Steps.{Step}
use Rattle.gm_shared.specs.Events.{slot_of}
use Rattle.gm_shared.specs.Tapes.{if_event, is_drain_of}
use Rattle.gm_session.specs.Owners.{are_said_by}

-- an entry is its actor's own; takings and withdrawals of NOOPs count with the desk in whose call they were found
abbrev pub is_own : Actor → TapeStep → Bool
is_own (Desk n) step = are_said_by n (if_event step [])
is_own (Pen n) step = is_drain_of n step

-- each entry is its actor's own
abbrev pub AreOwn : List Entry → Type 0
AreOwn log = All (λ (e : Entry). is_own e.actor e.step ≡ true) log

-- it is said by this slot: a unit, a fault or the closing
abbrev pub says : ℕ → Option ℕ → Bool
says c None = false
says c (Some d) = d == c

-- a slot's events among these steps
abbrev pub said_at : ℕ → List Step → List Step
said_at c [] = []
said_at c (s ∷ more) = if says c (slot_of s) then s ∷ said_at c more else said_at c more
