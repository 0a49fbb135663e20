-- The one history of a book: a list of entries, the newest first, each of its actor.
use Rattle.std.specs.Prelude.{ℕ, List}
use Rattle.gm_ghost.specs.Lists as lists
use Rattle.gm_shared.specs.declared.tape.Entry.{Entry}
use Rattle.gm_shared.specs.Tapes.{actor_code}

-- whose an entry is
abbrev pub entry_owner : Entry → ℕ
entry_owner e = actor_code e.actor

-- the entries of one actor
abbrev pub calls_by : ℕ → List Entry → List Entry
calls_by who log = lists.entries_by entry_owner who log

-- The history goes on from what an actor has seen, and nothing in what is newer is of that actor.
abbrev pub Knows : List Entry → ℕ → List Entry → Type 0
Knows log who seen = lists.Knows entry_owner log who seen

-- each is of this actor
abbrev pub AreOf : ℕ → List Entry → Type 0
AreOf who es = lists.AreOf entry_owner who es

-- each is of an actor below this number
abbrev pub AreBelow : ℕ → List Entry → Type 0
AreBelow n es = lists.AreBelow entry_owner n es
