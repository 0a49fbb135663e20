-- Connections.
use Rattle.std.specs.Prelude.{ℕ, ◌-◌, Bool, true, false, not, ◌==◌, max, List, [], ◌++◌, filter, nat_eq, is_some, Option, Some, None}
use Rattle.std.specs.List.{position}
use Rattle.std.specs.Map.{lookup, keys_of}
use Rattle.indexmap.specs.IndexMap.{insert_entry}
use Rattle.gm_notes.specs.declared.states.Phase.{Phase}
use Rattle.gm_notes.specs.declared.states.Phase.TheVariants.{Awake}

-- Whether it is open, and whether it is shut; the option; whether it sleeps; where it comes from; its id;
-- the functions that it can do, in the order added, each with its timeout; the function of its last job, if it
-- was given one; the bytes that wait for it, and the room that is reserved for more.
pub record Connection : Type 0 where
  pub is_open : Bool
  pub is_shut : Bool
  pub has_option : Bool
  pub phase : Phase
  pub addr : List ℕ
  pub id : List ℕ
  pub abilities : List (ℕ × ℕ)
  pub last : Option ℕ
  pub waiting : List ℕ
  pub room : ℕ

-- a slot where no connection is
abbrev pub closed : Connection
closed =
    record { is_open = false; is_shut = false; has_option = false; phase = Awake; addr = []; id = []; abilities = []; last = None; waiting = []; room = 0 }

abbrev pub opened : List ℕ → Connection
opened addr = record closed { is_open = true; addr = addr }

abbrev pub shut : Connection → Connection
shut conn = record conn { is_shut = true }

abbrev pub with_option : Connection → Connection
with_option conn = record conn { has_option = true }

abbrev pub with_phase : Phase → Connection → Connection
with_phase phase conn = record conn { phase = phase }

abbrev pub with_id : List ℕ → Connection → Connection
with_id id conn = record conn { id = id }

-- an ability that was there keeps its position and takes the new timeout; a new one goes to the end
abbrev pub with_ability : ℕ → ℕ → Connection → Connection
with_ability f timeout conn = record conn { abilities = insert_entry nat_eq conn.abilities f timeout }

abbrev pub without_ability : ℕ → Connection → Connection
without_ability f conn = record conn { abilities = filter (λ ability. not (ability.0 == f)) conn.abilities }

abbrev pub without_abilities : Connection → Connection
without_abilities conn = record conn { abilities = [] }

abbrev pub with_last : ℕ → Connection → Connection
with_last f conn = record conn { last = Some f }

-- room for n bytes beyond those that wait
abbrev pub with_room : ℕ → Connection → Connection
with_room n conn = record conn { room = max conn.room n }

-- the bytes wait after the others, and take this much of the reserved room
abbrev pub with_bytes : List ℕ → ℕ → Connection → Connection
with_bytes bytes cost conn = record conn { waiting = conn.waiting ++ bytes; room = conn.room - cost }

-- nothing waits, and no room is reserved
abbrev pub emptied : Connection → Connection
emptied conn = record conn { waiting = []; room = 0 }

-- the timeout of the ability for a function
abbrev pub timeout_of : ℕ → Connection → Option ℕ
timeout_of f conn = lookup (nat_eq f) conn.abilities

-- the position of the ability for a function
abbrev pub index_of : ℕ → Connection → Option ℕ
index_of f conn = position (nat_eq f) (keys_of conn.abilities)

abbrev pub is_able : ℕ → Connection → Bool
is_able f conn = is_some (timeout_of f conn)
