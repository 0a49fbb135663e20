-- The rows of the lists for administrators, as the tables tell them.
use Rattle.std.specs.Prelude.{ℕ, ◌+◌, ◌&&◌, Bool, List, length, map, filter}
use Rattle.gm_admin.specs.Answers.{StatusLine, WorkerLine}
use Rattle.gm_notes.specs.Notes.{slots_from}
use Rattle.gm_conns.specs.Connections.{Connection, is_able}
use Rattle.gm_conns.specs.ConnTables.{conn}
use Rattle.gm_conns.specs.ConnTables as conns
use Rattle.gm_queues.specs.FunctionTables.{waiting_for, running_of}
use Rattle.gm_queues.specs.FunctionTables as queues
use Rattle.gm_core.specs.Holds.{name_at, ability_named}

-- a connection that is open and can do the function
abbrev pub is_worker : ℕ → Connection → Bool
is_worker f x = x.is_open && is_able f x

abbrev pub workers : conns.Table → ℕ → ℕ
workers table f = length (filter (λ c. is_worker f (conn table c)) (slots_from 0 (length table.conns)))

-- the line of `status` of the function of this number
abbrev pub status_line_of : conns.Table → queues.Table → ℕ → StatusLine
status_line_of connections functions f =
    record { name = name_at functions.names f; total = length (waiting_for functions f) + running_of functions f; running = running_of functions f; workers = workers connections f }

abbrev pub status_lines : conns.Table → queues.Table → List StatusLine
status_lines connections functions = map (status_line_of connections functions) (slots_from 0 (length functions.names))

-- the functions that a connection can do, by name
abbrev pub names_of : List (List ℕ) → Connection → List (List ℕ)
names_of names x = map (λ ability. ability.function) (map (ability_named names) x.abilities)

-- the line of `workers` of a slot
abbrev pub worker_line_of : conns.Table → queues.Table → ℕ → WorkerLine
worker_line_of connections functions c =
    record { slot = c; addr = (conn connections c).addr; id = (conn connections c).id; functions = names_of functions.names (conn connections c) }

abbrev pub worker_lines : conns.Table → queues.Table → List WorkerLine
worker_lines connections functions = map (worker_line_of connections functions) (filter (λ c. (conn connections c).is_open) (slots_from 0 (length connections.conns)))
