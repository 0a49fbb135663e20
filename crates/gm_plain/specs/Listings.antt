-- The rows of the lists, one by one.
use Rattle.std.specs.Prelude.{ℕ, List, map}
use Rattle.gm_admin.specs.Answers.{StatusLine, WorkerLine}
use Rattle.gm_notes.specs.declared.note.Note.{Note}
use Rattle.gm_notes.specs.Settings.{Settings}
use Rattle.gm_notes.specs.Notes.{addr, id}
use Rattle.gm_notes.specs.Jobs.{abilities, total, running, able}

-- the line of `status` of f
abbrev pub status_line_of : Settings → List Note → List ℕ → StatusLine
status_line_of k notes f = record { name = f; total = total f notes; running = running f notes; workers = able k f notes }

-- the functions that the connection in slot c can do
abbrev pub names_of : ℕ → List Note → List (List ℕ)
names_of c notes = map (λ ability. ability.function) (abilities c notes)

-- the line of `workers` of slot c
abbrev pub worker_line_of : List Note → ℕ → WorkerLine
worker_line_of notes c = record { slot = c; addr = addr c notes; id = id c notes; functions = names_of c notes }
