-- The contents of commands and lines, without where their bytes lie in memory.
use Rattle.std.specs.Prelude.{ℕ, Result, Ok, Err, map}
use Rattle.gm_admin.specs.declared.command.Command.{Command}
use Rattle.gm_admin.specs.declared.command.Command.TheVariants.{Status, Workers, MaxQueue, Version, Shutdown}
use Rattle.gm_admin.specs.declared.fault.AdminFault.{AdminFault}
use Rattle.gm_admin.specs.declared.fault.AdminFault.TheVariants.{UnknownCommand, MissingName, BadSize}
use Rattle.gm_admin.specs.declared.lines.StatusRow.{StatusRow}
use Rattle.gm_admin.specs.declared.lines.WorkerRow.{WorkerRow}
use Rattle.gm_admin.specs.Commands.{Commanded}
use Rattle.gm_admin.specs.Commands as twin
use Rattle.gm_admin.specs.Answers.{StatusLine, WorkerLine}

abbrev pub commanded_of : Command → Commanded
commanded_of Status = twin.Status
commanded_of Workers = twin.Workers
commanded_of (MaxQueue name size) = twin.MaxQueue name.now size
commanded_of Version = twin.Version
commanded_of (Shutdown graceful) = twin.Shutdown graceful

-- the same of what reading answers
abbrev pub commanded_result : Result Command AdminFault → Result Commanded AdminFault
commanded_result (Ok command) = Ok (commanded_of command)
commanded_result (Err fault) = Err fault

-- the number of a refusal
abbrev pub number_of_fault : AdminFault → ℕ
number_of_fault UnknownCommand = 7
number_of_fault MissingName = 8
number_of_fault BadSize = 9

abbrev pub status_of : StatusRow → StatusLine
status_of line = record { name = line.name.now; total = line.total; running = line.running; workers = line.workers }

abbrev pub worker_of : WorkerRow → WorkerLine
worker_of line = record { slot = line.slot; addr = line.addr.now; id = line.id.now; functions = map (λ name. name.now) line.functions.items }
