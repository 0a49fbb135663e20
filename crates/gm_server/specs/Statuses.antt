-- The statuses that the program ends with.
use Rattle.std.specs.Prelude.{ℕ, Result, Ok, Err}
use Rattle.gm_report.specs.Statuses.{serve_error_status}
use Rattle.gm_slots.specs.Served.{served_status}
use Rattle.gm_server.specs.declared.outcome.RunError.{RunError}
use Rattle.gm_server.specs.declared.outcome.RunError.TheVariants as errors
use Rattle.gm_server.specs.declared.outcome.Outcome.{Outcome}
use Rattle.gm_server.specs.declared.outcome.Outcome.TheVariants as outcomes

abbrev pub run_status : RunError → ℕ
run_status errors.Arguments = 2
run_status errors.Name = 2
run_status errors.AddressBesideSocket = 2
run_status errors.SocketCount = 2
run_status (errors.Socket error) = 3
run_status (errors.Listen address error) = 3
run_status (errors.Taken address error) = 3
run_status errors.Seed = 3
run_status (errors.Events error) = 3
run_status errors.Output = 3
run_status (errors.Serve error) = 3
run_status (errors.Ended error) = serve_error_status error

-- however the program ended
abbrev pub ended_status : Result Outcome RunError → ℕ
ended_status (Ok outcomes.Said) = 0
ended_status (Ok (outcomes.Served served)) = served_status served
ended_status (Err error) = run_status error
