-- The numbers of errors, and the statuses that a program ends with whose server ended so.
use Rattle.std.specs.Prelude.{ℕ, Result, Ok, Err}
use Rattle.gm_report.specs.declared.error.ServeError.{ServeError}
use Rattle.gm_report.specs.declared.error.ServeError.TheVariants as errors
use Rattle.gm_report.specs.declared.summary.Summary.{Summary}

abbrev pub serve_error_number : ServeError → ℕ
serve_error_number errors.Memory = 6
serve_error_number errors.Differs = 16
serve_error_number errors.Listen = 21
serve_error_number errors.Threads = 22

abbrev pub serve_error_status : ServeError → ℕ
serve_error_status errors.Memory = 3
serve_error_status errors.Differs = 4
serve_error_status errors.Listen = 3
serve_error_status errors.Threads = 3

-- of what is said of a server
abbrev pub summary_status : Result Summary ServeError → ℕ
summary_status (Ok summary) = 0
summary_status (Err error) = serve_error_status error
