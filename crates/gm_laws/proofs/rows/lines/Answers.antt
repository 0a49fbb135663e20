use Rattle.std.proofs.Common.{refl}
use Rattle.std.specs.Fmt.{digits}
use Rattle.gm_laws.proofs.rows.lines.Goals as goal

pub returns-clause-plain_answers : goal.returns-clause-plain_answers
unfolding digits
returns-clause-plain_answers c = refl

pub returns-clause-trailing_nul : goal.returns-clause-trailing_nul
unfolding digits
returns-clause-trailing_nul c = refl

pub returns-clause-faults : goal.returns-clause-faults
unfolding digits
returns-clause-faults c = (refl, refl, refl, refl, refl, refl, refl)

pub returns-clause-workers_text : goal.returns-clause-workers_text
unfolding digits
returns-clause-workers_text c = refl

pub returns-clause-open_connections : goal.returns-clause-open_connections
unfolding digits
returns-clause-open_connections c = refl

pub returns-clause-status_text : goal.returns-clause-status_text
unfolding digits
returns-clause-status_text c = refl

pub returns-clause-admin_lines : goal.returns-clause-admin_lines
unfolding digits
returns-clause-admin_lines c = refl

pub returns-clause-limit_lines : goal.returns-clause-limit_lines
unfolding digits
returns-clause-limit_lines c = refl

pub returns-clause-shutdown_lines : goal.returns-clause-shutdown_lines
unfolding digits
returns-clause-shutdown_lines c = refl

pub returns-clause-shutdowns : goal.returns-clause-shutdowns
unfolding digits
returns-clause-shutdowns c = (refl, refl, refl)

pub returns-clause-shut_down : goal.returns-clause-shut_down
unfolding digits
returns-clause-shut_down c = (refl, refl, refl, refl)

pub returns-clause-modes : goal.returns-clause-modes
unfolding digits
returns-clause-modes c = (refl, refl, refl, refl)

pub returns-clause-shut_slots : goal.returns-clause-shut_slots
unfolding digits
returns-clause-shut_slots c = (refl, refl, refl, refl)

pub returns-clause-refusal_numbers : goal.returns-clause-refusal_numbers
unfolding digits
returns-clause-refusal_numbers c = (refl, refl, refl)

pub returns-clause-settings_in_range : goal.returns-clause-settings_in_range
unfolding digits
returns-clause-settings_in_range c = (refl, refl, refl, refl, refl, refl, refl, refl, refl, refl, refl)
