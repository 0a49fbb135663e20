use Rattle.std.proofs.Common.{◌≡◌, take, map}
use Rattle.gm_admin.specs.Views.{status_of}
use Rattle.gm_plain.specs.Listings.{status_line_of}
use Rattle.gm_plain.proofs.lists.status_rows.Given as goal

abbrev pub invariant-loop-function : goal.invariant-loop-function
invariant-loop-function l = map status_of l.rows.items ≡ map (status_line_of l.config l.log.notes) (map (λ name. name.now) (take l.function-index l.functions))
