use Rattle.std.proofs.Common.{map}
use Rattle.gm_server.proofs.Outcomes.{says_as, does_as}
use Rattle.gm_server.proofs.run.outcome_of.Goals as goal
use Rattle.gm_server.proofs.run.outcome_of.Goals.{in-Ok, in-Err+in-Some-1, in-Err+in-None-1}

pub returns : goal.returns
returns g c =
    let words = map g.S.AsStr.text c.args.words.now in
    elim c.match-parse_args.branch [
      | in-Ok w ↦ rw w.ended-is (does_as words _ w.run_args-ended.result w.in-Ok.ensures.kinds w.in-Ok.ensures.reads w.run_args-ended.ensures)
      | in-Err+in-Some-1 w ↦ rw w.ended-is (says_as words w.in-Err.error w.print_help_or_error-ended.result w.in-Err.ensures.kinds w.print_help_or_error-ended.ensures)
      | in-Err+in-None-1 w ↦ rw w.ended-is (says_as words w.in-Err.error w.print_help_or_error-ended.result w.in-Err.ensures.kinds w.print_help_or_error-ended.ensures)
    ]
