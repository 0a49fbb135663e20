use Rattle.std.proofs.Common.{◌≡◌, ◌∙◌, ◌||◌, ap, sym, subst, map, codes, [], unwrap_or}
use Rattle.clap.specs.Words.{fault_of, HasKind}
use Rattle.gm_options.specs.Options.{ReadsNumber, is_given}
use Rattle.gm_options.specs.Words.{fault_in}
use Rattle.gm_options.proofs.Words.{known, rows, text_of, first_text_of, failing, text_or}
use Rattle.gm_options.proofs.gmd.parse_args.Goals as goal

pub returns-in_err-matches-clause-kinds : goal.returns-in_err-matches-clause-kinds
returns-in_err-matches-clause-kinds g c =
    let has = known (λ app. HasKind (fault_of app (map g.S.AsStr.text c.args.args.now)) c.in_err-matches.field-0.0) _ c.in_ok-command.ensures c.in_err-matches.ensures.kinds in
    failing _ c.from_residual-in_err-matches.result _ (λ e same. subst (HasKind (fault_in (map g.S.AsStr.text c.args.args.now))) (sym same) has) c.from_residual-in_err-matches.ensures.1

pub returns-clause-kinds : goal.returns-clause-kinds
returns-clause-kinds g c = known (λ app. fault_of app (map g.S.AsStr.text c.args.args.now) ≡ []) _ c.in_ok-command.ensures c.in_ok-matches.ensures.kinds

pub returns-clause-reads : goal.returns-clause-reads
returns-clause-reads g c =
    let words = map g.S.AsStr.text c.args.args.now in
    let same = rows _ words c.in_ok-matches.matches c.in_ok-command.ensures c.in_ok-matches.ensures.matches in
    let at = text_of words c.in_ok-matches.matches same in
    let read = c.server_options.result in
    let options = c.server_options.ensures in
    record {
      port = subst (λ text. ReadsNumber 16 text 4730 c.short_number.result) (at (codes "port")) c.short_number.ensures;
      listen = text_or c.get_str.result _ c.unwrap_or.result c.unwrap_or.ensures ∙ ap (λ text. unwrap_or text (codes "0.0.0.0")) (c.get_str.ensures ∙ first_text_of words c.in_ok-matches.matches same (codes "listen"));
      has_address = c.is_either_given.ensures ∙ ap (λ found. is_given (codes "port") found || is_given (codes "listen") found) same;
      name = text_or c.get_str-2.result _ c.unwrap_or-2.result c.unwrap_or-2.ensures ∙ ap (λ text. unwrap_or text (codes "gmd")) (c.get_str-2.ensures ∙ first_text_of words c.in_ok-matches.matches same (codes "name"));
      slots = subst (λ text. ReadsNumber 32 text 64 read.slots) (at (codes "slots")) options.slots;
      max_data = (options.max_data.0, subst (λ text. ReadsNumber 32 text 67108864 options.max_data.0) (at (codes "max-data")) options.max_data.1, options.max_data.2);
      max_line = options.max_line;
      round_robin = options.round_robin ∙ ap (is_given (codes "round-robin")) same;
      job_retries = subst (λ text. ReadsNumber 32 text 0 read.job_retries) (at (codes "job-retries")) options.job_retries;
      as_gearmand = options.as_gearmand ∙ ap (is_given (codes "as-gearmand")) same;
      peer_timeout = subst (λ text. ReadsNumber 16 text 120 c.short_number-2.result) (at (codes "peer-timeout")) c.short_number-2.ensures;
      has_peer_timeout = c.is_given.ensures ∙ ap (is_given (codes "peer-timeout")) same;
      io_threads = subst (λ text. ReadsNumber 16 text 0 c.short_number-3.result) (at (codes "io-threads")) c.short_number-3.ensures;
      has_io_threads = c.is_given-2.ensures ∙ ap (is_given (codes "io-threads")) same;
      check = c.is_given-3.ensures ∙ ap (is_given (codes "check")) same;
      tape = c.is_given-4.ensures ∙ ap (is_given (codes "tape")) same;
    }
