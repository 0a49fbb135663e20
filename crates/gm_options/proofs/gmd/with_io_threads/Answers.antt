use Rattle.std.proofs.Common.{rules, ap, ◌≡◌, ◌∙◌, pos, codes, false}
use Rattle.std.proofs.lemmas.Result.{IfOk-weaker}
use Rattle.clap.specs.Words.{app_of, rule_of, with_rule}
use Rattle.gm_options.specs.Options.{number_rule}
use Rattle.gm_options.proofs.gmd.with_io_threads.Goals as goal

pub returns : goal.returns
returns c =
    let rule : rule_of c.help_heading.result ≡ number_rule (codes "io-threads") (pos 0) (pos 64) (codes "0") = search rules in
    let local : c.help_heading.result.global ≡ false = search rules in
    IfOk-weaker c.arg.result _ _ (λ made adds. adds.shape local ∙ ap (with_rule (app_of c.args.command)) rule) c.arg.ensures
