use Rattle.std.proofs.Common.{rules, ap, ap₂, ◌≡◌, ◌∙◌, false}
use Rattle.std.proofs.lemmas.Result.{IfOk-weaker}
use Rattle.clap.specs.Words.{app_of, rule_of, with_rule}
use Rattle.gm_options.specs.Options.{slots_rule, max_data_rule, round_robin_rule, job_retries_rule, as_gearmand_rule}
use Rattle.gm_options.proofs.options.with_server_options.Goals as goal

pub returns-clause-options : goal.returns-clause-options
returns-clause-options c =
    let slots : rule_of c.help_heading.result ≡ slots_rule = search rules in
    let max_data : rule_of c.help_heading-2.result ≡ max_data_rule = search rules in
    let round_robin : rule_of c.help_heading-3.result ≡ round_robin_rule = search rules in
    let job_retries : rule_of c.help_heading-4.result ≡ job_retries_rule = search rules in
    let as_gearmand : rule_of c.help_heading-5.result ≡ as_gearmand_rule = search rules in
    let first : c.help_heading.result.global ≡ false = search rules in
    let second : c.help_heading-2.result.global ≡ false = search rules in
    let third : c.help_heading-3.result.global ≡ false = search rules in
    let fourth : c.help_heading-4.result.global ≡ false = search rules in
    let fifth : c.help_heading-5.result.global ≡ false = search rules in
    let one = c.in_ok-arg.ensures.shape first ∙ ap (λ rule. with_rule (app_of c.args.command) rule) slots in
    let two = c.in_ok-arg-2.ensures.shape second ∙ ap₂ with_rule one max_data in
    let three = c.in_ok-arg-3.ensures.shape third ∙ ap₂ with_rule two round_robin in
    let four = c.in_ok-arg-4.ensures.shape fourth ∙ ap₂ with_rule three job_retries in
    IfOk-weaker c.arg-5.result _ _ (λ made adds. adds.shape fifth ∙ ap₂ with_rule four as_gearmand) c.arg-5.ensures

pub returns-clause-broken : goal.returns-clause-broken
returns-clause-broken c =
    IfOk-weaker c.arg-5.result _ _
    (λ made adds. adds.broken ∙ c.in_ok-arg-4.ensures.broken ∙ c.in_ok-arg-3.ensures.broken ∙ c.in_ok-arg-2.ensures.broken ∙ c.in_ok-arg.ensures.broken) c.arg-5.ensures
