use Rattle.std.proofs.Common.{sym, ◌∙◌}
use Rattle.gm_plain.proofs.AbilityLemmas.{first_is_high, first_is_normal, first_is_low}
use Rattle.gm_plain.proofs.abilities.first_for.Goals as goal

pub returns-in-Some : goal.returns-in-Some
returns-in-Some c = first_is_high c.args.function.now c.args.log.now.notes c.args.jobs.now c.in-Some.job c.requires c.in-Some.ensures

pub returns-in-Some-first_in : goal.returns-in-Some-first_in
returns-in-Some-first_in c =
    first_is_normal c.args.function.now c.args.log.now.notes c.args.jobs.now c.in-Some-first_in.job c.requires (sym c.in_default.is ∙ c.first_in.ensures) c.in-Some-first_in.ensures

pub returns : goal.returns
returns c =
    c.first_in-3.ensures
    ∙ first_is_low c.args.function.now c.args.log.now.notes c.args.jobs.now c.requires (sym c.in_default.is ∙ c.first_in.ensures) (sym c.in_default-first_in.is ∙ c.first_in-2.ensures)
