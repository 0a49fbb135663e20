use Rattle.std.proofs.Common.{sym, ◌∙◌}
use Rattle.gm_plain.specs.Searches.{ability_of}
use Rattle.gm_plain.proofs.AbilityLemmas.{pick_with_at, pick_with_past}
use Rattle.gm_plain.proofs.abilities.pick_with.Goals as goal

pub returns-in-Some : goal.returns-in-Some
returns-in-Some c =
    sym (c.loop-ability.invariant
    ∙ pick_with_at ability_of c.args.priority c.args.abilities.now c.loop-ability.ability-index _ c.args.log.now.notes c.args.jobs.now c.in-Some.job c.loop-ability-test.true c.requires c.in-Some.ensures)

pub loop-ability-preserved : goal.loop-ability-preserved
loop-ability-preserved c =
    c.loop-ability.invariant
    ∙ pick_with_past ability_of c.args.priority c.args.abilities.now c.loop-ability.ability-index _ c.args.log.now.notes c.args.jobs.now c.loop-ability-test.true c.requires (sym c.in_default.is ∙ c.first_in.ensures)
