use Rattle.std.proofs.Common.{sym, ◌∙◌}
use Rattle.gm_plain.specs.Searches.{ability_of}
use Rattle.gm_plain.proofs.AbilityLemmas.{pick_at}
use Rattle.gm_plain.proofs.abilities.pick_from.Goals as goal

pub returns-in-Some : goal.returns-in-Some
returns-in-Some c =
    sym (c.loop-ability.invariant
    ∙ pick_at ability_of c.args.abilities.now c.loop-ability.ability-index _ c.args.log.now.notes c.in-Some.job c.loop-ability-test.true c.in-Some.ensures)
