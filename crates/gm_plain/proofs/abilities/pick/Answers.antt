use Rattle.std.proofs.Common.{map, ◌∙◌}
use Rattle.gm_plain.specs.Searches.{ability_of}
use Rattle.gm_plain.proofs.Picks.{picked_waits, highest_picked_waits}
use Rattle.gm_plain.proofs.abilities.pick.Goals as goal
use Rattle.gm_plain.proofs.abilities.pick.Goals.{then-as_gearmand, else-as_gearmand}

pub returns-clause-waits : goal.returns-clause-waits
returns-clause-waits c =
    elim c.if-as_gearmand.branch [
      | then-as_gearmand w ↦ highest_picked_waits (map ability_of w.deref-then-as_gearmand.result.now) c.args.log.now.notes c.if-as_gearmand.result (w.result-is ∙ w.pick_highest.ensures)
      | else-as_gearmand w ↦ picked_waits (map ability_of w.deref-else-as_gearmand-2.result.now) c.args.log.now.notes c.if-as_gearmand.result (w.result-is ∙ w.pick_from.ensures)
    ]
