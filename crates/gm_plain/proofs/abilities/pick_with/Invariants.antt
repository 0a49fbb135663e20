use Rattle.std.proofs.Common.{◌≡◌, drop, map}
use Rattle.gm_notes.specs.Jobs.{pick_with}
use Rattle.gm_plain.specs.Searches.{ability_of}
use Rattle.gm_plain.proofs.abilities.pick_with.Given as goal

abbrev pub invariant-loop-ability : goal.invariant-loop-ability
invariant-loop-ability l = pick_with l.priority (map ability_of l.abilities) l.log.notes ≡ pick_with l.priority (map ability_of (drop l.ability-index l.abilities)) l.log.notes
