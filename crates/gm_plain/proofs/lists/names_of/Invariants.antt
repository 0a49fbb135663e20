use Rattle.std.proofs.Common.{◌≡◌, take, map}
use Rattle.gm_plain.specs.Searches.{ability_of}
use Rattle.gm_plain.proofs.lists.names_of.Given as goal

abbrev pub invariant-loop-ability : goal.invariant-loop-ability
invariant-loop-ability l = map (λ name. name.now) l.names.items ≡ map (λ ability. ability.function) (map ability_of (take l.ability-index l.abilities))
