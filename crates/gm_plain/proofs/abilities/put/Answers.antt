use Rattle.std.proofs.Common.{◌∷◌, [], map, sym, ap, ◌∙◌}
use Rattle.std.proofs.lemmas.List.{map-set, map-append}
use Rattle.gm_plain.specs.Searches.{ability_of}
use Rattle.gm_plain.proofs.AbilityLemmas.{put_at_position, put_at_end}
use Rattle.gm_plain.proofs.abilities.put.Goals as goal

pub returns-in-Some : goal.returns-in-Some
returns-in-Some c =
    let is = rw c.deref.ensures.value at c.in-Some.ensures in
    map-set ability_of c.args.abilities.now.items c.in-Some.i c.args.ability
    ∙ sym (put_at_position ability_of c.args.ability.function.now c.args.ability.timeout c.args.abilities.now.items c.in-Some.i is)

pub returns-in_ok-push-in-None : goal.returns-in_ok-push-in-None
returns-in_ok-push-in-None c =
    let is = rw c.deref.ensures.value at c.in-None.ensures in
    ap (map ability_of) c.in_ok-push-in-None.ensures.items
    ∙ (map-append ability_of c.args.abilities.now.items (c.args.ability ∷ [])
    ∙ sym (put_at_end ability_of c.args.ability.function.now c.args.ability.timeout c.args.abilities.now.items is))
