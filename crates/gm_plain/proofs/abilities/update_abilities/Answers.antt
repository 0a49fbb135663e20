use Rattle.std.proofs.Common.{◌≡◌, rules, not, map, filter, ap, ◌∙◌}
use Rattle.std.specs.Str.{bytes_eq}
use Rattle.std.proofs.lemmas.Fn.{filter_same}
use Rattle.gm_notes.specs.Jobs.{is_of}
use Rattle.gm_plain.specs.Searches.{ability_of}
use Rattle.gm_plain.proofs.AbilityLemmas.{map_filter, cant_here}
use Rattle.gm_plain.proofs.abilities.update_abilities.Goals as goal

pub returns-in-Cant : goal.returns-in-Cant
returns-in-Cant c =
    let kept : c.retain.new.self.items ≡ filter (λ x. not (bytes_eq x.function.now c.in-Cant.function)) c.args.abilities.now.items =
    filter_same _ _ _ (λ x b f' k. search rules) _ _ c.retain.ensures.filtered in
    ap (map ability_of) kept ∙ map_filter ability_of (λ ability. not (is_of c.in-Cant.function ability)) c.args.abilities.now.items
    ∙ cant_here c.args.slot c.in-Cant.c c.in-Cant.function c.args.note.now (map ability_of c.args.abilities.now.items) c.in-Cant.is c.if-c-slot-5.true
