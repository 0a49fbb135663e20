use Rattle.std.proofs.Common.{[], ◌∷◌, ◌++◌, map, if◌then◌else◌, ap, ◌∙◌}
use Rattle.std.specs.Str.{bytes_eq}
use Rattle.std.proofs.lemmas.List.{map-append}
use Rattle.gm_queues.proofs.NameLemmas.{on_ok}
use Rattle.gm_queues.proofs.PositionLemmas.{list_any-missed}
use Rattle.gm_queues.proofs.functions.add_name.Goals as goal

pub returns-clause-names : goal.returns-clause-names
returns-clause-names c =
    let ok = c.insert-is_new.ensures.succeeds c.requires.room in
    let keys = on_ok _ ok c.insert-is_new.ensures.keys in
    let fresh = list_any-missed (λ v. bytes_eq c.args.name.items v.items) c.args.names.now.keys c.requires.fresh in
    ap (map (λ v. v.items)) (keys ∙ ap (λ b. if b then c.args.names.now.keys else c.args.names.now.keys ++ c.args.name ∷ []) fresh)
    ∙ map-append (λ v. v.items) c.args.names.now.keys (c.args.name ∷ [])
