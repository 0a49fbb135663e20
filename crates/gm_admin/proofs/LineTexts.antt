-- The texts of the lists.
use Rattle.std.proofs.lemmas.Grind.{common_steps}
use Rattle.std.proofs.lemmas.List.Folds.{flat_map-map, length-flat_map-take}

-- what the code that goes over the lines needs
pub ruleset line_texts = (common_steps, flat_map-map, length-flat_map-take)
