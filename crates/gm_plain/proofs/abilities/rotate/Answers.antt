use Rattle.std.proofs.Common.{sym, ◌∙◌}
use Rattle.gm_plain.specs.Searches.{ability_of}
use Rattle.gm_plain.proofs.Turns.{turned_at, turned_nowhere}
use Rattle.gm_plain.proofs.abilities.rotate.Goals as goal

pub returns-in-Some : goal.returns-in-Some
returns-in-Some c =
    let is = rw c.deref.ensures.value at c.in-Some.ensures in
    turned_at ability_of c.args.last.now c.args.abilities.now.items c.rotate_left.new.self.items c.in-Some.i is c.rotate_left.ensures.items

pub returns-in_default : goal.returns-in_default
returns-in_default c =
    let is = rw c.deref.ensures.value at (sym c.in_default.is ∙ c.position.ensures) in
    turned_nowhere ability_of c.args.last.now c.args.abilities.now.items is
