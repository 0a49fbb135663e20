use Rattle.std.proofs.Common.{refl, arith}
use Rattle.atomic_table.specs.Table.{keeps}
use Rattle.gm_ghost.proofs.cell.Ghost.update.Goals as goal

pub load-zero-requires : goal.load-zero-requires
load-zero-requires g c = (c.self.invariant.0, (let one = c.self.invariant.1 in omega arith), λ s _ _ _ _. (g.E.Worth.worth, keeps, tt, tt, refl))
