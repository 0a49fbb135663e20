use Rattle.std.proofs.Common.{ap, sym, ◌∙◌, arith}
use Rattle.gm_ghost.proofs.Moves.{make_moves}
use Rattle.gm_ghost.proofs.list.Keeper.new_witness.Goals as goal

pub split_seat-requires : goal.split_seat-requires
split_seat-requires g c =
    let sits = c.self.invariant in
    let table = ap (λ k. k.table) c.self.view_is ∙ (c.requires ∙ sym c.list.view_is) in
    (table, (let one = c.list.invariant.0 in omega arith), make_moves g.E.Owned.owner _ sits.page _ sits.first sits.knows sits.free)
