use Rattle.std.proofs.Common.{rules, ◌≡◌, ◌++◌, ◌∷◌, [], sym, ap, ◌∙◌, subst, append_assoc, arith}
use Rattle.std.specs.Prelude.{All}
use Rattle.gm_word.specs.declared.view.WordView.{WordView}
use Rattle.gm_word.specs.Steps.{with_back}
use Rattle.gm_word.specs.Seats.{PenState}
use Rattle.gm_word.proofs.Moves.{join_moves}
use Rattle.gm_word.proofs.Settling.{pen_knows, all_mid, handed_more}
use Rattle.gm_word.proofs.closing.hand_in.Goals as goal

pub join_seat-requires : goal.join_seat-requires
join_seat-requires c =
    let i = c.loop-pen.invariant in
    let book = i.1.book in
    let sits = c.pen.invariant in
    let whole = i.1.all_are ∙ ap (λ l. l ++ i.1.handed) c.in-Some.ensures.items ∙ append_assoc c.pop.new.self.items (c.in-Some.pen ∷ []) i.1.handed in
    let table = all_mid (λ (pen : PenState). pen.table ≡ c.args.table.now) c.pop.new.self.items c.in-Some.pen i.1.handed (subst (All (λ (pen : PenState). pen.table ≡ c.args.table.now)) whole c.requires.pens) in
    let same = ap (λ (pen : PenState). pen.table) c.pen.view_is ∙ table ∙ sym c.table.view_is in (
      search rules,
      same,
      ap (λ m. m.1) sits.knows,
      (let inside = sits.inside in let words = ap (λ t. t.words) same in omega arith),
      join_moves _ _ _ _ _ _ book.first book.knows sits.knows,
    )

pub loop-pen-preserved : goal.loop-pen-preserved
loop-pen-preserved c =
    let i = c.loop-pen.invariant in
    let j = c.join_seat.ensures in
    let pen = pen_knows _ _ _ c.pen.invariant c.pen.view_is in
    let told = j.2 ∙ ap (λ (v : WordView). (with_back c.loop-pen.seat.me.0 v, c.loop-pen.seat.me.1)) pen in
    (j.0 ∙ i.0, handed_more _ _ _ _ _ _ _ i.1 c.in-Some.ensures.items j.1 told)
