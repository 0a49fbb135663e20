use Rattle.std.proofs.Common.{List, All, map, ◌++◌, IfOk, IfErr, sym, subst}
use Rattle.gm_word.specs.Seats.{PenState}
use Rattle.gm_shared.specs.declared.tape.Actor.{Actor}
use Rattle.gm_shared.specs.declared.tape.Told.{Told}
use Rattle.gm_shared.specs.Shared.{GuardedState, HasSeenOwn, IsShareOf, told_by, IsSettled, WhySo}
use Rattle.gm_shared.proofs.settling.settle.Goals as goal

pub end_book-requires-clause-exact : goal.end_book-requires-clause-exact
end_book-requires-clause-exact g c =
    subst (λ (x : GuardedState). All (IsShareOf g.K.BookName.taped x.log) (map told_by c.in-Ok.shares.items)) (sym c.in-Ok.ensures.kept) c.in-Ok.ensures.exact

pub returns-in-Ok-clause-settled : goal.returns-in-Ok-clause-settled
returns-in-Ok-clause-settled g c =
    let witnesses = map (λ desk. desk.witness) c.args.desks.items ++ map (λ pen. pen.witness) c.args.pens.items in
    let seen = subst (λ (x : GuardedState). All (HasSeenOwn x.log) witnesses) (sym c.in-Ok.ensures.kept) c.in-Ok.ensures.seen in
    subst (λ (z : List (Actor × List Told) × List PenState). IfOk c.end_book.result (λ settled. IsSettled g.K.BookName.settings g.K.BookName.taped settled z.0 witnesses z.1))
    (λ i. (c.in-Ok.ensures.shares i, c.in-Ok.ensures.seats i)) (c.end_book.ensures.settled witnesses seen)

pub returns-in-Ok-clause-unsettled : goal.returns-in-Ok-clause-unsettled
returns-in-Ok-clause-unsettled g c =
    let witnesses = map (λ desk. desk.witness) c.args.desks.items ++ map (λ pen. pen.witness) c.args.pens.items in
    let seen = subst (λ (x : GuardedState). All (HasSeenOwn x.log) witnesses) (sym c.in-Ok.ensures.kept) c.in-Ok.ensures.seen in
    subst (λ (z : List (Actor × List Told)). IfErr c.end_book.result (λ error. WhySo g.K.BookName.settings g.K.BookName.taped error z witnesses))
    c.in-Ok.ensures.shares (c.end_book.ensures.unsettled witnesses seen)
