use Rattle.std.proofs.Common.{All, map, ap, sym, subst, ◌∙◌, ◌++◌}
use Rattle.std.proofs.lemmas.List.Elements.{All-append, All-map}
use Rattle.gm_shared.specs.declared.tape.Actor.TheVariants as actors
use Rattle.gm_shared.specs.Shared.{GuardedState, HasSeenOwn, IsShareOf}
use Rattle.gm_shared.proofs.Shares.{exact_of}
use Rattle.gm_shared.proofs.settling.gather.Goals as goal

pub returns-clause-exact : goal.returns-clause-exact
returns-clause-exact g c =
    let taped = g.K.BookName.taped in
    let log = c.args.guarded.now.log in
    let is = c.in_ok-seats.ensures.shares ∙ ap (λ l. l ++ map (λ pen. (actors.Pen pen.slot, pen.share.items)) c.args.pens.items) c.in_ok-shares.ensures.shares in
    subst (λ shares. All (IsShareOf taped log) shares) (sym is)
    (All-append (IsShareOf taped log) (map (λ desk. (actors.Desk desk.number, desk.share.items)) c.args.desks.items) (map (λ pen. (actors.Pen pen.slot, pen.share.items)) c.args.pens.items)
    (All-map (IsShareOf taped log) (λ desk. (actors.Desk desk.number, desk.share.items)) c.args.desks.items
    (exact_of taped log (λ desk. actors.Desk desk.number) (λ desk. desk.share.items) (λ desk. desk.witness) (λ desk. desk.told) (λ desk. desk.witnessed.1) c.args.desks.items c.in_ok-shares.ensures.seen))
    (All-map (IsShareOf taped log) (λ pen. (actors.Pen pen.slot, pen.share.items)) c.args.pens.items
    (exact_of taped log (λ pen. actors.Pen pen.slot) (λ pen. pen.share.items) (λ pen. pen.witness) (λ pen. pen.told) (λ pen. pen.witnessed.1) c.args.pens.items
    (subst (λ (x : GuardedState). All (λ pen. HasSeenOwn x.log pen.witness) c.args.pens.items) c.in_ok-shares.ensures.kept c.in_ok-seats.ensures.seen))))

pub returns-clause-seen : goal.returns-clause-seen
returns-clause-seen g c =
    All-append (HasSeenOwn c.args.guarded.now.log) (map (λ desk. desk.witness) c.args.desks.items) (map (λ pen. pen.witness) c.args.pens.items)
    (All-map (HasSeenOwn c.args.guarded.now.log) (λ desk. desk.witness) c.args.desks.items c.in_ok-shares.ensures.seen)
    (All-map (HasSeenOwn c.args.guarded.now.log) (λ pen. pen.witness) c.args.pens.items
    (subst (λ (x : GuardedState). All (λ pen. HasSeenOwn x.log pen.witness) c.args.pens.items) c.in_ok-shares.ensures.kept c.in_ok-seats.ensures.seen))
