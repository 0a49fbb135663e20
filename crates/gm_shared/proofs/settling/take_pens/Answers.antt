use Rattle.std.proofs.Common.{◌≡◌, rules, map, All, refl, sym, ap, ◌∙◌, subst}
use Rattle.std.proofs.lemmas.List.{map-append}
use Rattle.std.proofs.lemmas.List.Elements.{All-push}
use Rattle.gm_shared.specs.declared.tape.Actor.TheVariants as actors
use Rattle.gm_shared.specs.Shared.{GuardedState, told_by, HasSeenOwn}
use Rattle.gm_shared.proofs.Ending.{all_before, moved}
use Rattle.gm_shared.proofs.settling.take_pens.Goals as goal

pub loop-pen-preserved : goal.loop-pen-preserved
loop-pen-preserved g c = record {
  seats_are = moved (λ pen. pen.seat) _ _ _ _ _ c.in-Some.pen _ c.push_reserved-in-loop-pen.ensures.items c.in-Some.ensures.steps.0 refl c.loop-pen.invariant.seats_are;
  room = search rules;
  named = subst (λ seats. All (λ seat. seat.table ≡ g.K.BookName.table) seats) (sym c.push_reserved-in-loop-pen.ensures.items)
      (All-push (λ seat. seat.table ≡ g.K.BookName.table) c.loop-pen.seats.items c.in-Some.pen.seat c.loop-pen.invariant.named c.in-Some.pen.named);
  shares_are = moved (λ pen. (actors.Pen pen.slot, pen.share.items)) _ _ _ _ _ c.in-Some.pen _ (ap (map told_by) c.push_reserved.ensures.items ∙ map-append told_by c.loop-pen.shares.items _)
      c.in-Some.ensures.steps.0 refl c.loop-pen.invariant.shares_are;
  room_for_shares = search rules;
  seen = all_before (λ pen. HasSeenOwn c.args.guarded.now.log pen.witness) c.args.pens.items _ _ c.in-Some.pen c.in-Some.ensures.steps.0
      (subst (λ (x : GuardedState). HasSeenOwn x.log c.in-Some.pen.witness) c.loop-pen.invariant.kept c.give_back.ensures.seen) c.loop-pen.invariant.seen;
  kept = c.give_back.ensures.kept ∙ c.loop-pen.invariant.kept;
}
