use Rattle.std.proofs.Common.{rules, map, refl, ap, ◌∙◌, subst}
use Rattle.std.proofs.lemmas.List.{map-append}
use Rattle.gm_shared.specs.declared.tape.Actor.TheVariants as actors
use Rattle.gm_shared.specs.Shared.{GuardedState, told_by, HasSeenOwn}
use Rattle.gm_shared.proofs.Ending.{all_before, moved}
use Rattle.gm_shared.proofs.settling.desk_shares.Goals as goal

pub loop-desk-preserved : goal.loop-desk-preserved
loop-desk-preserved g c = record {
  shares_are = moved (λ desk. (actors.Desk desk.number, desk.share.items)) _ _ _ _ _ c.in-Some-desk.desk _ (ap (map told_by) c.push_reserved.ensures.items ∙ map-append told_by c.loop-desk.shares.items _)
      c.in-Some-desk.ensures.steps.0 refl c.loop-desk.invariant.shares_are;
  room = search rules;
  seen = all_before (λ desk. HasSeenOwn c.args.guarded.now.log desk.witness) c.args.desks.items _ _ c.in-Some-desk.desk c.in-Some-desk.ensures.steps.0
      (subst (λ (x : GuardedState). HasSeenOwn x.log c.in-Some-desk.desk.witness) c.loop-desk.invariant.kept c.give_back.ensures.seen) c.loop-desk.invariant.seen;
  kept = c.give_back.ensures.kept ∙ c.loop-desk.invariant.kept;
}
