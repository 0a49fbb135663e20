use Rattle.std.proofs.Common.{◌≡◌, [], rules, ap, ◌∙◌}
use Rattle.gm_shared.proofs.Keeping.{all_left, next_left, numbers_grow, all_more, made_more}
use Rattle.gm_shared.proofs.shared.new_owners.Goals as goal

pub loop-seat-init : goal.loop-seat-init
loop-seat-init g c = record {
  desks_are = search rules;
  pens_are = search rules;
  desks_new = search rules;
  pens_new = search rules;
  desk_count = search rules;
  pen_count = search rules;
  room = search rules;
  left = all_left _ _ _ (c.into_iter-seat-iterator.ensures.into_iter_gives.0 ∙ c.requires.seats);
  made = search rules;
}

pub new-requires-in-loop-seat-clause-seat : goal.new-requires-in-loop-seat-clause-seat
new-requires-in-loop-seat-clause-seat g c =
    let next = next_left _ _ _ _ _ _ c.loop-seat.invariant.left c.in-Some.ensures.steps.0 in
    (ap (λ p. p.table) next.pen_is, ap (λ p. p.slot) next.pen_is)

pub new-requires-clause-nothing_seen : goal.new-requires-clause-nothing_seen
new-requires-clause-nothing_seen g c = ap (λ f. f.seen) c.new_witness.ensures.witness ∙ c.loop-seat.invariant.made.empty

pub new-requires-in-loop-seat-clause-nothing_seen : goal.new-requires-in-loop-seat-clause-nothing_seen
new-requires-in-loop-seat-clause-nothing_seen g c =
    ap (λ f. f.seen) c.new_witness-in-loop-seat.ensures.witness ∙ (ap (λ k. k.log) c.new_witness.ensures.keeper ∙ c.loop-seat.invariant.made.empty)

pub loop-seat-preserved : goal.loop-seat-preserved
loop-seat-preserved g c =
    let next = next_left _ _ _ _ _ _ c.loop-seat.invariant.left c.in-Some.ensures.steps.0 in
    record {
      desks_are = numbers_grow (λ desk. desk.number) _ _ _ _ c.push_reserved.ensures.items c.loop-seat.invariant.desks_are c.new.ensures.number;
      pens_are = numbers_grow (λ pen. pen.slot) _ _ _ _ c.push_reserved-in-loop-seat.ensures.items c.loop-seat.invariant.pens_are c.new-in-loop-seat.ensures.slot;
      desks_new = all_more (λ desk. desk.witness.seen ≡ []) _ _ _ c.push_reserved.ensures.items c.loop-seat.invariant.desks_new
          (ap (λ f. f.seen) c.new.ensures.witness ∙ (ap (λ f. f.seen) c.new_witness.ensures.witness ∙ c.loop-seat.invariant.made.empty));
      pens_new = all_more (λ pen. (pen.witness.seen ≡ []) × (pen.seat.takes ≡ 0)) _ _ _ c.push_reserved-in-loop-seat.ensures.items c.loop-seat.invariant.pens_new (
        ap (λ f. f.seen) c.new-in-loop-seat.ensures.witness ∙ (ap (λ f. f.seen) c.new_witness-in-loop-seat.ensures.witness ∙ (ap (λ k. k.log) c.new_witness.ensures.keeper ∙ c.loop-seat.invariant.made.empty)),
        ap (λ p. p.takes) c.new-in-loop-seat.ensures.seat ∙ ap (λ p. p.takes) next.pen_is,
      );
      desk_count = search rules;
      pen_count = search rules;
      room = search rules;
      left = next.left;
      made = made_more _ _ _ _ _ c.loop-seat.invariant.made c.new_witness.ensures.keeper c.new_witness-in-loop-seat.ensures.keeper;
    }
