use Rattle.std.proofs.Common.{◌≡◌, [], length, ap, sym, arith}
use Rattle.std.proofs.lemmas.List.Elements.{All-head, All-rest, All-same}
use Rattle.gm_slots.proofs.Numbering.{numbered_more}
use Rattle.gm_slots.proofs.slot.new_slots.Goals as goal

pub new-requires : goal.new-requires
new-requires g c = record {
  desk = All-head (λ desk. desk.witness.seen ≡ []) _ _ (All-same (λ desk. desk.witness.seen ≡ []) _ _ (sym c.in-Some-next.ensures.cases.0) c.loop-pen.invariant.nothing_seen);
  side = ap (λ s. s.passed) c.in-Some-next_sides.ensures.0;
}

pub loop-pen-preserved : goal.loop-pen-preserved
loop-pen-preserved g c = record {
  numbered = numbered_more (λ slot. slot.lane.slot) (λ pen. pen.slot) _ _ _ _ _ _ _ c.loop-pen.invariant.numbered c.in_ok-push.ensures.items c.in-Some.ensures.steps.0 c.in_ok-new-2.ensures;
  paired = omega (arith, ap length c.in-Some-next.ensures.cases.0, ap length c.in-Some.ensures.steps.0, c.loop-pen.invariant.paired);
  nothing_seen = All-rest (λ desk. desk.witness.seen ≡ []) _ _ _ c.in-Some-next.ensures.cases.0 c.loop-pen.invariant.nothing_seen;
  nothing_given = All-rest (λ pen. (pen.witness.seen ≡ []) × (pen.seat.takes ≡ 0)) _ _ _ c.in-Some.ensures.steps.0 c.loop-pen.invariant.nothing_given;
}

pub new-requires-in-loop-pen-2 : goal.new-requires-in-loop-pen-2
new-requires-in-loop-pen-2 g c = record {
  pen = All-head (λ pen. (pen.witness.seen ≡ []) × (pen.seat.takes ≡ 0)) _ _ (All-same (λ pen. (pen.witness.seen ≡ []) × (pen.seat.takes ≡ 0)) _ _ (sym c.in-Some.ensures.steps.0) c.loop-pen.invariant.nothing_given);
  side = ap (λ s. s.passed) c.in-Some-next_sides.ensures.1;
}
