use Rattle.std.proofs.Common.{◌≡◌, ◌++◌, All, [], length, map}
use Rattle.gm_slots.proofs.slot.new_slots.Given as goal

abbrev pub invariant-loop-pen : goal.invariant-loop-pen
invariant-loop-pen g l = record {
  numbered : map (λ slot. slot.lane.slot) l.slots.items ++ map (λ pen. pen.slot) l.pen-iterator.rest.items ≡ map (λ pen. pen.slot) l.fn.pens.items;
  paired : length l.desks_left.rest.items ≡ length l.pen-iterator.rest.items;
  nothing_seen : All (λ desk. desk.witness.seen ≡ []) l.desks_left.rest.items;
  nothing_given : All (λ pen. (pen.witness.seen ≡ []) × (pen.seat.takes ≡ 0)) l.pen-iterator.rest.items;
}
