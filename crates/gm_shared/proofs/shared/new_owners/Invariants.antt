use Rattle.std.proofs.Common.{◌≡◌, ◌≤◌, ◌*◌, map, vec_len, All, []}
use Rattle.std.specs.Prelude.{vec_capacity}
use Rattle.gm_shared.specs.Shared.{HasMade, numbers_below}
use Rattle.gm_shared.proofs.Keeping.{PensLeft}
use Rattle.gm_shared.proofs.shared.new_owners.Given as goal

abbrev pub invariant-loop-seat : goal.invariant-loop-seat
invariant-loop-seat g l = record {
  desks_are : map (λ desk. desk.number) l.desks.items ≡ numbers_below l.slot;
  pens_are : map (λ pen. pen.slot) l.pens.items ≡ numbers_below l.slot;
  desks_new : All (λ desk. desk.witness.seen ≡ []) l.desks.items;
  pens_new : All (λ pen. (pen.witness.seen ≡ []) × (pen.seat.takes ≡ 0)) l.pens.items;
  desk_count : vec_len l.desks ≡ l.slot;
  pen_count : vec_len l.pens ≡ l.slot;
  room : (l.fn.slots ≤ vec_capacity l.desks) × (l.fn.slots ≤ vec_capacity l.pens);
  left : PensLeft g.K.BookName.table l.fn.slots l.slot l.seat-iterator.rest.items;
  made : HasMade (2 * l.slot) g.K.BookName.history l.keeper;
}
