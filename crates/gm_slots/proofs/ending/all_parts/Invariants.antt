use Rattle.std.proofs.Common.{◌≡◌, ◌+◌, All, length, map}
use Rattle.gm_session.specs.Owners.{SaysOwn}
use Rattle.gm_slots.specs.Accounts.{AreAccounts}
use Rattle.gm_slots.proofs.ending.all_parts.Given as goal

abbrev pub invariant-loop-slot : goal.invariant-loop-slot
invariant-loop-slot g l = record {
  own : All (λ desk. SaysOwn desk.number desk.witness.seen) l.desks.items;
  accounts : AreAccounts g.K.BookName.settings (map (λ desk. (desk.number, desk.witness.seen)) l.desks.items) (map (λ pen. (pen.slot, pen.witness.seen, pen.seat.takes)) l.pens.items) l.accounts.items;
  desks : length l.desks.items ≡ length l.accounts.items;
  pens : length l.pens.items ≡ length l.accounts.items;
  all : length l.accounts.items + length l.slot-iterator.rest.items ≡ length l.fn.slots.items;
}
