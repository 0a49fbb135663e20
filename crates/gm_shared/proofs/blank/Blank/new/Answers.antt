use Rattle.std.proofs.Common.{sym, ap, ◌∙◌}
use Rattle.gm_shared.proofs.Entries.{blank_is}
use Rattle.gm_shared.proofs.blank.Blank.new.Goals as goal

pub invariant_of-result : goal.invariant_of-result
invariant_of-result c = (
  blank_is _ _ _ _ _ c.in_ok-booked.ensures.book c.in_ok-booked.ensures.table c.in_ok-booked.ensures.pens c.slots-slots.ensures.value c.in_ok-booked.ensures.openings,
  record { history_is = c.in_ok-history.ensures.table; empty = c.in_ok-history.ensures.empty.0; count_is = c.in_ok-history.ensures.empty.1 },
  c.as_gearmand-as_gearmand.ensures ∙ sym (ap (λ k. k.as_gearmand) c.in_ok-booked.ensures.book.holds.core.settings),
)
