use Rattle.gm_slots.proofs.Numbering.{paired}
use Rattle.gm_slots.proofs.slot.open_slots.Goals as goal

pub new_slots-requires-clause-paired : goal.new_slots-requires-clause-paired
new_slots-requires-clause-paired g c = paired (λ desk. desk.number) (λ pen. pen.slot) _ _ c.args.blank.settings.slots c.in_ok-shared.ensures.desks c.in_ok-shared.ensures.pens
