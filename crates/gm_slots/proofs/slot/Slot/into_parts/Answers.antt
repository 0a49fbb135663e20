use Rattle.std.proofs.Common.{Bool, sym, ap, ◌∙◌}
use Rattle.std.specs.Prelude.{if◌then◌else◌}
use Rattle.gm_shared.specs.Openings.{most_openings}
use Rattle.gm_slots.proofs.Accounted.{account_of}
use Rattle.gm_slots.proofs.slot.Slot.into_parts.Goals as goal
use Rattle.gm_slots.proofs.slot.Slot.into_parts.Goals.{then-are_paired, else-are_paired}

pub returns : goal.returns
returns g c =
    let talk = c.into_parts-desk.ensures in
    let lane = c.into_parts-pen.ensures in
    account_of g.K.BookName.settings c.into_inner.result _ _ _ _ c.into_parts-pen.result.side c.into_parts-pen.result.openings c.are_paired.result talk.talk talk.desk.0 talk.desk.1 talk.limits talk.hearings talk.side
    c.are_paired.ensures lane.past lane.counted lane.side
    (elim c.if-are_paired.branch [
      | then-are_paired w ↦ w.openings-is ∙ ap (λ (b : Bool). if b then c.into_parts-pen.result.openings else most_openings) (sym w.if-are_paired.true)
      | else-are_paired w ↦ w.openings-is ∙ ap (λ (b : Bool). if b then c.into_parts-pen.result.openings else most_openings) (sym w.if-are_paired.false)
    ])
