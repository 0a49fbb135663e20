use Rattle.gm_session.specs.Owners.{SaysOwn}
use Rattle.gm_slots.proofs.Owning.{all_then, one_more}
use Rattle.gm_slots.proofs.Accounted.{account_pushed, desk_pushed, longer}
use Rattle.gm_slots.proofs.ending.all_parts.Goals as goal

pub loop-slot-preserved : goal.loop-slot-preserved
loop-slot-preserved g c =
    let i = c.loop-slot.invariant in
    let desk = c.in_ok-push.ensures.items in
    let pen = c.in_ok-push-2.ensures.items in
    let account = c.in_ok-push-3.ensures.items in
    record {
      own = all_then (λ desk. SaysOwn desk.number desk.witness.seen) _ _ _ desk i.own c.into_desk.ensures.own;
      accounts = account_pushed g.K.BookName.settings (λ desk. (desk.number, desk.witness.seen)) (λ pen. (pen.slot, pen.witness.seen, pen.seat.takes)) _ _ _ _ _ _ _ _ _ _ desk pen account i.desks i.pens i.accounts
          c.into_desk.ensures.desk c.into_parts-desk.ensures;
      desks = longer _ _ _ _ _ _ desk account i.desks;
      pens = longer _ _ _ _ _ _ pen account i.pens;
      all = one_more _ _ _ _ _ _ _ account c.in-Some.ensures.steps.0 i.all;
    }

pub returns-clause-accounts : goal.returns-clause-accounts
returns-clause-accounts g c = desk_pushed g.K.BookName.settings (λ desk. (desk.number, desk.witness.seen)) _ _ _ _ _ c.in_ok-push-4.ensures.items c.loop-slot.invariant.accounts
