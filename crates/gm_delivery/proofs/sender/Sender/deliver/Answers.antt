use Rattle.std.proofs.Common.{refl}
use Rattle.gm_delivery.specs.declared.life.Deed.TheVariants.{HangUp}
use Rattle.gm_delivery.proofs.Accounting.{hang_up_keeps, decides}
use Rattle.gm_delivery.proofs.sender.Sender.deliver.Goals as goal

pub invariant_of-self-in-HangUp : goal.invariant_of-self-in-HangUp
invariant_of-self-in-HangUp g c = hang_up_keeps _ c.in-Some.outbound c.next.new.self c.in-Some.is c.self.invariant c.in-HangUp.ensures.after

pub returns-in-HangUp : goal.returns-in-HangUp
returns-in-HangUp g c = record {
  sent = c.transmit-is_clear.new.self;
  transmits = c.transmit-is_clear.ensures.transmits;
  deed = HangUp;
  decides = decides _ c.in-Some.outbound c.next.new.self c.in-Some.is _ c.self.view_is c.transmit-is_clear.result c.args.has_ended c.transmit-is_clear.ensures.clear _ c.next.ensures.looked c.in-HangUp.ensures.deed
      c.in-HangUp.ensures.after;
  result_is = refl;
}
