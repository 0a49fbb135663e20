use Rattle.gm_delivery.proofs.Sending.{noop_within, noop_sent}
use Rattle.gm_delivery.proofs.message.Message.send_noop.Goals as goal

pub invariant_of-self : goal.invariant_of-self
invariant_of-self g c = record { within = noop_within _ _ c.args.self.now.took _ _ c.write_once-count.result.1 c.args.self.now.within _ c.noop.ensures c.write_once-count.ensures.writes }

pub returns-clause-sends : goal.returns-clause-sends
returns-clause-sends g c = noop_sent _ _ c.args.self.now.took _ _ c.write_once-count.result.1 c.args.self.now.within _ c.noop.ensures c.write_once-count.ensures.writes _ c.requires
