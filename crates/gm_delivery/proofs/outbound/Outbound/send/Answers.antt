use Rattle.gm_delivery.proofs.Accounting.{part_of_none}
use Rattle.gm_delivery.proofs.outbound.Outbound.send.Goals as goal

pub returns-in_default-clause-sends : goal.returns-in_default-clause-sends
returns-in_default-clause-sends g c = λ is. rw c.in_default.is (part_of_none c.args.self.now is)
