use Rattle.std.proofs.Common.{ap}
use Rattle.gm_delivery.specs.Messages.{left_in}
use Rattle.gm_delivery.proofs.Accounting.{sends_from, send_keeps}
use Rattle.gm_delivery.proofs.sender.Sender.send_left.Goals as goal

pub returns-in-Some-clause-sends : goal.returns-in-Some-clause-sends
returns-in-Some-clause-sends g c =
    let e = c.send.ensures in
    sends_from _ c.args.self.now c.in-Some.outbound c.send.new.self _ c.send.result c.self.view_is c.in-Some.is
    (λ t. let same = e.idle t in (same.0, ap left_in same.1, same.2)) e.sends
