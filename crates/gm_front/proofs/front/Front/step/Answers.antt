use Rattle.std.proofs.Common.{Ok}
use Rattle.gm_front.specs.Inputs.{Opens, Gives, Closes, Ticks, Takes, Withdraws, Drains}
use Rattle.gm_front.proofs.Taking.{follows}
use Rattle.gm_front.proofs.front.Front.step.Goals as goal

pub returns-in-Open-clause-every_list : goal.returns-in-Open-clause-every_list
returns-in-Open-clause-every_list g c = rw c.in-Open.is (follows g.S.JobServer.agrees (Opens c.in-Open.addr.now) c.args.self.now c.open.new.self c.open.result c.open.ensures)

pub returns-in-Piece-clause-every_list : goal.returns-in-Piece-clause-every_list
returns-in-Piece-clause-every_list g c = rw c.in-Piece.is (follows g.S.JobServer.agrees (Gives c.in-Piece.slot c.in-Piece.bytes.now) c.args.self.now c.give.new.self c.give.result c.give.ensures)

pub returns-in-Close-clause-every_list : goal.returns-in-Close-clause-every_list
returns-in-Close-clause-every_list g c = rw c.in-Close.is (follows g.S.JobServer.agrees (Closes c.in-Close.slot) c.args.self.now c.close.new.self c.close.result c.close.ensures)

pub returns-in-Tick-clause-every_list : goal.returns-in-Tick-clause-every_list
returns-in-Tick-clause-every_list g c = rw c.in-Tick.is (follows g.S.JobServer.agrees (Ticks c.in-Tick.now) c.args.self.now c.tick.new.self c.tick.result c.tick.ensures)

pub returns-in-Took-clause-every_list : goal.returns-in-Took-clause-every_list
returns-in-Took-clause-every_list g c = rw c.in-Took.is (follows g.S.JobServer.agrees (Takes c.in-Took.slot) c.args.self.now c.took.new.self c.took.result c.took.ensures)

pub returns-in-Withdrew-clause-every_list : goal.returns-in-Withdrew-clause-every_list
returns-in-Withdrew-clause-every_list g c = rw c.in-Withdrew.is (follows g.S.JobServer.agrees (Withdraws c.in-Withdrew.slot) c.args.self.now c.withdrew.new.self c.withdrew.result c.withdrew.ensures)

pub returns-in-Drain-clause-every_list : goal.returns-in-Drain-clause-every_list
returns-in-Drain-clause-every_list g c = rw c.in-Drain.is (follows g.S.JobServer.agrees (Drains c.in-Drain.slot) c.args.self.now c.drain.new.self (Ok c.drain.result) c.drain.ensures)
