use Rattle.std.proofs.Common.{◌≡◌, ◌<◌, ◌≤◌, ◌∙◌, length, get_or, Some, None, sym, refl, arith}
use Rattle.gm_front.proofs.Feeders.{at_feeder}
use Rattle.gm_front.proofs.Taking.{gives, cuts, gives_past_end, gives_shut}
use Rattle.gm_front.proofs.front.Front.give.Goals as goal
use Rattle.gm_front.proofs.front.Front.give.Goals.{then-index-len-via-then-index-len, then-index-len-via-else-index-len+then-shut}

pub returns-then-index-len : goal.returns-then-index-len
returns-then-index-len g c k limits reading h =
    elim c.then-index-len.branch [
      | then-index-len-via-then-index-len w ↦
          let far : length c.args.self.now.feeders.items ≤ c.args.slot = omega (arith, w.if-index-len.true, c.len.ensures, c.args.self.now.feeders.ok.0) in
          (gives_past_end g.S.JobServer.agrees k limits reading c.args.slot c.args.piece.now c.args.self.now _ h refl refl refl far)
      | then-index-len-via-else-index-len+then-shut w ↦
          (gives_shut g.S.JobServer.agrees k limits reading c.args.slot c.args.piece.now c.args.self.now _ h refl refl refl (sym (w.shut.ensures k reading.steps h.agreed) ∙ w.if-shut.true))
    ]

pub returns-in-Ok : goal.returns-in-Ok
returns-in-Ok g c k limits reading h =
    let near : c.args.slot < length c.args.self.now.feeders.items = omega (arith, c.if-index-len.false, c.len.ensures, c.args.self.now.feeders.ok.0) in
    let there : get_or c.args.self.now.feeders.items c.args.slot None ≡ Some c.in-Some.feeder =
    at_feeder c.args.self.now.feeders.items c.args.slot c.index_mut.result.now near c.index_mut.ensures.value ∙ c.in-Some.is in
    gives g.S.JobServer.agrees k limits reading c.args.slot c.args.piece.now c.in-Ok.created c.stepped.result c.args.self.now _ c.in-Some.feeder c.take_piece.new.feeder h near there (sym (c.shut.ensures k reading.steps h.agreed) ∙ c.if-shut.false) c.in-Ok.ensures.ok refl refl c.stepped.ensures.done c.stepped.ensures.drained

pub returns-in-Err : goal.returns-in-Err
returns-in-Err g c k limits reading h =
    let near : c.args.slot < length c.args.self.now.feeders.items = omega (arith, c.if-index-len.false, c.len.ensures, c.args.self.now.feeders.ok.0) in
    let there : get_or c.args.self.now.feeders.items c.args.slot None ≡ Some c.in-Some.feeder =
    at_feeder c.args.self.now.feeders.items c.args.slot c.index_mut.result.now near c.index_mut.ensures.value ∙ c.in-Some.is in
    cuts g.S.JobServer.agrees k limits reading c.args.slot c.args.piece.now c.in-Err.units c.apply-closed.result c.args.self.now c.set_feeder.new.self c.take_piece.new.server c.apply-closed.new.self c.in-Some.feeder c.take_piece.new.feeder h near there (sym (c.shut.ensures k reading.steps h.agreed) ∙ c.if-shut.false) c.in-Err.ensures.err c.apply-closed.ensures.answers (c.apply-closed.ensures.memory tt) c.set_feeder.ensures.feeders c.set_feeder.ensures.server c.set_feeder.ensures.limits
