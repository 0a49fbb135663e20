use Rattle.std.proofs.Common.{◌<◌, length, arith, refl}
use Rattle.gm_play.proofs.Telling.{begins, ends, one_more}
use Rattle.gm_play.proofs.line.tell.Goals as goal

pub loop-index-init : goal.loop-index-init
loop-index-init g c k limits before reading h = begins g.S.JobServer.agrees k limits before reading c.args.out.now.items c.args.front.now c.args.told.now h

pub loop-index-preserved : goal.loop-index-preserved
loop-index-preserved g c k limits before reading h =
    let t = c.loop-index.invariant k limits before reading h in
    let lt : c.loop-index.index < length c.loop-index.told = omega (arith, c.loop-index.auto.told, c.loop-index-test.true) in
    one_more g.S.JobServer.agrees k limits before reading c.args.out.now.items c.loop-index.index c.loop-index.front c.tell_one.new.front c.loop-index.told c.loop-index.out.items c.tell_one.new.out.items _ c.tell_one.new.told t lt refl (c.in_ok-tell_one.ensures k limits (record reading { steps = t.now }) t.held)

pub returns : goal.returns
returns g c k limits before reading h =
    ends g.S.JobServer.agrees k limits before reading c.args.out.now.items c.loop-index.index c.loop-index.front c.loop-index.told c.loop-index.out.items (c.loop-index.invariant k limits before reading h) (omega (arith, c.loop-index.auto.told, c.loop-index-test.false))
