use Rattle.std.proofs.Common.{sym}
use Rattle.gm_play.proofs.Outcomes.{on_ok}
use Rattle.gm_play.proofs.Printing.{cut_shorter, goes_on, ends}
use Rattle.gm_play.proofs.playing.play_lines.Goals as goal

pub loop-line-smaller : goal.loop-line-smaller
loop-line-smaller g c = cut_shorter 10 c.loop-line.rest.now (c.in-Some.line.now, c.in-Some.after.now) (sym (rw c.in-Some.is at c.cut.ensures))

pub loop-line-preserved : goal.loop-line-preserved
loop-line-preserved g c k limits reading h =
    let p = c.loop-line.invariant k limits reading h in
    goes_on g.S.JobServer.agrees k limits reading c.args.script.now (g.W.Write.contents c.args.writer.now) c.loop-line.rest.now c.in-Some.line.now c.in-Some.after.now c.loop-line.front c.play_and_write.new.front c.loop-line.told c.play_and_write.new.told (g.W.Write.contents c.loop-line.writer) (g.W.Write.contents c.play_and_write.new.writer) p (rw c.in-Some.is at c.cut.ensures) (c.in_ok-play_and_write.ensures.ok k limits p.now p.ready)

pub returns-clause-ok : goal.returns-clause-ok
returns-clause-ok g c =
    on_ok c.play_and_write-2.result _ _
    (λ w k limits reading h.
    let p = c.loop-line.invariant k limits reading h in
    ends g.S.JobServer.agrees k limits reading c.args.script.now (g.W.Write.contents c.args.writer.now) c.loop-line.rest.now c.loop-line.front c.play_and_write-2.new.front c.loop-line.told c.play_and_write-2.new.told (g.W.Write.contents c.loop-line.writer) (g.W.Write.contents c.play_and_write-2.new.writer) p (rw c.in_default.is at c.cut.ensures) (w k limits p.now p.ready))
    c.play_and_write-2.ensures.ok
