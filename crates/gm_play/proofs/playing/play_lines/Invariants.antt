use Rattle.std.proofs.Common.{length}
use Rattle.gm_feeder.specs.declared.units.Limits.{Limits}
use Rattle.gm_notes.specs.Settings.{Settings}
use Rattle.gm_front.specs.Inputs.{Reading}
use Rattle.gm_play.specs.Players.{IsReady}
use Rattle.gm_play.proofs.Printing.{Playing}
use Rattle.gm_play.proofs.playing.play_lines.Given as goal

abbrev pub invariant-loop-line : goal.invariant-loop-line
invariant-loop-line g l =
    (k : Settings) (limits : Limits) (reading : Reading) → IsReady g.S.JobServer.agrees k limits reading l.fn.front l.fn.told
    → Playing g.S.JobServer.agrees k limits reading l.fn.script (g.W.Write.contents l.fn.writer) l.rest l.front l.told (g.W.Write.contents l.writer)

abbrev pub decreases-loop-line : goal.decreases-loop-line
decreases-loop-line g l = length l.rest
