use Rattle.gm_feeder.specs.declared.units.Limits.{Limits}
use Rattle.gm_notes.specs.Settings.{Settings}
use Rattle.gm_notes.specs.Past.{Past}
use Rattle.gm_front.specs.Inputs.{Reading}
use Rattle.gm_play.specs.Players.{IsHeldSince}
use Rattle.gm_play.proofs.Telling.{Telling}
use Rattle.gm_play.proofs.line.tell.Given as goal

abbrev pub invariant-loop-index : goal.invariant-loop-index
invariant-loop-index g l =
    (k : Settings) (limits : Limits) (before : Past) (reading : Reading) → IsHeldSince g.S.JobServer.agrees k limits before reading l.fn.front l.fn.told
    → Telling g.S.JobServer.agrees k limits before reading l.fn.out.items l.index l.front l.told l.out.items
