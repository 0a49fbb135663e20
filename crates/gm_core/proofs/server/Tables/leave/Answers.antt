use Rattle.std.proofs.Common.{refl}
use Rattle.gm_core.proofs.CoreLemmas.{goes_then}
use Rattle.gm_core.proofs.LeaveLemmas.{goes_closed}
use Rattle.gm_core.proofs.server.Tables.leave.Goals as goal

pub returns : goal.returns
returns c =
    goes_then c.wake_itself.ensures.goes
    (goes_closed c.args.slot (record { config = refl; functions = refl; moment = refl; mode = refl }) c.close.ensures c.leave.ensures)
