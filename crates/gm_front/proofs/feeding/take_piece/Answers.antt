use Rattle.gm_front.proofs.Unloading.{cut_at_fault}
use Rattle.gm_front.proofs.feeding.take_piece.Goals as goal

pub returns-in-Err-clause-err : goal.returns-in-Err-clause-err
returns-in-Err-clause-err g c =
    rw c.in-Ok.ensures.ok at
    (cut_at_fault g.S.JobServer.agrees c.args.slot c.args.server.now c.feed.new.self c.in_ok-unloaded.unloaded c.in-Some.fault c.unload.new.server _ c.hand_in.new.server c.in_ok-unloaded.ensures.ok c.in-Some.is c.in-Err.ensures.err)
