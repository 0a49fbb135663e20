use Rattle.gm_plain.proofs.ServerLemmas.{does_not, goes_then}
use Rattle.gm_plain.proofs.server.PlainServer.reset.Goals as goal

pub returns-in_err-make_room : goal.returns-in_err-make_room
returns-in_err-make_room c = does_not _ _ c.from_residual.ensures c.make_room.ensures.goes

pub returns : goal.returns
returns c = goes_then c.make_room.ensures.goes c.note.ensures.goes
