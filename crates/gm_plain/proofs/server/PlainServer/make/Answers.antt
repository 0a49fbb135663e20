use Rattle.gm_actions.specs.Actions.{submission_of}
use Rattle.gm_plain.proofs.ServerLemmas.{does_not, goes_then, goes_as, make_is}
use Rattle.gm_plain.proofs.server.PlainServer.make.Goals as goal

pub returns-in_err-make_room : goal.returns-in_err-make_room
returns-in_err-make_room c = does_not _ _ c.from_residual-in_err-make_room.ensures c.make_room.ensures.goes

pub returns-in_err-give_created : goal.returns-in_err-give_created
returns-in_err-give_created c = does_not _ _ c.from_residual-in_err-give_created.ensures (goes_then c.make_room.ensures.goes c.in_err-give_created.ensures.does)

pub returns : goal.returns
returns c =
    let s = submission_of c.args.asked.now in
    goes_as (goes_then (goes_then (goes_then (goes_then (goes_then c.make_room.ensures.goes c.in_ok-give_created.ensures.does) c.mention-2.ensures.goes) c.note.ensures.goes) c.keep_or_listen.ensures) c.wake.ensures.goes)
    (λ p keeps.
    rw (c.keep_or_listen.ensures.config, c.note.ensures.goes.config, c.mention-2.ensures.goes.config, c.in_ok-give_created.ensures.does.config, c.make_room.ensures.goes.config, c.in_ok-mention.ensures, c.in_ok-function.ensures, c.in_ok-unique.ensures, c.in_ok-body.ensures, c.as_slice.ensures)
    (make_is c.args.self.now.config c.args.slot s c.args.job p))
