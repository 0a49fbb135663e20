use Rattle.std.proofs.Common.{sym, ap, ◌∙◌}
use Rattle.gm_packet.specs.Answers.{job_created}
use Rattle.gm_notes.specs.Settings.{Settings}
use Rattle.gm_notes.specs.Jobs.{handle}
use Rattle.gm_notes.specs.Past.{give}
use Rattle.gm_notes.specs.Submissions.{keep_or_listen}
use Rattle.gm_actions.specs.Actions.{submission_of}
use Rattle.gm_plain.proofs.ServerLemmas.{does_not, goes_then, goes_as, give_wanted}
use Rattle.gm_plain.proofs.server.PlainServer.join.Goals as goal

pub returns-in_err-make_room : goal.returns-in_err-make_room
returns-in_err-make_room c = does_not _ _ c.from_residual.ensures c.make_room.ensures.goes

pub returns-in_err-give_created : goal.returns-in_err-give_created
returns-in_err-give_created c = does_not _ _ c.from_residual-in_err-give_created.ensures (goes_then c.make_room.ensures.goes c.in_err-give_created.ensures.does)

pub returns : goal.returns
returns c =
    let s = submission_of c.args.asked.now in
    goes_as (goes_then (goes_then c.make_room.ensures.goes c.in_ok-give_created.ensures.does) c.keep_or_listen.ensures)
    (λ p keeps.
    ap (λ (k : Settings). keep_or_listen c.args.slot s c.args.job (give c.args.slot (job_created (handle k c.args.job)) p)) c.make_room.ensures.goes.config
    ∙ sym (give_wanted c.args.slot s c.args.job (job_created (handle c.args.self.now.config c.args.job)) p))
