use Rattle.std.proofs.Common.{ℕ, List, Some, refl, ap, ◌∙◌}
use Rattle.gm_packet.specs.Answers.{answer_packet, job_created}
use Rattle.gm_notes.specs.Past.{with_output}
use Rattle.gm_notes.specs.Submissions.{join_or_make, keep_or_listen}
use Rattle.gm_actions.specs.Actions.{submission_of}
use Rattle.gm_core.specs.Holds.{Goes}
use Rattle.gm_core.specs.Writing.{Text}
use Rattle.gm_core.proofs.CoreLemmas.{does_not, goes_as, goes_then, goes_room, goes_printed}
use Rattle.gm_core.proofs.server.Tables.join.Goals as goal
use Rattle.gm_core.proofs.server.Tables.join.Goals.{In_ok-prepare}

roomed : (c : In_ok-prepare) → Goes c.args.self.now (record c.args.self.now { conns = c.prepare.new.conns; text = c.prepare.new.text }) (λ past. past)
roomed c = goes_room c.args.slot (record { config = refl; functions = refl; jobs = refl; moment = refl; mode = refl }) c.prepare.new.text.cost c.in_ok-prepare.ensures.conns

pub returns-in_err-keep_or_listen : goal.returns-in_err-keep_or_listen
returns-in_err-keep_or_listen c =
    does_not c.from_residual-in_err-keep_or_listen.result (join_or_make c.args.self.now.config c.args.slot (submission_of c.args.asked.now) (Some c.args.job)) c.from_residual-in_err-keep_or_listen.ensures
    (goes_then (roomed (goal.at.returns-in_err-keep_or_listen c).In_ok-prepare) c.in_err-keep_or_listen.ensures.does)

pub returns : goal.returns
returns c =
    let s = submission_of c.args.asked.now in
    let kept = c.keep_or_listen.new.self in
    let text =
    ap (λ (t : Text). t.bytes) c.in_ok-keep_or_listen.ensures.text ∙ (c.in_ok-prepare.ensures.text ∙ ap (λ (h : List ℕ). answer_packet (job_created h)) (c.deref.ensures.value ∙ c.in_ok-handle.ensures.value)) in
    goes_as (join_or_make c.args.self.now.config c.args.slot s (Some c.args.job))
    (goes_then (goes_then (roomed (goal.at.returns c).In_ok-prepare) c.in_ok-keep_or_listen.ensures.does)
    (goes_printed {old = kept} {new = record kept { conns = c.put.new.conns; text = c.put.new.self }} c.args.slot (record { config = refl; functions = refl; jobs = refl; moment = refl; mode = refl }) kept.text.bytes kept.text.cost c.put.ensures.conns))
    (λ p keeps. ap (λ (t : List ℕ). with_output c.args.slot t (keep_or_listen c.args.slot s c.args.job p)) text)
