use Rattle.std.proofs.Common.{◌≡◌, ◌&&◌, ◌||◌, Bool, ℕ, List, Option, ap, ap₂, ◌∙◌}
use Rattle.gm_notes.specs.Settings.{Settings}
use Rattle.gm_notes.specs.Workers.{keep_report, end_if}
use Rattle.gm_actions.specs.Actions.{work_of}
use Rattle.gm_plain.specs.Holds.{tell_listeners}
use Rattle.gm_plain.proofs.ServerLemmas.{does_not, goes_then, goes_as, kept_listening}
use Rattle.gm_plain.proofs.server.PlainServer.tell_work.Goals as goal

pub returns-in_err-make_room : goal.returns-in_err-make_room
returns-in_err-make_room c = does_not _ _ c.from_residual-in_err-make_room.ensures c.make_room.ensures.goes

pub returns-in_err-tell_listeners : goal.returns-in_err-tell_listeners
returns-in_err-tell_listeners c = does_not _ _ c.from_residual-in_err-tell_listeners.ensures (goes_then c.make_room.ensures.goes c.in_err-tell_listeners.ensures.does)

pub returns : goal.returns
returns c =
    let k = c.args.self.now.config in
    let n = c.args.job in
    let packet = c.args.packet.now in
    let w = work_of k packet in
    let later : c.keep_report.new.self.config ≡ k = c.keep_report.ensures.goes.config ∙ (c.in_ok-tell_listeners.ensures.does.config ∙ c.make_room.ensures.goes.config) in
    let ends : c.ends_job-ends.result ≡ w.ends = c.ends_job-ends.ensures ∙ ap (λ (j : Settings). packet.ends || (packet.exceptions_only && j.as_gearmand)) later in
    goes_as (goes_then (goes_then (goes_then c.make_room.ensures.goes c.in_ok-tell_listeners.ensures.does) c.keep_report.ensures.goes) c.end_if.ensures)
    (λ p keeps.
    ap₂ (λ (j : Settings) (r : Option (List ℕ × List ℕ)). end_if c.ends_job-ends.result n (keep_report n r (tell_listeners j (work_of j packet) n p))) c.make_room.ensures.goes.config c.in_ok-report.ensures
    ∙ (ap (λ (t : Bool). end_if t n (keep_report n w.report (tell_listeners k w n p))) ends
    ∙ kept_listening k w n p))
