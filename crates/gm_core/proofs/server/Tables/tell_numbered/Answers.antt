use Rattle.std.proofs.Common.{◌≡◌, ℕ, true, List, sym, ap, ◌∙◌}
use Rattle.std.specs.Option.{option_copied}
use Rattle.gm_packet.specs.Answers.{status_res, answer_packet}
use Rattle.gm_notes.specs.Jobs.{job_state, report, job_of_handle}
use Rattle.gm_notes.specs.JobStates.{is_running}
use Rattle.gm_notes.specs.Places as places
use Rattle.gm_notes.specs.Past.{give, with_output}
use Rattle.gm_notes.specs.Requests.{tell_status}
use Rattle.gm_actions.specs.Actions.{report_of}
use Rattle.gm_core.specs.Facts.{conn_facts}
use Rattle.gm_core.proofs.HandledLemmas.{runs_same, told_live, told_other}
use Rattle.gm_core.proofs.CoreLemmas.{goes_as, goes_queued, does_as}
use Rattle.gm_core.proofs.server.Tables.tell_numbered.Goals as goal

pub returns-in_default : goal.returns-in_default
returns-in_default c =
    let core = c.args.self.now in
    let text = c.args.text.now in
    does_as c.answer.result (λ past. tell_status core.config c.args.slot text (job_of_handle core.config text past.notes) past) c.answer.ensures.does
    (λ p keeps. ap (λ a. give c.args.slot a p) c.unknown_status.ensures ∙ sym (told_other core.config core.functions core.jobs (conn_facts p.notes).is_open p keeps.jobs c.args.slot text c.args.job c.ranges.job.fits c.requires.number (sym c.by_number.ensures ∙ ap option_copied c.in_default.is)))

pub returns : goal.returns
returns c =
    let core = c.args.self.now in
    let slot = c.args.slot in
    let text = c.args.text.now in
    goes_as (λ past. tell_status core.config slot text (job_of_handle core.config text past.notes) past)
    (goes_queued core c.prepare.new.conns c.put.new.conns c.put.new.self slot c.prepare.new.text.cost c.prepare.new.text.cost c.prepare.new.text.bytes c.in_ok-prepare.ensures.conns c.put.ensures.conns)
    (λ p keeps.
    let at = sym c.in-Some.ensures in
    let is = keeps.jobs.live c.args.job c.in-Some.found.now at in
    let runs : c.is_running-running.result ≡ is_running (job_state c.args.job p.notes) =
    c.is_running-running.ensures ∙ (ap places.is_running c.place.ensures ∙ (runs_same c.in-Some.found.now.live_place ∙ ap is_running (sym is.job_state))) in
    let told : report_of c.report_of.result ≡ report c.args.job p.notes = c.report_of.ensures.value ∙ sym is.report in
    ap (λ (t : List ℕ). with_output slot t p) (c.in_ok-prepare.ensures.text ∙ ap answer_packet c.known_status-response.ensures.value)
    ∙ ((λ i. with_output slot (answer_packet (status_res text true (runs i) (told i).0 (told i).1)) p)
    ∙ sym (told_live core.config core.functions core.jobs (conn_facts p.notes).is_open p keeps.jobs slot text c.args.job c.ranges.job.fits c.requires.number c.in-Some.found.now at)))
