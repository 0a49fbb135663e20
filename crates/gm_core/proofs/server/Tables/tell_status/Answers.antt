use Rattle.std.proofs.Common.{ap, ◌∙◌}
use Rattle.gm_notes.specs.Past.{give}
use Rattle.gm_notes.specs.Requests.{tell_status}
use Rattle.gm_core.specs.Facts.{conn_facts}
use Rattle.gm_core.proofs.CoreLemmas.{does_as}
use Rattle.gm_core.proofs.HandledLemmas.{handled_none, when_none}
use Rattle.gm_notes.specs.Jobs.{job_of_handle}
use Rattle.gm_core.proofs.server.Tables.tell_status.Goals as goal

pub returns-in-None : goal.returns-in-None
returns-in-None c =
    let core = c.args.self.now in
    let slot = c.args.slot in
    let text = c.args.handle.now in
    does_as c.answer.result (λ past. tell_status core.config slot text (job_of_handle core.config text past.notes) past) c.answer.ensures.does
    (λ p keeps. ap (λ a. give slot a p) c.unknown_status.ensures ∙ ap (λ o. tell_status core.config slot text o p)
    (handled_none core.config core.functions core.jobs (conn_facts p.notes).is_open p.notes keeps.jobs text (when_none _ c.number_in.result c.in-None.is c.number_in.ensures.value)))
