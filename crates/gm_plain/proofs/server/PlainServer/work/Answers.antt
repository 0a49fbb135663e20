use Rattle.std.proofs.Common.{◌≡◌, true, false, List, Some, None, refl, sym, ap, ◌∙◌}
use Rattle.gm_notes.specs.declared.note.Note.{Note}
use Rattle.gm_notes.specs.Jobs.{job_state, job_of_handle}
use Rattle.gm_notes.specs.JobStates.{is_running_at}
use Rattle.gm_notes.specs.Places as at
use Rattle.gm_notes.specs.Workers.{work, work_on}
use Rattle.gm_actions.specs.Actions.{work_of}
use Rattle.gm_plain.proofs.ServerLemmas.{does_as}
use Rattle.gm_plain.proofs.server.PlainServer.work.Goals as goal

pub returns-in_default : goal.returns-in_default
returns-in_default c =
    does_as c.refuse.result (work c.args.self.now.config c.args.slot c.args.packet.now.handle.now (work_of c.args.self.now.config c.args.packet.now)) c.refuse.ensures
    (λ p keeps.
    let found : None ≡ job_of_handle c.args.self.now.config c.args.packet.now.handle.now p.notes = c.in_default.ensures ∙ ap (job_of_handle c.args.self.now.config c.args.packet.now.handle.now) keeps.notes_are in
    ap (λ o. work_on c.args.self.now.config c.args.slot (work_of c.args.self.now.config c.args.packet.now) o p) found)

pub returns-then-not-is_running_at : goal.returns-then-not-is_running_at
returns-then-not-is_running_at c =
    does_as c.refuse-then-not-is_running_at.result (work c.args.self.now.config c.args.slot c.args.packet.now.handle.now (work_of c.args.self.now.config c.args.packet.now)) c.refuse-then-not-is_running_at.ensures
    (λ p keeps.
    let found : Some c.in-Some.job ≡ job_of_handle c.args.self.now.config c.args.packet.now.handle.now p.notes = c.in-Some.ensures ∙ ap (job_of_handle c.args.self.now.config c.args.packet.now.handle.now) keeps.notes_are in
    let runs : is_running_at c.args.slot (job_state c.in-Some.job p.notes) ≡ false =
    ap (λ (l : List Note). is_running_at c.args.slot (job_state c.in-Some.job l)) (sym keeps.notes_are) ∙ (ap (at.is_running_at c.args.slot) (sym c.place.ensures) ∙ (sym c.is_running_at.ensures ∙ c.if-not-is_running_at.true)) in
    (rw runs refl) ∙ ap (λ o. work_on c.args.self.now.config c.args.slot (work_of c.args.self.now.config c.args.packet.now) o p) found)

pub returns : goal.returns
returns c =
    does_as c.tell_work.result (work c.args.self.now.config c.args.slot c.args.packet.now.handle.now (work_of c.args.self.now.config c.args.packet.now)) c.tell_work.ensures
    (λ p keeps.
    let found : Some c.in-Some.job ≡ job_of_handle c.args.self.now.config c.args.packet.now.handle.now p.notes = c.in-Some.ensures ∙ ap (job_of_handle c.args.self.now.config c.args.packet.now.handle.now) keeps.notes_are in
    let runs : is_running_at c.args.slot (job_state c.in-Some.job p.notes) ≡ true =
    ap (λ (l : List Note). is_running_at c.args.slot (job_state c.in-Some.job l)) (sym keeps.notes_are) ∙ (ap (at.is_running_at c.args.slot) (sym c.place.ensures) ∙ (sym c.is_running_at.ensures ∙ c.if-not-is_running_at.false)) in
    (rw runs refl) ∙ ap (λ o. work_on c.args.self.now.config c.args.slot (work_of c.args.self.now.config c.args.packet.now) o p) found)
