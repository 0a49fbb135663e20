use Rattle.std.proofs.Common.{◌≡◌, true, false, List, Some, None, refl, sym, ap, ◌∙◌}
use Rattle.gm_notes.specs.declared.note.Note.{Note}
use Rattle.gm_notes.specs.Jobs.{job_state, job_of_handle}
use Rattle.gm_notes.specs.JobStates.{is_live}
use Rattle.gm_notes.specs.Places as at
use Rattle.gm_notes.specs.Requests.{tell_status}
use Rattle.gm_plain.proofs.ServerLemmas.{does_as}
use Rattle.gm_plain.proofs.server.PlainServer.tell_status.Goals as goal

pub returns-in_default : goal.returns-in_default
returns-in_default c =
    does_as c.tell_unknown.result (λ past. tell_status c.args.self.now.config c.args.slot c.args.handle.now (job_of_handle c.args.self.now.config c.args.handle.now past.notes) past) c.tell_unknown.ensures
    (λ p keeps.
    let found : None ≡ job_of_handle c.args.self.now.config c.args.handle.now p.notes = c.in_default.ensures ∙ ap (job_of_handle c.args.self.now.config c.args.handle.now) keeps.notes_are in
    ap (λ o. tell_status c.args.self.now.config c.args.slot c.args.handle.now o p) found)

pub returns-then-not-is_live : goal.returns-then-not-is_live
returns-then-not-is_live c =
    does_as c.tell_unknown-then-not-is_live.result (λ past. tell_status c.args.self.now.config c.args.slot c.args.handle.now (job_of_handle c.args.self.now.config c.args.handle.now past.notes) past) c.tell_unknown-then-not-is_live.ensures
    (λ p keeps.
    let found : Some c.in-Some.job ≡ job_of_handle c.args.self.now.config c.args.handle.now p.notes = c.in-Some.ensures ∙ ap (job_of_handle c.args.self.now.config c.args.handle.now) keeps.notes_are in
    let lives : is_live (job_state c.in-Some.job p.notes) ≡ false =
    ap (λ (l : List Note). is_live (job_state c.in-Some.job l)) (sym keeps.notes_are) ∙ (ap at.is_live (sym c.place.ensures) ∙ (sym c.is_live.ensures ∙ c.if-not-is_live.true)) in
    (rw lives refl) ∙ ap (λ o. tell_status c.args.self.now.config c.args.slot c.args.handle.now o p) found)

pub returns : goal.returns
returns c =
    does_as c.tell_known.result (λ past. tell_status c.args.self.now.config c.args.slot c.args.handle.now (job_of_handle c.args.self.now.config c.args.handle.now past.notes) past) c.tell_known.ensures
    (λ p keeps.
    let found : Some c.in-Some.job ≡ job_of_handle c.args.self.now.config c.args.handle.now p.notes = c.in-Some.ensures ∙ ap (job_of_handle c.args.self.now.config c.args.handle.now) keeps.notes_are in
    let lives : is_live (job_state c.in-Some.job p.notes) ≡ true =
    ap (λ (l : List Note). is_live (job_state c.in-Some.job l)) (sym keeps.notes_are) ∙ (ap at.is_live (sym c.place.ensures) ∙ (sym c.is_live.ensures ∙ c.if-not-is_live.false)) in
    (rw lives refl) ∙ ap (λ o. tell_status c.args.self.now.config c.args.slot c.args.handle.now o p) found)
