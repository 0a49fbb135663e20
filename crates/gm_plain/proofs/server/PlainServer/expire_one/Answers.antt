use Rattle.std.proofs.Common.{◌≡◌, true, List, ◌∷◌, ℕ, sym, ap, ap₂, ◌∙◌}
use Rattle.gm_packet.specs.Answers.{work_fail}
use Rattle.gm_notes.specs.declared.note.Note.{Note}
use Rattle.gm_notes.specs.declared.note.Note.TheVariants.{Ended}
use Rattle.gm_notes.specs.Notes.{moment}
use Rattle.gm_notes.specs.Jobs.{job_state, deadline, listeners}
use Rattle.gm_notes.specs.JobStates.{is_running}
use Rattle.gm_notes.specs.Places as at
use Rattle.gm_notes.specs.Past.{with_note, tell_all}
use Rattle.gm_notes.specs.Closings.{is_reached}
use Rattle.gm_plain.specs.Logs.{Logged}
use Rattle.gm_plain.proofs.ServerLemmas.{goes_then, goes_as}
use Rattle.gm_plain.proofs.TakingBack.{grows_by}
use Rattle.gm_plain.proofs.server.PlainServer.expire_one.Goals as goal

pub returns-clause-does : goal.returns-clause-does
returns-clause-does c =
    goes_as (goes_then c.in_ok-give_all.ensures.does c.note.ensures.goes)
    (λ p keeps.
    let runs : is_running (job_state c.args.job p.notes) ≡ true =
    ap (λ (l : List Note). is_running (job_state c.args.job l)) (sym keeps.notes_are) ∙ (ap at.is_running (sym c.place.ensures) ∙ (sym c.is_running.ensures ∙ c.if-not-is_running.false)) in
    let late : is_reached (deadline c.args.job p.notes) (moment p.notes) ≡ true =
    ap (λ (l : List Note). is_reached (deadline c.args.job l) (moment l)) (sym keeps.notes_are) ∙ (sym c.is_late.ensures ∙ c.if-not-is_late.false) in
    let slots = c.deref.ensures.value ∙ (c.in_ok-slots.ensures.value ∙ ap (listeners c.args.job) keeps.notes_are) in
    let text = c.deref-2.ensures.value ∙ c.in_ok-handle.ensures.value in
    rw (runs, late) (ap₂ (λ (t l : List ℕ). with_note (Ended c.args.job) (tell_all (work_fail t) l p)) text slots))

pub returns-clause-grew : goal.returns-clause-grew
returns-clause-grew c =
    grows_by (Ended c.args.job) (c.note.ensures.goes.config ∙ c.in_ok-give_all.ensures.does.config) (c.note.ensures.notes ∙ ap (λ (l : Logged). Ended c.args.job ∷ l.notes) c.in_ok-give_all.ensures.log)
