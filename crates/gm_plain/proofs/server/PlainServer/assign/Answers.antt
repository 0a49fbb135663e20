use Rattle.std.proofs.Common.{◌≡◌, Option, ℕ, ap, ap₂, ◌∙◌}
use Rattle.gm_notes.specs.declared.note.Note.TheVariants.{Assigned}
use Rattle.gm_notes.specs.Settings.{Settings}
use Rattle.gm_notes.specs.Notes.{moment}
use Rattle.gm_notes.specs.Jobs.{job, job_state}
use Rattle.gm_notes.specs.JobStates.{is_waiting}
use Rattle.gm_plain.specs.Logs.{Logged}
use Rattle.gm_notes.specs.Past.{with_note}
use Rattle.gm_notes.specs.Workers.{wake_itself, deadline_after, tell_assigned}
use Rattle.gm_plain.proofs.ServerLemmas.{does_not, goes_then, goes_as, assign_is}
use Rattle.gm_plain.proofs.server.PlainServer.assign.Goals as goal

pub returns-in_err-make_room : goal.returns-in_err-make_room
returns-in_err-make_room c = does_not _ _ c.from_residual.ensures c.make_room.ensures.goes

pub returns-in_err-tell_assigned : goal.returns-in_err-tell_assigned
returns-in_err-tell_assigned c = does_not _ _ c.from_residual-in_err-tell_assigned.ensures (goes_then c.make_room.ensures.goes c.in_err-tell_assigned.ensures.does)

pub returns : goal.returns
returns c =
    goes_as (goes_then (goes_then (goes_then c.make_room.ensures.goes c.in_ok-tell_assigned.ensures.does) c.wake_itself.ensures.goes) c.note.ensures.goes)
    (λ p keeps.
    let late : c.deadline_after-deadline.result ≡ deadline_after (moment p.notes) c.args.found.timeout =
    c.deadline_after-deadline.ensures ∙ ap (λ m. deadline_after m c.args.found.timeout) (c.moment.ensures ∙ ap moment keeps.notes_are) in
    ap₂ (λ (k : Settings) (d : Option ℕ). with_note (Assigned c.args.found.job c.args.slot d) (wake_itself c.args.slot (tell_assigned k c.args.slot c.args.with_unique c.args.found.job (job c.args.found.job p.notes) p)))
    c.make_room.ensures.goes.config late
    ∙ assign_is c.args.self.now.config c.args.slot c.args.with_unique c.args.found.job c.args.found.timeout p)

pub note-requires-clause-may_come : goal.note-requires-clause-may_come
note-requires-clause-may_come c =
    ap is_waiting (c.wake_itself.ensures.states c.args.found.job ∙ (ap (λ (l : Logged). job_state c.args.found.job l.notes) c.in_ok-tell_assigned.ensures.log ∙ ap (job_state c.args.found.job) c.make_room.ensures.notes))
    ∙ c.requires.waits
