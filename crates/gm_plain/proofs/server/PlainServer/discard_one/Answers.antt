use Rattle.std.proofs.Common.{◌≡◌, true, false, List, sym, ap, refl, ◌∙◌}
use Rattle.gm_notes.specs.declared.note.Note.{Note}
use Rattle.gm_notes.specs.Jobs.{job_state, is_wanted}
use Rattle.gm_notes.specs.JobStates.{is_waiting}
use Rattle.gm_notes.specs.Places as at
use Rattle.gm_plain.proofs.ServerLemmas.{goes_as}
use Rattle.gm_plain.proofs.server.PlainServer.discard_one.Goals as goal

pub returns-then-not-is_wanted-clause-goes : goal.returns-then-not-is_wanted-clause-goes
returns-then-not-is_wanted-clause-goes c =
    goes_as c.note.ensures.goes
    (λ p keeps.
    let waits : is_waiting (job_state c.args.job p.notes) ≡ true =
    ap (λ (l : List Note). is_waiting (job_state c.args.job l)) (sym keeps.notes_are) ∙ (ap at.is_waiting (sym c.place.ensures) ∙ (sym c.is_waiting.ensures ∙ c.if-is_waiting.true)) in
    let unwanted : is_wanted c.args.job p.notes ≡ false = ap (is_wanted c.args.job) (sym keeps.notes_are) ∙ (sym c.is_wanted.ensures ∙ c.if-not-is_wanted.true) in
    rw (waits, unwanted) refl)
