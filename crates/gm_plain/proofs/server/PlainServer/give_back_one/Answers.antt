use Rattle.std.proofs.Common.{◌≡◌, true, false, List, refl, sym, ap, ◌∙◌}
use Rattle.gm_notes.specs.declared.note.Note.{Note}
use Rattle.gm_notes.specs.Jobs.{job_state, is_wanted}
use Rattle.gm_notes.specs.JobStates.{is_running_at}
use Rattle.gm_notes.specs.Places as at
use Rattle.gm_plain.proofs.ServerLemmas.{goes_as}
use Rattle.gm_plain.proofs.server.PlainServer.give_back_one.Goals as goal

pub returns-then-is_wanted-clause-goes : goal.returns-then-is_wanted-clause-goes
returns-then-is_wanted-clause-goes c =
    goes_as c.return_or_lose.ensures.goes
    (λ p keeps.
    let runs : is_running_at c.args.slot (job_state c.args.job p.notes) ≡ true =
    ap (λ (l : List Note). is_running_at c.args.slot (job_state c.args.job l)) (sym keeps.notes_are) ∙ (ap (at.is_running_at c.args.slot) (sym c.place.ensures) ∙ (sym c.is_running_at.ensures ∙ c.if-not-is_running_at.false)) in
    let wanted : is_wanted c.args.job p.notes ≡ true = ap (is_wanted c.args.job) (sym keeps.notes_are) ∙ (sym c.is_wanted.ensures ∙ c.if-is_wanted.true) in
    rw (runs, wanted) refl)

pub returns-else-is_wanted-clause-goes : goal.returns-else-is_wanted-clause-goes
returns-else-is_wanted-clause-goes c =
    goes_as c.note.ensures.goes
    (λ p keeps.
    let runs : is_running_at c.args.slot (job_state c.args.job p.notes) ≡ true =
    ap (λ (l : List Note). is_running_at c.args.slot (job_state c.args.job l)) (sym keeps.notes_are) ∙ (ap (at.is_running_at c.args.slot) (sym c.place.ensures) ∙ (sym c.is_running_at.ensures ∙ c.if-not-is_running_at.false)) in
    let unwanted : is_wanted c.args.job p.notes ≡ false = ap (is_wanted c.args.job) (sym keeps.notes_are) ∙ (sym c.is_wanted.ensures ∙ c.if-is_wanted.false) in
    rw (runs, unwanted) refl)
