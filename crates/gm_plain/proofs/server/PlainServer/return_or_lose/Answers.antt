use Rattle.std.proofs.Common.{◌≡◌, true, false, refl, sym, ap, ◌∙◌}
use Rattle.gm_notes.specs.declared.note.Note.TheVariants.{Returned}
use Rattle.gm_notes.specs.Settings.{Settings}
use Rattle.gm_notes.specs.Jobs.{job, is_last_try}
use Rattle.gm_notes.specs.Past.{with_note}
use Rattle.gm_notes.specs.Closings.{wake_for}
use Rattle.gm_plain.proofs.ServerLemmas.{goes_then, goes_as}
use Rattle.gm_plain.proofs.server.PlainServer.return_or_lose.Goals as goal

pub note-requires-clause-may_come : goal.note-requires-clause-may_come
note-requires-clause-may_come c = (c.args.slot, c.requires.runs)

pub note-requires-else-is_last_try-clause-may_come : goal.note-requires-else-is_last_try-clause-may_come
note-requires-else-is_last_try-clause-may_come c = (c.args.slot, c.requires.runs)

pub returns-then-is_last_try-clause-goes : goal.returns-then-is_last_try-clause-goes
returns-then-is_last_try-clause-goes c =
    goes_as c.note.ensures.goes
    (λ p keeps.
    let last : is_last_try c.args.self.now.config c.args.job p.notes ≡ true =
    ap (is_last_try c.args.self.now.config c.args.job) (sym keeps.notes_are) ∙ (sym c.is_last_try.ensures ∙ c.if-is_last_try.true) in
    rw last refl)

pub returns-else-is_last_try-clause-goes : goal.returns-else-is_last_try-clause-goes
returns-else-is_last_try-clause-goes c =
    goes_as (goes_then c.note-else-is_last_try.ensures.goes c.wake.ensures.goes)
    (λ p keeps.
    let more : is_last_try c.args.self.now.config c.args.job p.notes ≡ false =
    ap (is_last_try c.args.self.now.config c.args.job) (sym keeps.notes_are) ∙ (sym c.is_last_try.ensures ∙ c.if-is_last_try.false) in
    rw more (ap (λ (k : Settings). wake_for k (job c.args.job p.notes) (with_note (Returned c.args.job) p)) c.note-else-is_last_try.ensures.goes.config))
