use Rattle.std.proofs.Common.{List, sym, ap, ◌∙◌}
use Rattle.gm_notes.specs.declared.note.Note.{Note}
use Rattle.gm_notes.specs.Jobs.{job}
use Rattle.gm_plain.specs.Searches.{wakes_for}
use Rattle.gm_plain.proofs.ServerLemmas.{goes_as}
use Rattle.gm_plain.proofs.Wakings.{woken_sleeps, woken_is}
use Rattle.gm_plain.proofs.server.PlainServer.wake_one.Goals as goal

pub note-requires-clause-may_come : goal.note-requires-clause-may_come
note-requires-clause-may_come c =
    (c.requires, woken_sleeps c.args.slot (job c.args.number c.args.self.now.log.notes) c.args.self.now.log.notes (sym c.is_to_wake.ensures ∙ c.if-is_to_wake.true))

pub returns-then-is_to_wake-clause-goes : goal.returns-then-is_to_wake-clause-goes
returns-then-is_to_wake-clause-goes c =
    goes_as c.note.ensures.goes
    (λ p keeps.
    woken_is c.args.slot (job c.args.number p.notes) p
    (ap (λ (l : List Note). wakes_for c.args.slot (job c.args.number l) l) (sym keeps.notes_are) ∙ (sym c.is_to_wake.ensures ∙ c.if-is_to_wake.true)))
