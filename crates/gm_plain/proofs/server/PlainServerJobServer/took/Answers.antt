use Rattle.std.proofs.Common.{◌≡◌, None, refl, sym, ap, ◌∙◌}
use Rattle.gm_notes.specs.declared.note.Note.TheVariants as notes
use Rattle.gm_notes.specs.Past.{with_note}
use Rattle.gm_notes.specs.Steps.{Took, if_owed, run}
use Rattle.gm_actions.proofs.Changing.{agrees_next}
use Rattle.gm_plain.proofs.server.PlainServerJobServer.took.Goals as goal

pub returns : goal.returns
returns c k steps agrees =
    let taken : if_owed c.args.slot (run k steps).notes ≡ None = ap (if_owed c.args.slot) (sym agrees.past.notes_are) ∙ c.in_ok-check_owed.ensures.value in
    (taken, agrees_next k steps (Took c.args.slot) (with_note (notes.Took c.args.slot)) agrees c.note.ensures.goes taken refl)
