use Rattle.std.proofs.Common.{◌≡◌, List, take, reverse, sym, subst, ◌∙◌, arith}
use Rattle.std.proofs.lemmas.Grind.{common_steps}
use Rattle.gm_notes.specs.Notes.{is_open}
use Rattle.gm_notes.specs.declared.note.Note.{Note}
use Rattle.gm_plain.specs.Searches.{Sees}
use Rattle.gm_plain.proofs.LogLemmas.{open_below}
use Rattle.gm_plain.proofs.NoteLemmas.{note_next}
use Rattle.gm_plain.proofs.connections.seen.Goals as goal

pub loop-note-preserved : goal.loop-note-preserved
loop-note-preserved c =
    let older = reverse (take c.loop-note.note-index c.notes-notes.result.now) in
    subst (λ (l : List Note). Sees c.args.slot l c.see.new.facts) (sym (note_next c.notes-notes.result.now c.loop-note.note-index c.note-item.result c.loop-note-test.true c.note-item.is))
    (c.see.ensures older c.loop-note.invariant)

pub returns-clause-below : goal.returns-clause-below
returns-clause-below c opened =
    let value : c.loop-note.facts.is_open ≡ is_open c.args.slot c.args.log.now.notes = grind (arith, common_steps) in
    open_below c.args.log.now.slots c.args.slot c.args.log.now.notes c.notes-notes.ensures.fit (sym value ∙ opened)
