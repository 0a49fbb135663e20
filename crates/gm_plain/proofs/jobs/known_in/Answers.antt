use Rattle.std.proofs.Common.{List, take, reverse, sym, subst, arith}
use Rattle.gm_notes.specs.declared.note.Note.{Note}
use Rattle.gm_plain.specs.Searches.{Knows}
use Rattle.gm_plain.proofs.NoteLemmas.{note_next}
use Rattle.gm_plain.proofs.jobs.known_in.Goals as goal

pub loop-note-preserved : goal.loop-note-preserved
loop-note-preserved c =
    let notes = c.args.notes.now in
    let i = c.loop-note.note-index in
    let small = c.learn.ensures.small in (
      subst (λ (l : List Note). Knows c.args.job l c.learn.new.facts) (sym (note_next notes i c.note-item.result c.loop-note-test.true c.note-item.is))
          (c.learn.ensures.knows (reverse (take i notes)) c.loop-note.invariant.0),
      omega (arith, small, c.loop-note.invariant.1),
    )
