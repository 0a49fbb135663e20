use Rattle.std.proofs.Common.{◌≡◌, ◌<◌, arith, sym, subst, List, ℕ}
use Rattle.std.proofs.lemmas.Grind.{common_steps}
use Rattle.std.specs.List.{All}
use Rattle.gm_notes.specs.Jobs.{listeners}
use Rattle.gm_plain.proofs.LogLemmas.{listeners_below, listeners_next}
use Rattle.gm_plain.proofs.jobs.listeners.Goals as goal

pub loop-note-preserved : goal.loop-note-preserved
loop-note-preserved c = grind (arith, common_steps, listeners_next)

pub returns-clause-below : goal.returns-clause-below
returns-clause-below c =
    let same : c.loop-note.slots.items ≡ listeners c.args.job c.args.log.now.notes = grind (arith, common_steps) in
    subst (λ (l : List ℕ). All (λ d. d < c.args.log.now.slots) l) (sym same) (listeners_below c.args.log.now.slots c.args.job c.args.log.now.notes c.notes-notes.ensures.fit)
