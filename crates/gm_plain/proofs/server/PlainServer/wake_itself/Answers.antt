use Rattle.std.proofs.Common.{◌≡◌, true, refl, sym, ap, ◌∙◌}
use Rattle.gm_notes.specs.Notes.{phase, is_asleep}
use Rattle.gm_plain.proofs.ServerLemmas.{goes_as}
use Rattle.gm_plain.proofs.server.PlainServer.wake_itself.Goals as goal

pub returns-then-is_asleep-clause-goes : goal.returns-then-is_asleep-clause-goes
returns-then-is_asleep-clause-goes c =
    goes_as c.note.ensures.goes
    (λ p keeps.
    let sleeps : is_asleep (phase c.args.slot p.notes) ≡ true =
    ap (λ l. is_asleep (phase c.args.slot l)) (sym keeps.notes_are) ∙ (ap is_asleep (sym c.seen.ensures.value.phase) ∙ (sym c.is_asleep.ensures ∙ c.if-is_asleep.true)) in
    rw sleeps refl)
