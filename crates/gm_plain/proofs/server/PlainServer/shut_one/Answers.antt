use Rattle.std.proofs.Common.{◌≡◌, true, refl, sym, ap, ◌∙◌}
use Rattle.gm_notes.specs.Notes.{takes_units}
use Rattle.gm_plain.proofs.ServerLemmas.{goes_as}
use Rattle.gm_plain.proofs.server.PlainServer.shut_one.Goals as goal

pub returns-then-can_take_units-clause-goes : goal.returns-then-can_take_units-clause-goes
returns-then-can_take_units-clause-goes c =
    goes_as c.note.ensures.goes
    (λ p keeps.
    let takes : takes_units c.args.slot p.notes ≡ true = ap (takes_units c.args.slot) (sym keeps.notes_are) ∙ (sym c.can_take_units.ensures.value ∙ c.if-can_take_units.true) in
    rw takes refl)
