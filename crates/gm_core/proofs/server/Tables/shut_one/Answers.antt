use Rattle.std.proofs.Common.{◌≡◌, true, refl, sym, ◌∙◌}
use Rattle.gm_notes.specs.Notes.{takes_units}
use Rattle.gm_notes.specs.Lines.{shut_one}
use Rattle.gm_core.proofs.CoreLemmas.{goes_as, goes_shut}
use Rattle.gm_core.proofs.server.Tables.shut_one.Goals as goal

pub returns-then-can_take_units : goal.returns-then-can_take_units
returns-then-can_take_units c =
    goes_as (shut_one c.args.slot) (goes_shut c.args.slot (record { config = refl; functions = refl; jobs = refl; moment = refl; mode = refl }) c.shut_down.ensures)
    (λ p keeps.
    let takes : takes_units c.args.slot p.notes ≡ true = sym (c.can_take_units.ensures.value p keeps) ∙ c.if-can_take_units.true in
    rw takes refl)
