use Rattle.std.proofs.Common.{◌≡◌, true, refl, sym, ap, ◌∙◌}
use Rattle.gm_notes.specs.Notes.{phase, is_asleep}
use Rattle.gm_notes.specs.Workers.{wake_itself}
use Rattle.gm_core.proofs.CoreLemmas.{goes_as, goes_stirred, phase_is}
use Rattle.gm_core.proofs.server.Tables.wake_itself.Goals as goal

pub returns-then-is_asleep-clause-goes : goal.returns-then-is_asleep-clause-goes
returns-then-is_asleep-clause-goes c =
    goes_as (wake_itself c.args.slot) (goes_stirred c.args.slot (record { config = refl; functions = refl; jobs = refl; moment = refl; mode = refl }) c.set_phase.ensures)
    (λ p keeps.
    let asleep : is_asleep (phase c.args.slot p.notes) ≡ true = ap is_asleep (sym (phase_is keeps c.args.slot c.requires) ∙ sym c.phase.ensures) ∙ (sym c.is_asleep.ensures ∙ c.if-is_asleep.true) in
    rw asleep refl)
