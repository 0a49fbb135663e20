use Rattle.std.proofs.Common.{◌≡◌, true, false, not, refl, sym, ap, ◌∙◌}
use Rattle.gm_notes.specs.Notes.{phase, is_asleep}
use Rattle.gm_notes.specs.Jobs.{is_empty, waiting_for}
use Rattle.gm_core.specs.Holds.{name_at, wake_if_waiting}
use Rattle.gm_core.proofs.FunctionLemmas.{waits_is}
use Rattle.gm_core.proofs.CoreLemmas.{goes_as, goes_nothing, goes_woken, phase_is}
use Rattle.gm_core.proofs.server.Tables.wake_at_once.Goals as goal

pub returns-then-not-is_asleep : goal.returns-then-not-is_asleep
returns-then-not-is_asleep c =
    goes_as (wake_if_waiting c.args.slot (name_at c.args.self.now.functions.names c.args.f)) (goes_nothing refl refl refl refl refl refl)
    (λ p keeps.
    let awake : is_asleep (phase c.args.slot p.notes) ≡ false = ap is_asleep (sym (phase_is keeps c.args.slot c.requires.«open») ∙ sym c.phase.ensures) ∙ (sym c.is_asleep.ensures ∙ c.if-not-is_asleep.true) in
    rw awake refl)

pub returns-then-is_some : goal.returns-then-is_some
returns-then-is_some c =
    rw c.first.ensures.same (goes_as (wake_if_waiting c.args.slot (name_at c.args.self.now.functions.names c.args.f))
    (goes_woken {old = c.args.self.now} c.args.slot (record { config = refl; functions = refl; jobs = refl; moment = refl; mode = refl }) c.set_phase.ensures)
    (λ p keeps.
    let asleep : is_asleep (phase c.args.slot p.notes) ≡ true = ap is_asleep (sym (phase_is keeps c.args.slot c.requires.«open») ∙ sym c.phase.ensures) ∙ (sym c.is_asleep.ensures ∙ c.if-not-is_asleep.false) in
    let waits : is_empty (waiting_for (name_at c.args.self.now.functions.names c.args.f) p.notes) ≡ false =
    waits_is p.notes keeps.functions keeps.jobs c.args.f c.requires.within c.first.result c.first.ensures.value ∙ ap not (sym c.is_some.ensures ∙ c.if-is_some.true) in
    rw (asleep, waits) refl))

pub returns-else-is_some : goal.returns-else-is_some
returns-else-is_some c =
    rw c.first.ensures.same (goes_as (wake_if_waiting c.args.slot (name_at c.args.self.now.functions.names c.args.f))
    (goes_nothing refl refl refl refl refl refl)
    (λ p keeps.
    let waits : is_empty (waiting_for (name_at c.args.self.now.functions.names c.args.f) p.notes) ≡ true =
    waits_is p.notes keeps.functions keeps.jobs c.args.f c.requires.within c.first.result c.first.ensures.value ∙ ap not (sym c.is_some.ensures ∙ c.if-is_some.false) in
    let asleep : is_asleep (phase c.args.slot p.notes) ≡ true = ap is_asleep (sym (phase_is keeps c.args.slot c.requires.«open») ∙ sym c.phase.ensures) ∙ (sym c.is_asleep.ensures ∙ c.if-not-is_asleep.false) in
    rw (asleep, waits) refl))
