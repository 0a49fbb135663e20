use Rattle.std.proofs.Common.{◌≡◌, true, refl, sym, ap, ◌∙◌}
use Rattle.gm_notes.specs.declared.note.Note.TheVariants.{Slept}
use Rattle.gm_notes.specs.Notes.{phase, is_awake}
use Rattle.gm_notes.specs.Past.{with_note}
use Rattle.gm_notes.specs.Workers.{pre_sleep, sleep_beside}
use Rattle.gm_core.proofs.CoreLemmas.{goes_as, goes_then, goes_slept, goes_woken, phase_is, beside_some, beside_none}
use Rattle.gm_core.proofs.server.Tables.pre_sleep.Goals as goal

pub returns-then-beside : goal.returns-then-beside
returns-then-beside c =
    let slept = rw c.pick.ensures.same at c.set_phase.ensures in
    rw c.pick.ensures.same (goes_as (pre_sleep c.args.self.now.config c.args.slot)
    (goes_then (goes_slept {old = c.args.self.now} {new = record c.args.self.now { conns = c.set_phase.new.self }} c.args.slot (record { config = refl; functions = refl; jobs = refl; moment = refl; mode = refl }) slept) (goes_woken c.args.slot (record { config = refl; functions = refl; jobs = refl; moment = refl; mode = refl }) c.set_phase-then-beside.ensures))
    (λ p keeps.
    let awake : is_awake (phase c.args.slot p.notes) ≡ true = ap is_awake (sym (phase_is keeps c.args.slot c.requires.«open») ∙ sym c.phase.ensures) ∙ (sym c.is_awake.ensures ∙ c.if-not-is_awake.false) in
    rw awake (beside_some c.pick.result c.args.slot (with_note (Slept c.args.slot) p) (sym c.is_some-beside.ensures ∙ c.if-beside.true) ∙ ap (λ o. sleep_beside o c.args.slot (with_note (Slept c.args.slot) p)) (c.pick.ensures.value p keeps))))

pub returns-else-beside : goal.returns-else-beside
returns-else-beside c =
    let slept = rw c.pick.ensures.same at c.set_phase.ensures in
    rw c.pick.ensures.same (goes_as (pre_sleep c.args.self.now.config c.args.slot) (goes_slept {old = c.args.self.now} c.args.slot (record { config = refl; functions = refl; jobs = refl; moment = refl; mode = refl }) slept)
    (λ p keeps.
    let awake : is_awake (phase c.args.slot p.notes) ≡ true = ap is_awake (sym (phase_is keeps c.args.slot c.requires.«open») ∙ sym c.phase.ensures) ∙ (sym c.is_awake.ensures ∙ c.if-not-is_awake.false) in
    rw awake (beside_none c.pick.result c.args.slot (with_note (Slept c.args.slot) p) (sym c.is_some-beside.ensures ∙ c.if-beside.false) ∙ ap (λ o. sleep_beside o c.args.slot (with_note (Slept c.args.slot) p)) (c.pick.ensures.value p keeps))))
