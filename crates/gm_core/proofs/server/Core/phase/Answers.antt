use Rattle.std.proofs.Common.{◌≡◌, Bool, true, false, if◌then◌else◌, refl, sym, subst, ap, ◌∙◌}
use Rattle.gm_notes.specs.declared.states.Phase.{Phase}
use Rattle.gm_notes.specs.declared.states.Phase.TheVariants.{Awake}
use Rattle.gm_notes.specs.Notes.{phase}
use Rattle.gm_notes.specs.Steps.{run}
use Rattle.gm_core.specs.declared.server.Tables.{Tables}
use Rattle.gm_core.specs.Facts.{Seen}
use Rattle.gm_core.specs.Holds.{CoreAgrees}
use Rattle.gm_core.proofs.server.Core.phase.Goals as goal

chosen : (t u : Bool) (p : Phase) → u ≡ t → (if t then p else Awake) ≡ (if u then p else Awake)
chosen t u p is = ap (λ (b : Bool). if b then p else Awake) (sym is)

pub returns-then-is_open-clause-agrees : goal.returns-then-is_open-clause-agrees
returns-then-is_open-clause-agrees c k steps agrees =
    let held = subst (λ (t : Tables). CoreAgrees t k steps) (sym c.self.view_is) agrees in
    let open_ = sym (held.past.conns.opens c.args.slot) ∙ (sym c.is_open.ensures.value ∙ c.if-is_open.true) in
    c.phase.ensures ∙ (ap (λ (s : Seen). s.phase) (held.past.conns.seen c.args.slot open_) ∙ chosen true _ (phase c.args.slot (run k steps).notes) open_)

pub returns-else-is_open-clause-agrees : goal.returns-else-is_open-clause-agrees
returns-else-is_open-clause-agrees c k steps agrees =
    let held = subst (λ (t : Tables). CoreAgrees t k steps) (sym c.self.view_is) agrees in
    chosen false _ (phase c.args.slot (run k steps).notes) (sym (held.past.conns.opens c.args.slot) ∙ (sym c.is_open.ensures.value ∙ c.if-is_open.false))
