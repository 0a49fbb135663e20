use Rattle.std.proofs.Common.{◌≡◌, List, ◌∷◌, None, refl, sym, subst}
use Rattle.gm_notes.specs.declared.note.Note.TheVariants as notes
use Rattle.gm_notes.specs.Settings.{Settings}
use Rattle.gm_notes.specs.Past.{with_note}
use Rattle.gm_notes.specs.Steps.{Step, Withdrew, refusal, run}
use Rattle.gm_actions.proofs.Changing.{agrees_next}
use Rattle.gm_core.specs.declared.server.Tables.{Tables}
use Rattle.gm_core.specs.Holds.{CoreAgrees}
use Rattle.gm_core.proofs.CoreLemmas.{goes_withdrew}
use Rattle.gm_core.proofs.server.CoreJobServer.withdrew.Goals as goal
use Rattle.gm_core.proofs.server.CoreJobServer.withdrew.Goals.{After-set_phase}

after : (c : After-set_phase) (k : Settings) (steps : List Step) → CoreAgrees c.self.inside.tables k steps
    → (refusal k (Withdrew c.args.slot) (run k steps) ≡ None) × CoreAgrees (record c.self.inside.tables { conns = c.set_phase.new.self }) k (Withdrew c.args.slot ∷ steps)
after c k steps agrees =
    let taken = c.in_ok-check_owed.ensures.value (run k steps) agrees.past in
    (taken, agrees_next k steps (Withdrew c.args.slot) (with_note (notes.Withdrew c.args.slot)) agrees (goes_withdrew c.args.slot (record { config = refl; functions = refl; jobs = refl; moment = refl; mode = refl }) c.set_phase.ensures) taken refl)

pub invariant_of-self : goal.invariant_of-self
invariant_of-self c =
    let was = c.self.invariant in
    (was.0, Withdrew c.args.slot ∷ was.1, (after (goal.at.invariant_of-self c).After-set_phase was.0 was.1 was.2).1)

pub returns-clause-answers : goal.returns-clause-answers
returns-clause-answers c k steps agrees =
    after (goal.at.returns-clause-answers c).After-set_phase k steps (subst (λ (t : Tables). CoreAgrees t k steps) (sym c.self.view_is) agrees)
