use Rattle.std.proofs.Common.{◌∷◌, refl}
use Rattle.gm_notes.specs.Flow.{Drained}
use Rattle.gm_notes.specs.Past.{with_flow}
use Rattle.gm_notes.specs.Steps.{Drain}
use Rattle.gm_actions.proofs.Changing.{agrees_next}
use Rattle.gm_core.proofs.CoreLemmas.{goes_drained}
use Rattle.gm_core.proofs.server.Core.drain_open.Goals as goal

pub invariant_of-self-2 : goal.invariant_of-self-2
invariant_of-self-2 c =
    let was = c.self.invariant in
    let slot = c.args.slot in
    (was.0, Drain slot ∷ was.1, agrees_next was.0 was.1 (Drain slot) (with_flow (Drained slot)) was.2 (goes_drained slot (record { config = refl; functions = refl; jobs = refl; moment = refl; mode = refl }) c.drain.ensures.rest) refl refl)
