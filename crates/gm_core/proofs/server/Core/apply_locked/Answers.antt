use Rattle.gm_notes.specs.Servers.{step_of, steps_after}
use Rattle.gm_core.proofs.server.Core.apply_locked.Goals as goal

pub invariant_of-self : goal.invariant_of-self
invariant_of-self c =
    let was = c.self.invariant in
    let agrees = (c.take-answer.ensures.answers was.0 was.1 was.2).1 in
    (was.0, steps_after c.take-answer.result (step_of c.args.read.now.event) was.1, record { settings = agrees.settings; past = agrees.past })
