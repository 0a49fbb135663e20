use Rattle.std.proofs.Common.{sym, subst}
use Rattle.gm_notes.specs.declared.event.Event.{Event}
use Rattle.gm_notes.specs.Servers.{Answers, step_of, steps_after}
use Rattle.gm_actions.specs.ReadEvents.{ReadsEvent}
use Rattle.gm_core.specs.Holds.{CoreAgrees}
use Rattle.gm_core.proofs.server.Tables.take.Goals as goal

pub returns-in-Packet-clause-answers : goal.returns-in-Packet-clause-answers
returns-in-Packet-clause-answers c = λ k steps agrees.
    let reads = subst (λ (e : Event). ReadsEvent e c.args.read.now.action) c.in-Packet.is c.requires.reads in
    subst (λ (e : Event). Answers k steps (step_of e) c.packet.result × CoreAgrees c.packet.new.self k (steps_after c.packet.result (step_of e) steps)) (sym c.in-Packet.is)
    (c.packet.ensures.answers _ _ reads k steps agrees)
