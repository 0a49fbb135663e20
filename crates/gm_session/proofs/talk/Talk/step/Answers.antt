use Rattle.std.proofs.Common.{ap}
use Rattle.std.specs.Option.{option_map}
use Rattle.gm_session.specs.Effects.{nothing}
use Rattle.gm_session.specs.Talks.{talking_of}
use Rattle.gm_session.proofs.Gathering.{gathers_from}
use Rattle.gm_session.proofs.Talking.{talk_stepped, steps_on, steps_from, over_where_err}
use Rattle.gm_session.proofs.talk.Talk.step.Goals as goal

pub invariant_of-self : goal.invariant_of-self
invariant_of-self g c =
    talk_stepped g.K.BookName.settings _ c.self.invariant g.K.BookName.taped _ _ _ c.step_on.ensures.number (ap (option_map talking_of) c.in-Some.is) c.in-Goes.is c.step_on.result _ _ _
    c.step_on.ensures.steps.2 c.step_on.ensures.reading c.step_on.ensures.socket

pub returns-in-Goes-clause-steps : goal.returns-in-Goes-clause-steps
returns-in-Goes-clause-steps g c =
    steps_from g.K.BookName.settings g.K.BookName.taped c.step_on.result _ _ _ c.self.view_is
    (steps_on g.K.BookName.settings _ c.self.invariant g.K.BookName.taped _ _ _ c.step_on.ensures.number (ap (option_map talking_of) c.in-Some.is) c.in-Goes.is c.step_on.result _ _ _
    c.step_on.ensures.steps.2 c.step_on.ensures.reading c.step_on.ensures.socket c.step_on.ensures.asks)

pub returns-in-Drops-clause-gathers : goal.returns-in-Drops-clause-gathers
returns-in-Drops-clause-gathers g c = gathers_from g.K.BookName.settings g.K.BookName.taped _ _ _ _ _ c.self.view_is nothing

pub returns-in-Ended-clause-gathers : goal.returns-in-Ended-clause-gathers
returns-in-Ended-clause-gathers g c = gathers_from g.K.BookName.settings g.K.BookName.taped _ _ _ _ _ c.self.view_is nothing

pub returns-in-None-clause-gathers : goal.returns-in-None-clause-gathers
returns-in-None-clause-gathers g c = gathers_from g.K.BookName.settings g.K.BookName.taped _ _ _ _ _ c.self.view_is nothing
