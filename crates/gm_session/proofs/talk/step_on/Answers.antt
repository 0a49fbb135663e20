use Rattle.gm_session.proofs.Owning.{own_steps}
use Rattle.gm_session.proofs.talk.step_on.Goals as goal

pub invariant_of-desk : goal.invariant_of-desk
invariant_of-desk g c = record {
  own = own_steps g.K.BookName.settings g.K.BookName.taped c.args.desk.now.desk.number _ _ c.args.talking.now.session.feeder c.args.talking.now.session.has_units _ _ _ _ c.step-outcome.result
      c.step-outcome.new.session.has_units _ _ c.step-outcome.new.session.feeder c.number.ensures c.step-outcome.ensures.number c.step-outcome.ensures.steps c.args.desk.now.own;
}
