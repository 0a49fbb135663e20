use Rattle.std.proofs.Common.{◌+◌, ◌-◌, sym, subst, ◌∙◌, arith}
use Rattle.gm_notes.specs.Lines.{shut_one}
use Rattle.gm_plain.specs.Holds.{Keeps}
use Rattle.gm_actions.proofs.JobsMade.{shut_next, shut_none}
use Rattle.gm_plain.proofs.server.PlainServer.shut_each.Goals as goal

pub loop-slot-preserved : goal.loop-slot-preserved
loop-slot-preserved c =
    let below = c.loop-slot-test.true in
    let end = c.slots-slot-end.ensures.value in
    record {
      config = c.shut_one.ensures.goes.config ∙ c.loop-slot.invariant.config;
      room = omega (arith, below, end, c.shut_one.ensures.room.free, c.loop-slot.invariant.room);
      past = λ past keeps.
          let t = c.loop-slot.invariant.past past keeps in
          record {
            now = shut_one c.loop-slot.slot t.now;
            keeps = c.shut_one.ensures.goes.past t.now t.keeps;
            leads = t.leads
                ∙ shut_next c.loop-slot.slot (c.args.self.now.config.slots - c.loop-slot.slot) (c.args.self.now.config.slots - (c.loop-slot.slot + 1)) t.now (omega (arith, below, end));
          };
    }

pub returns : goal.returns
returns c = record {
  others = tt;
  config = c.loop-slot.invariant.config;
  past = λ past keeps.
      let t = c.loop-slot.invariant.past past keeps in
      let done = shut_none c.loop-slot.slot (c.args.self.now.config.slots - c.loop-slot.slot) t.now (omega (arith, c.loop-slot-test.false, c.slots-slot-end.ensures.value)) in
      subst (Keeps c.loop-slot.self) (sym (t.leads ∙ done)) t.keeps;
}
