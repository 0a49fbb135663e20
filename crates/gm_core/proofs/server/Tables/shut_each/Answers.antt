use Rattle.std.proofs.Common.{◌+◌, ◌-◌, sym, subst, ◌∙◌, arith}
use Rattle.gm_notes.specs.Lines.{shut_one}
use Rattle.gm_core.proofs.ConnLemmas.{touched_then}
use Rattle.gm_core.specs.Holds.{Keeps}
use Rattle.gm_actions.proofs.JobsMade.{shut_next, shut_none}
use Rattle.gm_core.proofs.server.Tables.shut_each.Goals as goal

pub loop-slot-preserved : goal.loop-slot-preserved
loop-slot-preserved c =
    let below = c.loop-slot-test.true in
    let end = c.slots-slot-end.ensures.value in
    record {
      config = c.shut_one.ensures.config ∙ c.loop-slot.invariant.config;
      others = touched_then c.loop-slot.invariant.others c.shut_one.ensures.others;
      past = λ past keeps.
          let t = c.loop-slot.invariant.past past keeps in
          record {
            now = shut_one c.loop-slot.slot t.now;
            keeps = c.shut_one.ensures.past t.now t.keeps;
            leads = t.leads
                ∙ shut_next c.loop-slot.slot (c.args.self.now.config.slots - c.loop-slot.slot) (c.args.self.now.config.slots - (c.loop-slot.slot + 1)) t.now (omega (arith, below, end));
          };
    }

pub returns : goal.returns
returns c = record {
  config = c.loop-slot.invariant.config;
  others = c.loop-slot.invariant.others;
  past = λ past keeps.
      let t = c.loop-slot.invariant.past past keeps in
      let done = shut_none c.loop-slot.slot (c.args.self.now.config.slots - c.loop-slot.slot) t.now (omega (arith, c.loop-slot-test.false, c.slots-slot-end.ensures.value)) in
      subst (Keeps c.loop-slot.self) (sym (t.leads ∙ done)) t.keeps;
}
