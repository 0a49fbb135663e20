use Rattle.std.proofs.Common.{◌+◌, ◌-◌, ◌<◌, sym, ap, subst, ◌∙◌, arith}
use Rattle.gm_notes.specs.Settings.{Settings}
use Rattle.gm_notes.specs.Notes.{slots_from}
use Rattle.gm_notes.specs.Jobs.{job}
use Rattle.gm_plain.specs.Holds.{Keeps, wake_one_for}
use Rattle.gm_plain.proofs.ServerLemmas.{wake_all, wake_each_for, wake_next, wake_none, wake_job}
use Rattle.gm_plain.proofs.server.PlainServer.wake.Goals as goal

pub loop-slot-preserved : goal.loop-slot-preserved
loop-slot-preserved c =
    let below = c.loop-slot-test.true in
    let end = c.slots-slot-end.ensures.value in
    record {
      config = c.wake_one.ensures.goes.config ∙ c.loop-slot.invariant.config;
      jobs = c.wake_one.ensures.made ∙ c.loop-slot.invariant.jobs;
      past = λ past keeps.
          let t = c.loop-slot.invariant.past past keeps in
          let n = c.args.number in
          record {
            now = wake_one_for (job n t.now.notes) c.loop-slot.slot t.now;
            keeps = c.wake_one.ensures.goes.past t.now t.keeps;
            same = wake_job (job n t.now.notes) n c.loop-slot.slot t.now ∙ t.same;
            leads = t.leads
                ∙ (wake_next (job n past.notes) c.loop-slot.slot (c.args.self.now.config.slots - c.loop-slot.slot) (c.args.self.now.config.slots - (c.loop-slot.slot + 1)) t.now (omega (arith, below, end))
                ∙ ap (λ o. wake_each_for (job n past.notes) (slots_from (c.loop-slot.slot + 1) (c.args.self.now.config.slots - (c.loop-slot.slot + 1))) (wake_one_for o c.loop-slot.slot t.now)) (sym t.same));
          };
    }

pub returns-clause-goes : goal.returns-clause-goes
returns-clause-goes c = record {
  others = tt;
  config = c.loop-slot.invariant.config;
  past = λ past keeps.
      let t = c.loop-slot.invariant.past past keeps in
      let n = c.args.number in
      let done = wake_none (job n past.notes) c.loop-slot.slot (c.args.self.now.config.slots - c.loop-slot.slot) t.now (omega (arith, c.loop-slot-test.false, c.slots-slot-end.ensures.value)) in
      subst (Keeps c.loop-slot.self) (sym (wake_all c.args.self.now.config (job n past.notes) past ∙ (t.leads ∙ done))) t.keeps;
}

pub wake_one-requires : goal.wake_one-requires
wake_one-requires c =
    subst (λ (k : Settings). c.loop-slot.slot < k.slots) (sym c.loop-slot.invariant.config) (let end = c.slots-slot-end.ensures.value in omega (arith, end, c.loop-slot-test.true))
