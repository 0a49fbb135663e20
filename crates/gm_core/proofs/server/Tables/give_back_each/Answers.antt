use Rattle.std.proofs.Common.{refl, sym, subst, ◌∙◌}
use Rattle.gm_notes.specs.Settings.{Settings}
use Rattle.gm_notes.specs.Closings.{give_back_each, give_back_one, rising}
use Rattle.gm_jobs.specs.Live.{is_run_by}
use Rattle.gm_jobs.specs.Tables.{Table}
use Rattle.gm_core.proofs.ConnLemmas.{touched_same, touched_then}
use Rattle.gm_core.specs.Holds.{Keeps}
use Rattle.gm_actions.proofs.JobsMade.{give_back_made}
use Rattle.gm_core.proofs.RisingLemmas.{rising_begins, rising_on, rising_done, runs_on}
use Rattle.gm_core.proofs.server.Tables.give_back_each.Goals as goal

pub loop-job-init : goal.loop-job-init
loop-job-init c =
    let k = c.args.self.now.config in
    let slot = c.args.slot in
    record {
      config = refl;
      others = touched_same refl;
      past = λ past keeps. rising_begins (give_back_each k slot) (give_back_one k slot) (λ p. refl) (λ n jobs p. refl) c.args.self.now past 0 keeps.jobs.begins keeps;
    }

pub loop-job-preserved : goal.loop-job-preserved
loop-job-preserved c =
    let k = c.args.self.now.config in
    let slot = c.args.slot in
    let n = c.in-Some.job in
    record {
      config = c.give_back_one.ensures.config ∙ c.loop-job.invariant.config;
      others = touched_then c.loop-job.invariant.others c.give_back_one.ensures.others;
      past = λ past keeps.
          let t = c.loop-job.invariant.past past keeps in
          rising_on (give_back_each k slot) (give_back_one k slot) (λ p. refl) (λ n jobs p. refl) (is_run_by slot) c.args.self.now c.loop-job.self c.loop-job.invariant.config c.loop-job.after past t
          (λ m e. runs_on c.loop-job.self t.now t.keeps m k slot e) c.give_back_one.new.self n c.in-Some.ensures.next
          (subst (λ (x : Settings). Keeps c.give_back_one.new.self (give_back_one x slot n t.now)) c.loop-job.invariant.config (c.give_back_one.ensures.past t.now (subst (λ (jobs : Table). Keeps (record c.loop-job.self { jobs = jobs }) t.now) (sym c.in-Some.ensures.kept) t.keeps))) (give_back_made k slot n t.now);
    }

pub returns : goal.returns
returns c =
    let k = c.args.self.now.config in
    let slot = c.args.slot in
    record {
      config = c.loop-job.invariant.config;
      others = c.loop-job.invariant.others;
      past = λ past keeps.
          let t = c.loop-job.invariant.past past keeps in
          subst (λ (jobs : Table). Keeps (record c.loop-job.self { jobs = jobs }) (give_back_each k slot (rising past) past)) (sym c.in_default.ensures.kept)
          (rising_done (give_back_each k slot) (give_back_one k slot) (λ p. refl) (λ n jobs p. refl) (is_run_by slot) c.args.self.now c.loop-job.self c.loop-job.invariant.config c.loop-job.after past t
          (λ m e. runs_on c.loop-job.self t.now t.keeps m k slot e) c.in_default.ensures.last);
    }
