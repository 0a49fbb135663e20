use Rattle.std.proofs.Common.{refl, sym, subst, ◌∙◌}
use Rattle.gm_notes.specs.Past.{Past}
use Rattle.gm_notes.specs.Closings.{discard_each, discard_one, rising}
use Rattle.gm_jobs.specs.Live.{is_orphan}
use Rattle.gm_jobs.specs.Tables.{Table}
use Rattle.gm_core.proofs.ConnLemmas.{touched_same, touched_then}
use Rattle.gm_core.specs.Holds.{Keeps}
use Rattle.gm_actions.proofs.JobsMade.{discard_made}
use Rattle.gm_core.proofs.RisingLemmas.{rising_begins, rising_on, rising_done, stays_so, discards_so}
use Rattle.gm_core.proofs.server.Tables.discard_each.Goals as goal

pub loop-job-init : goal.loop-job-init
loop-job-init c = record {
  config = refl;
  others = touched_same refl;
  past = λ past keeps. rising_begins discard_each discard_one (λ p. refl) (λ n jobs p. refl) c.args.self.now past 0 keeps.jobs.begins keeps;
}

pub loop-job-preserved : goal.loop-job-preserved
loop-job-preserved c = record {
  config = c.discard.ensures.config ∙ c.loop-job.invariant.config;
  others = touched_then c.loop-job.invariant.others c.discard.ensures.others;
  past = λ past keeps.
      let t = c.loop-job.invariant.past past keeps in
      let n = c.in-Some.job in
      rising_on discard_each discard_one (λ p. refl) (λ n jobs p. refl) is_orphan c.args.self.now c.loop-job.self c.loop-job.invariant.config c.loop-job.after past t
      (λ m e. stays_so c.loop-job.self t.now t.keeps m e) c.discard.new.self n c.in-Some.ensures.next
      (subst (λ (p : Past). Keeps c.discard.new.self p) (discards_so c.loop-job.self t.now t.keeps n c.in-Some.ensures.next.found) (c.discard.ensures.past t.now (subst (λ (jobs : Table). Keeps (record c.loop-job.self { jobs = jobs }) t.now) (sym c.in-Some.ensures.kept) t.keeps))) (discard_made n t.now);
}

pub returns : goal.returns
returns c = record {
  config = c.loop-job.invariant.config;
  others = c.loop-job.invariant.others;
  past = λ past keeps.
      let t = c.loop-job.invariant.past past keeps in
      subst (λ (jobs : Table). Keeps (record c.loop-job.self { jobs = jobs }) (discard_each (rising past) past)) (sym c.in_default.ensures.kept)
      (rising_done discard_each discard_one (λ p. refl) (λ n jobs p. refl) is_orphan c.args.self.now c.loop-job.self c.loop-job.invariant.config c.loop-job.after past t
      (λ m e. stays_so c.loop-job.self t.now t.keeps m e) c.in_default.ensures.last);
}
