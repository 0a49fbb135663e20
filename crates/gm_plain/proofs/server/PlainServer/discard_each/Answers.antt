use Rattle.std.proofs.Common.{length, refl, ap, arith}
use Rattle.gm_notes.specs.Closings.{discard_each, discard_one}
use Rattle.gm_plain.proofs.ServerLoops.{next_job, all_jobs}
use Rattle.gm_plain.proofs.server.PlainServer.discard_each.Goals as goal

pub job_at-job-requires : goal.job_at-job-requires
job_at-job-requires c =
    let same = ap length c.loop-index.invariant.jobs in
    omega (arith, same, c.loop-index-test.true, c.count_made-index-end.ensures)

pub loop-index-preserved : goal.loop-index-preserved
loop-index-preserved c =
    next_job (λ k. discard_each) (λ k. discard_one) (λ k n jobs p. refl) (λ k p. refl) c.args.self.now c.loop-index.self c.discard_one.new.self c.loop-index.index c.job_at-job.result c.job_at-job.ensures
    c.discard_one.ensures.goes c.discard_one.ensures.made c.loop-index.invariant

pub returns : goal.returns
returns c =
    all_jobs (λ k. discard_each) (λ k. discard_one) (λ k n jobs p. refl) (λ k p. refl) c.args.self.now c.loop-index.self c.loop-index.index
    (omega (arith, c.loop-index-test.false, c.count_made-index-end.ensures)) c.loop-index.invariant
