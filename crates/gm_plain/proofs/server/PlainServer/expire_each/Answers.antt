use Rattle.std.proofs.Common.{length, refl, ap, arith}
use Rattle.gm_notes.specs.Closings.{expire_each, expire_one}
use Rattle.gm_plain.proofs.ServerLoops.{next_job, all_jobs}
use Rattle.gm_plain.proofs.TakingBack.{grows_then}
use Rattle.gm_plain.proofs.server.PlainServer.expire_each.Goals as goal

pub job_at-job-requires : goal.job_at-job-requires
job_at-job-requires c =
    let same = ap length c.loop-index.invariant.over.jobs in
    omega (arith, same, c.loop-index-test.true, c.count_made-index-end.ensures)

pub loop-index-preserved : goal.loop-index-preserved
loop-index-preserved c = record {
  over = next_job expire_each expire_one (λ k n jobs p. refl) (λ k p. refl) c.args.self.now c.loop-index.self c.expire_one.new.self c.loop-index.index c.job_at-job.result c.job_at-job.ensures
      c.in_ok-expire_one.ensures.does c.expire_one.ensures.made c.loop-index.invariant.over;
  grew = grows_then c.loop-index.invariant.grew c.in_ok-expire_one.ensures.grew;
}

pub returns-clause-goes : goal.returns-clause-goes
returns-clause-goes c =
    all_jobs expire_each expire_one (λ k n jobs p. refl) (λ k p. refl) c.args.self.now c.loop-index.self c.loop-index.index
    (omega (arith, c.loop-index-test.false, c.count_made-index-end.ensures)) c.loop-index.invariant.over

pub returns-in_err-expire_one-clause-grew : goal.returns-in_err-expire_one-clause-grew
returns-in_err-expire_one-clause-grew c = grows_then c.loop-index.invariant.grew c.in_err-expire_one.ensures.grew

pub returns-clause-grew : goal.returns-clause-grew
returns-clause-grew c = c.loop-index.invariant.grew
