use Rattle.std.proofs.Common.{◌≡◌, ◌≤◌, ◌^◌, [], None, refl, sym, ap, subst, ◌∙◌}
use Rattle.gm_notes.specs.declared.states.Mode.TheVariants.{Running}
use Rattle.gm_notes.specs.Settings.{Settings, config_fault}
use Rattle.gm_notes.specs.Past.{nothing}
use Rattle.gm_queues.specs.FunctionTables as queues
use Rattle.gm_queues.specs.FunctionTables.{no_functions}
use Rattle.gm_jobs.specs.Tables as jobs
use Rattle.gm_jobs.specs.Tables.{no_jobs}
use Rattle.gm_core.specs.Holds.{Holds, CoreAgrees}
use Rattle.gm_core.proofs.StartLemmas.{holds_nothing, begins_above}
use Rattle.gm_core.proofs.server.Core.new.Goals as goal
use Rattle.gm_core.proofs.server.Core.new.Goals.{After-new-4}

agreed : (c : After-new-4)
    → CoreAgrees (record { alloc = c.args.alloc; config = c.args.config; conns = c.in_ok-conns.conns; functions = c.in_ok-functions.functions; jobs = c.in_ok-jobs.jobs; moment = 0; mode = Running; text = c.new-4.result }) c.args.config []
agreed c =
    let k = c.args.config in
    let functions = c.in_ok-functions.ensures ∙ ap (no_functions c.args.seed) c.max_functions.ensures.value in
    let live = c.in_ok-jobs.ensures ∙ ap (no_jobs c.args.seed) c.first_job.ensures.value in
    let held = holds_nothing k c.args.seed c.in_ok-conns.conns (c.in_ok-conns.ensures.slots ∙ c.slots.ensures.value) c.in_ok-conns.ensures.closed (subst (λ n. n ≤ 2 ^ 64) c.first_job.ensures.value c.first_job.ensures.fits)
    (begins_above k (subst (λ (x : Settings). config_fault x ≡ None) c.config.view_is c.config.invariant)) in
    record {
      settings = refl;
      past = subst (λ (q : queues.Table). Holds k c.in_ok-conns.conns q c.in_ok-jobs.jobs 0 Running nothing) (sym functions)
          (subst (λ (j : jobs.Table). Holds k c.in_ok-conns.conns (no_functions c.args.seed k.max_functions) j 0 Running nothing) (sym live) held);
    }

pub invariant_of-result : goal.invariant_of-result
invariant_of-result c = (c.args.config, [], agreed (goal.at.invariant_of-result c).After-new-4)

pub returns-clause-agrees : goal.returns-clause-agrees
returns-clause-agrees c = agreed (goal.at.returns-clause-agrees c).After-new-4
