use Rattle.std.proofs.Common.{◌≡◌, ℕ, Some, count_by, filter, not, ◌==◌, Contains, true, refl, sym, ap, subst, ◌∙◌}
use Rattle.gm_notes.specs.declared.states.Priority.{Priority}
use Rattle.gm_notes.specs.declared.note.Note.TheVariants.{Discarded}
use Rattle.gm_notes.specs.Past.{with_note}
use Rattle.gm_queues.specs.FunctionTables.{queue, ForgetsJob}
use Rattle.gm_jobs.specs.Live.{is_orphan}
use Rattle.gm_jobs.specs.Tables.{job, passes}
use Rattle.gm_core.specs.Facts.{conn_facts, function_facts}
use Rattle.gm_core.proofs.CloseLemmas.{jobs_discarded, stands_in}
use Rattle.gm_core.proofs.EndLemmas.{orphan_waits, goes_moved}
use Rattle.gm_core.proofs.server.Tables.discard.Goals as goal
use Rattle.gm_core.proofs.server.Tables.discard.Goals.{After-p}

live_at : (c : After-p) → job c.args.self.now.jobs c.args.job ≡ Some c.unwrap-ended.result
live_at c = sym c.end.ensures.ended ∙ c.unwrap-ended.ensures

wants_none : (c : After-p) → is_orphan c.unwrap-ended.result ≡ true
wants_none c = sym (ap (passes is_orphan) (live_at c)) ∙ c.requires.orphan

pub forget-requires : goal.forget-requires
forget-requires c =
    let old = c.args.self.now in
    let p = c.requires.kept.0 in
    let keeps = c.requires.kept.1 in
    let stands = stands_in old.config old.functions old.jobs (conn_facts p.notes).is_open p.notes (function_facts p.notes) keeps.functions keeps.jobs c.args.job c.unwrap-ended.result (live_at c) (orphan_waits c.unwrap-ended.result (wants_none c)) in
    subst (λ (g : ℕ). Contains (queue old.functions g c.p.result).jobs c.args.job) (sym c.f.ensures)
    (subst (λ (q : Priority). Contains (queue old.functions c.unwrap-ended.result.function q).jobs c.args.job) (sym c.p.ensures) stands)

pub returns : goal.returns
returns c =
    let d = (goal.at.returns c).After-p in
    let functions = c.args.self.now.functions in
    let n = c.args.job in
    let after = c.forget.new.self in
    let live = c.unwrap-ended.result in
    let forgets : ForgetsJob live.function live.priority n functions after =
    subst (λ (g : ℕ). ForgetsJob g live.priority n functions after) c.f.ensures
    (subst (λ (q : Priority). ForgetsJob c.f.result q n functions after) c.p.ensures c.forget.ensures.forgets) in
    let left =
    subst (λ (g : ℕ). count_by (λ m. m == n) (queue functions g live.priority).jobs ≡ 1 → (queue after g live.priority).jobs ≡ filter (λ m. not (m == n)) (queue functions g live.priority).jobs) c.f.ensures
    (subst (λ (q : Priority). count_by (λ m. m == n) (queue functions c.f.result q).jobs ≡ 1 → (queue after c.f.result q).jobs ≡ filter (λ m. not (m == n)) (queue functions c.f.result q).jobs) c.p.ensures c.forget.ensures.once) in
    goes_moved (with_note (Discarded n)) (record { config = refl; conns = refl; moment = refl; mode = refl; most = forgets.most; names = forgets.names; limits = forgets.limits })
    (record { conns = λ p. refl; flow = λ p. refl; functions = λ p. refl; moment = λ p. refl; mode = λ p. refl })
    (λ p keeps.
    jobs_discarded c.args.self.now.config functions c.args.self.now.jobs (conn_facts p.notes).is_open p.notes (function_facts p.notes) keeps.functions keeps.jobs n live (live_at d) (orphan_waits live (wants_none d)) after c.end.new.self
    forgets left c.end.ensures.ends)
