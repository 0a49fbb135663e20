use Rattle.std.proofs.Common.{◌≡◌, ◌∷◌, ℕ, Some, refl, sym, subst, ◌∙◌}
use Rattle.gm_notes.specs.declared.states.Priority.{Priority}
use Rattle.gm_notes.specs.declared.note.Note.{Note}
use Rattle.gm_notes.specs.declared.note.Note.TheVariants.{Ended, Discarded}
use Rattle.gm_notes.specs.Past.{Past, with_note}
use Rattle.gm_queues.specs.Queues.{without_reserved_one}
use Rattle.gm_queues.specs.FunctionTables.{ChangesQueue}
use Rattle.gm_jobs.specs.Tables.{job}
use Rattle.gm_core.specs.Facts.{conn_facts, function_facts, job_facts}
use Rattle.gm_core.specs.Holds.{HoldsJobs, Keeps, Goes}
use Rattle.gm_core.specs.Telling.{IsRunning}
use Rattle.gm_core.proofs.CloseLemmas.{jobs_released, jobs_ended}
use Rattle.gm_core.proofs.EndLemmas.{MovesJobs, goes_moved, others_stay}
use Rattle.gm_core.proofs.Running.{Runs, own_room}
use Rattle.gm_core.proofs.server.Tables.end.Goals as goal
use Rattle.gm_core.proofs.server.Tables.end.Goals.{After-unwrap-ended, After-release}

abbrev ended : (c : After-unwrap-ended) → Runs c.args.self.now.jobs c.args.job
ended c =
    let at : job c.args.self.now.jobs c.args.job ≡ Some c.unwrap-ended.result = sym c.end.ensures.ended ∙ c.unwrap-ended.ensures in
    record { live = c.unwrap-ended.result; at = at; runs = subst IsRunning at c.requires.runs }

frees : (c : After-release) → ChangesQueue c.unwrap-ended.result.function c.unwrap-ended.result.priority without_reserved_one c.args.self.now.functions c.release.new.self
frees c =
    subst (λ (f : ℕ). ChangesQueue f c.unwrap-ended.result.priority without_reserved_one c.args.self.now.functions c.release.new.self) c.f.ensures
    (subst (λ (p : Priority). ChangesQueue c.f.result p without_reserved_one c.args.self.now.functions c.release.new.self) c.p.ensures c.release.ensures)

pub release-requires : goal.release-requires
release-requires c = own_room c.args.self.now c.args.job c.requires.kept (ended (goal.at.release-requires c).After-unwrap-ended) c.f.result c.p.result c.f.ensures c.p.ensures

-- what it means, where the step says of the jobs what the tables say
over : (c : After-release) (note : Note) → MovesJobs (with_note note)
    → ((p : Past) → Keeps c.args.self.now p → HoldsJobs c.args.self.now.config c.release.new.self c.end.new.self (conn_facts p.notes).is_open (job_facts (note ∷ p.notes)))
    → Goes c.args.self.now (record c.args.self.now { functions = c.release.new.self; jobs = c.end.new.self }) (with_note note)
over c note moves holds = let gone = frees c in goes_moved (with_note note) (record { config = refl; conns = refl; moment = refl; mode = refl; most = gone.most; names = gone.names; limits = gone.limits }) moves holds

pub returns-clause-goes : goal.returns-clause-goes
returns-clause-goes c =
    let old = c.args.self.now in
    let it = ended (goal.at.returns-clause-goes c).After-unwrap-ended in
    over (goal.at.returns-clause-goes c).After-release (Ended c.args.job) (record { conns = λ p. refl; flow = λ p. refl; functions = λ p. refl; moment = λ p. refl; mode = λ p. refl })
    (λ p keeps.
    jobs_ended old.config old.functions old.jobs (conn_facts p.notes).is_open p.notes (function_facts p.notes) keeps.functions keeps.jobs c.args.job it.live it.at it.runs c.release.new.self c.end.new.self
    (frees (goal.at.returns-clause-goes c).After-release) c.end.ensures.ends)

pub returns-clause-discards : goal.returns-clause-discards
returns-clause-discards c =
    let old = c.args.self.now in
    let it = ended (goal.at.returns-clause-discards c).After-unwrap-ended in
    over (goal.at.returns-clause-discards c).After-release (Discarded c.args.job) (record { conns = λ p. refl; flow = λ p. refl; functions = λ p. refl; moment = λ p. refl; mode = λ p. refl })
    (λ p keeps.
    jobs_released old.config old.functions old.jobs (conn_facts p.notes).is_open p.notes (function_facts p.notes) keeps.functions keeps.jobs c.args.job it.live it.at it.runs c.release.new.self c.end.new.self
    (frees (goal.at.returns-clause-discards c).After-release) c.end.ensures.ends)

pub returns-clause-jobs : goal.returns-clause-jobs
returns-clause-jobs c = others_stay c.args.job c.args.self.now.jobs c.end.new.self c.end.ensures.ends
