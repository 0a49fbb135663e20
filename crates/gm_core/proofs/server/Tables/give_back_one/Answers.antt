use Rattle.std.proofs.Common.{◌≡◌, ℕ, Bool, false, true, List, Some, Option, refl, sym, ap, subst, ◌∙◌}
use Rattle.std.specs.Option.{option_copied}
use Rattle.gm_notes.specs.declared.states.Priority.{Priority}
use Rattle.gm_notes.specs.declared.note.Note.TheVariants.{Returned, Lost}
use Rattle.gm_notes.specs.Jobs.{Job}
use Rattle.gm_notes.specs.Past.{with_note, wake}
use Rattle.gm_notes.specs.Closings.{wake_for, return_or_lose, give_back_one}
use Rattle.gm_queues.specs.Queues.{with_job}
use Rattle.gm_queues.specs.FunctionTables.{ChangesQueue}
use Rattle.gm_jobs.specs.Live.{Live, given_back as handed_back, is_last_try}
use Rattle.gm_jobs.specs.declared.jobs.Back.{Back}
use Rattle.gm_jobs.specs.declared.jobs.Back.TheVariants as backs
use Rattle.gm_jobs.specs.Tables.{Table, job, passes, back_of, Changes}
use Rattle.gm_core.specs.Facts.{conn_facts, function_facts}
use Rattle.gm_core.specs.Holds.{name_at}
use Rattle.gm_core.specs.Telling.{IsRunning}
use Rattle.gm_core.proofs.CoreLemmas.{goes_then, goes_as}
use Rattle.gm_core.proofs.CloseLemmas.{jobs_returned, jobs_lost, last_try_is}
use Rattle.gm_core.proofs.EndLemmas.{goes_moved, given_back, given_up}
use Rattle.gm_core.proofs.Running.{Runs, run_by_running, own_room}
use Rattle.gm_core.proofs.server.Tables.give_back_one.Goals as goal
use Rattle.gm_core.proofs.server.Tables.give_back_one.Goals.{After-unwrap-found}

abbrev found : (c : After-unwrap-found) → Runs c.args.self.now.jobs c.args.job
found c =
    let jobs = c.args.self.now.jobs in
    let at : job jobs c.args.job ≡ Some c.unwrap-found.result.now = sym c.by_number.ensures ∙ ap option_copied c.unwrap-found.ensures in
    record { live = c.unwrap-found.result.now; at = at; runs = subst IsRunning at (run_by_running jobs c.args.slot c.args.job c.requires.runs) }

-- what becomes of the job, and whether that was its last try, by the limit that was asked
given : (c : After-unwrap-found) (new : Table) → Changes c.args.job (handed_back c.retries-limit.result) c.args.self.now.jobs new → Changes c.args.job (handed_back c.args.self.now.config.retries) c.args.self.now.jobs new
given c new changes = subst (λ (r : ℕ). Changes c.args.job (handed_back r) c.args.self.now.jobs new) c.retries-limit.ensures changes

-- by what became of it, whether that was its last try
tried : (c : After-unwrap-found) (back : Back) → back ≡ back_of (passes (is_last_try c.retries-limit.result) (job c.args.self.now.jobs c.args.job)) → back_of (is_last_try c.args.self.now.config.retries (found c).live) ≡ back
tried c back is =
    ap (λ (r : ℕ). back_of (is_last_try r (found c).live)) (sym c.retries-limit.ensures) ∙ (ap (λ (o : Option Live). back_of (passes (is_last_try c.retries-limit.result) o)) (sym (found c).at) ∙ sym is)

was_last : (b : Bool) → back_of b ≡ backs.Lost → b ≡ true
was_last true e = refl
was_last false e = cc

was_not_last : (b : Bool) → back_of b ≡ backs.Returned → b ≡ false
was_not_last true e = cc
was_not_last false e = refl

pub push-requires : goal.push-requires
push-requires c = own_room c.args.self.now c.args.job c.requires.kept (found (goal.at.push-requires c).After-unwrap-found) c.f-f.result c.p-p.result c.f-f.ensures c.p-p.ensures

pub wake-requires : goal.wake-requires
wake-requires c =
    let it = found (goal.at.wake-requires c).After-unwrap-found in
    let is = c.requires.kept.1.jobs.live c.args.job it.live it.at in
    rw (c.f-f.ensures, c.push.ensures.names) is.function

pub returns-then-not-is_wanted : goal.returns-then-not-is_wanted
returns-then-not-is_wanted c =
    let it = found (goal.at.returns-then-not-is_wanted c).After-unwrap-found in
    goes_as (give_back_one c.args.self.now.config c.args.slot c.args.job) c.end-ended.ensures.discards
    (λ p keeps. given_up c.args.self.now p keeps c.args.slot c.args.job c.requires.runs it.live it.at (sym c.if-not-is_wanted.ensures))

pub returns-in-Lost : goal.returns-in-Lost
returns-in-Lost c =
    let d = (goal.at.returns-in-Lost c).After-unwrap-found in
    let it = found d in
    let core = c.args.self.now in
    let n = c.args.job in
    let last = was_last _ (tried d c.give_back.result c.give_back.ensures.back ∙ c.in-Lost.is) in
    goes_as (give_back_one core.config c.args.slot n)
    (goes_moved {old = core} {new = record core { jobs = c.give_back.new.self }} (with_note (Lost n))
    (record { config = refl; conns = refl; moment = refl; mode = refl; most = refl; names = refl; limits = refl })
    (record { conns = λ p. refl; flow = λ p. refl; functions = λ p. refl; moment = λ p. refl; mode = λ p. refl })
    (λ p keeps.
    jobs_lost core.config core.functions core.jobs (conn_facts p.notes).is_open p.notes (function_facts p.notes) keeps.functions keeps.jobs n it.live it.at it.runs c.give_back.new.self last (given d c.give_back.new.self c.give_back.ensures.changes)))
    (λ p keeps.
    let so = last_try_is core.config core.functions core.jobs (conn_facts p.notes).is_open p.notes (function_facts p.notes) keeps.functions keeps.jobs n it.live it.at ∙ last in
    (rw so refl) ∙ given_back core p keeps c.args.slot n c.requires.runs it.live it.at (sym c.if-not-is_wanted.ensures))

pub returns-in-Returned : goal.returns-in-Returned
returns-in-Returned c =
    let d = (goal.at.returns-in-Returned c).After-unwrap-found in
    let it = found d in
    let core = c.args.self.now in
    let n = c.args.job in
    let after = c.push.new.self in
    let more = c.give_back.new.self in
    let not_last = was_not_last _ (tried d c.give_back.result c.give_back.ensures.back ∙ c.in-Returned.is) in
    let changes : ChangesQueue it.live.function it.live.priority (with_job n) core.functions after =
    subst (λ (f : ℕ). ChangesQueue f it.live.priority (with_job n) core.functions after) c.f-f.ensures
    (subst (λ (p : Priority). ChangesQueue c.f-f.result p (with_job n) core.functions after) c.p-p.ensures c.push.ensures) in
    let moved =
    goes_moved {old = core} {new = record core { functions = after; jobs = more }} (with_note (Returned n))
    (record { config = refl; conns = refl; moment = refl; mode = refl; most = changes.most; names = changes.names; limits = changes.limits })
    (record { conns = λ p. refl; flow = λ p. refl; functions = λ p. refl; moment = λ p. refl; mode = λ p. refl })
    (λ p keeps.
    jobs_returned core.config core.functions core.jobs (conn_facts p.notes).is_open p.notes (function_facts p.notes) keeps.functions keeps.jobs n it.live it.at it.runs after more changes not_last (given d more c.give_back.ensures.changes)) in
    goes_as (give_back_one core.config c.args.slot n) (goes_then moved c.wake.ensures)
    (λ p keeps.
    let is = keeps.jobs.live n it.live it.at in
    let so = last_try_is core.config core.functions core.jobs (conn_facts p.notes).is_open p.notes (function_facts p.notes) keeps.functions keeps.jobs n it.live it.at ∙ not_last in
    let same : name_at after.names c.f-f.result ≡ name_at core.functions.names it.live.function = (λ i. name_at (changes.names i) (c.f-f.ensures i)) in
    let returned : wake core.config (name_at after.names c.f-f.result) (with_note (Returned n) p) ≡ return_or_lose core.config n p =
    (rw so (ap (λ (x : List ℕ). wake core.config x (with_note (Returned n) p)) same ∙ ap (λ (o : Option Job). wake_for core.config o (with_note (Returned n) p)) (sym is.job))) in
    returned ∙ given_back core p keeps c.args.slot n c.requires.runs it.live it.at (sym c.if-not-is_wanted.ensures))
