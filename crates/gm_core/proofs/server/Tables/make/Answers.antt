use Rattle.std.proofs.Common.{◌≡◌, ◌<◌, ◌^◌, ℕ, List, Option, Some, length, refl, sym, ap, subst, ◌∙◌}
use Rattle.gm_packet.specs.Answers.{answer_packet, job_created}
use Rattle.gm_notes.specs.Past.{with_output, wake}
use Rattle.gm_notes.specs.Submissions.{make}
use Rattle.gm_queues.specs.Queues.{with_job}
use Rattle.gm_queues.specs.FunctionTables.{ChangesQueue}
use Rattle.gm_jobs.specs.Live.{fresh, AreCarried}
use Rattle.gm_jobs.specs.Tables.{Makes, with_room}
use Rattle.gm_jobs.specs.Tables as jobs
use Rattle.gm_actions.specs.Actions.{submission_of}
use Rattle.gm_core.specs.Holds.{name_at, add_job, first_listener}
use Rattle.gm_core.proofs.CarriedLemmas.{texts_carried}
use Rattle.gm_core.proofs.FunctionLemmas.{known, number_is}
use Rattle.gm_core.proofs.CoreLemmas.{goes_as, goes_then, goes_nothing, goes_room, goes_queued}
use Rattle.gm_core.proofs.AddLemmas.{goes_roomed, goes_added, makes_none}
use Rattle.gm_core.proofs.server.Tables.make.Goals as goal
use Rattle.gm_core.proofs.server.Tables.make.Goals.{In_ok-job}

abbrev ready : (c : In_ok-job) → jobs.Table
ready c = with_room c.args.f (length c.args.asked.now.unique.now) (length c.keep-shared.result.1.now) c.args.self.now.jobs

roomed : (c : In_ok-job) → c.reserve.new.self ≡ ready c
roomed c = c.in_ok-job.ensures.ok ∙ ap (with_room c.args.f (length c.args.asked.now.unique.now) (length c.keep-shared.result.1.now)) c.reserve_listener.ensures

pub returns-in_err-handle-clause-none : goal.returns-in_err-handle-clause-none
returns-in_err-handle-clause-none c =
    makes_none c.from_residual-in_err-handle.result c.args.self.now _ _ _ _ _ refl (roomed (goal.at.returns-in_err-handle-clause-none c).In_ok-job) (λ g. goes_nothing refl refl refl refl refl refl)

pub returns-in_err-prepare-clause-none : goal.returns-in_err-prepare-clause-none
returns-in_err-prepare-clause-none c =
    makes_none c.from_residual-in_err-prepare.result c.args.self.now _ _ _ _ _ refl (roomed (goal.at.returns-in_err-prepare-clause-none c).In_ok-job) (λ g. goes_nothing refl c.in_err-prepare.ensures.err refl refl refl refl)

pub returns-in_err-reserve_one-clause-none : goal.returns-in_err-reserve_one-clause-none
returns-in_err-reserve_one-clause-none c =
    makes_none c.from_residual-in_err-reserve_one.result c.args.self.now _ _ _ _ _ c.in_err-reserve_one.ensures.err (roomed (goal.at.returns-in_err-reserve_one-clause-none c).In_ok-job)
    (λ g. goes_room c.args.slot (record { config = refl; functions = refl; jobs = refl; moment = refl; mode = refl }) c.prepare.new.text.cost c.in_ok-prepare.ensures.conns)

pub insert-number-requires-clause-carried : goal.insert-number-requires-clause-carried
insert-number-requires-clause-carried c =
    subst (λ (body : List ℕ). AreCarried c.args.asked.now.unique.now body) (sym c.keep-shared.ensures) (texts_carried c.args.asked.now.function.now c.args.asked.now.unique.now c.args.asked.now.body.bytes.now c.requires.carried)

pub returns-clause-makes : goal.returns-clause-makes
returns-clause-makes c =
    let old = c.args.self.now in
    let s = submission_of c.args.asked.now in
    let d = (goal.at.returns-clause-makes c).In_ok-job in
    let job : c.in_ok-job.job ≡ old.jobs.next = c.in_ok-job.ensures.number ∙ ap (λ (t : jobs.Table). t.next) c.reserve_listener.ensures in
    let fits = subst (λ (x : ℕ). x < 2 ^ 64) (c.insert-number.ensures.number ∙ ap (λ (t : jobs.Table). t.next) (roomed d)) c.insert-number.type_inv in
    let push = subst (λ (x : ℕ). ChangesQueue c.args.f s.priority (with_job x) c.reserve_one.new.self c.push.new.self) job c.push.ensures in
    let bodied = subst (λ (body : List ℕ). Makes (fresh c.args.f s.priority s.unique body s.background c.first_listener.result) c.reserve.new.self c.insert-number.new.self) c.keep-shared.ensures c.insert-number.ensures.makes in
    let heard = subst (λ (x : Option ℕ). Makes (fresh c.args.f s.priority s.unique s.body s.background x) c.reserve.new.self c.insert-number.new.self) c.first_listener.ensures bodied in
    let makes = subst (λ (t : jobs.Table). Makes (fresh c.args.f s.priority s.unique s.body s.background (first_listener s.background c.args.slot)) t c.insert-number.new.self) (roomed d) heard in
    let text = c.in_ok-prepare.ensures.text ∙ ap (λ (h : List ℕ). answer_packet (job_created h)) (c.deref.ensures.value ∙ c.in_ok-handle.ensures.value) in
    let name = ap (λ (l : List (List ℕ)). name_at l c.args.f) (c.push.ensures.names ∙ c.in_ok-reserve_one.ensures.ok.names) ∙ number_is s.function old.functions c.args.f c.requires.found in
    goes_as (make old.config c.args.slot s (Some c.in_ok-job.job))
    (goes_then
    (goes_then
    (goes_then (goes_roomed old (ready d) _ refl)
    (goes_added (record old { jobs = ready d }) c.reserve_one.new.self c.push.new.self c.insert-number.new.self c.args.slot s c.args.f c.requires.«open» c.requires.found fits c.in_ok-reserve_one.ensures.ok push makes))
    (goes_queued (record old { functions = c.push.new.self; jobs = c.insert-number.new.self }) c.prepare.new.conns c.put.new.conns c.put.new.self c.args.slot c.prepare.new.text.cost c.prepare.new.text.cost c.prepare.new.text.bytes
    c.in_ok-prepare.ensures.conns c.put.ensures.conns))
    c.wake.ensures)
    (λ p keeps.
    let there = known old.config old.functions p.notes keeps.functions s.function c.args.f c.requires.found in
    rw there (λ i. wake old.config (name i) (with_output c.args.slot (text i) (add_job c.args.slot s (sym job i) p))))
