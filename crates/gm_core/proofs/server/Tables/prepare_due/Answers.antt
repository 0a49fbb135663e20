use Rattle.std.proofs.Common.{◌≡◌, ◌+◌, ◌≤◌, ◌++◌, ◌∷◌, [], ℕ, List, false, filter, append-nil, refl, sym, subst, ◌∙◌}
use Rattle.gm_packet.specs.Answers.{answer_packet, work_fail}
use Rattle.gm_notes.specs.Jobs.{handle}
use Rattle.gm_conns.specs.ConnTables.{conn}
use Rattle.gm_jobs.specs.Live.{is_due}
use Rattle.gm_jobs.specs.Tables.{Table, IsNext, IsLast, job as job_of, listeners_of}
use Rattle.gm_core.specs.Telling.{hears, needed}
use Rattle.gm_core.specs.Ticks.{AreLate, late_bytes}
use Rattle.gm_core.specs.Writing.{copied_text}
use Rattle.gm_core.specs.declared.server.ticking.Late.{Late}
use Rattle.gm_core.proofs.CoreLemmas.{goes_then, goes_nothing}
use Rattle.gm_core.proofs.TickLemmas.{late_next, room_next}
use Rattle.gm_core.proofs.server.Tables.prepare_due.Goals as goal

pub loop-job-preserved : goal.loop-job-preserved
loop-job-preserved c =
    let k = c.args.self.now.config in
    let now = c.args.now in
    let jobs = c.args.self.now.jobs in
    let self = c.loop-job.self in
    let late = c.in_ok-late.late in
    let lates = c.loop-job.lates.items in
    let new = c.prepare_late.new.self in
    let said = c.in_ok-late.ensures in
    let kept : c.due.new.self ≡ jobs = c.in-Some.ensures.kept ∙ c.loop-job.invariant.jobs in
    let all : c.push_back.new.self.items ≡ lates ++ late ∷ [] = c.in_ok-push_back.ensures.items in
    let next : IsNext (is_due now) c.loop-job.after jobs.live late.job =
    subst (IsNext (is_due now) c.loop-job.after jobs.live) (sym said.job) (subst (λ (t : Table). IsNext (is_due now) c.loop-job.after t.live c.in-Some.job) c.loop-job.invariant.jobs c.in-Some.ensures.next) in
    let text : late.text ≡ copied_text (answer_packet (work_fail (handle k late.job))) =
    said.text ∙ (λ i. copied_text (answer_packet (work_fail (handle (c.loop-job.invariant.goes.config i) (sym said.job i))))) in
    record {
      goes = goes_then (goes_then c.loop-job.invariant.goes (goes_nothing refl refl refl c.in-Some.ensures.kept refl refl)) said.goes;
      jobs = said.jobs ∙ kept;
      moment = said.moment ∙ c.loop-job.invariant.moment;
      late = subst (λ (n : ℕ). (rest : List Late) → AreLate k now jobs.live n rest → AreLate k now jobs.live 0 (c.push_back.new.self.items ++ rest)) said.job
          (subst (λ (l : List Late). (rest : List Late) → AreLate k now jobs.live late.job rest → AreLate k now jobs.live 0 (l ++ rest)) (sym all)
          (late_next k now jobs self.conns new.conns lates c.loop-job.after late next text c.loop-job.invariant.late));
      room = subst (λ (l : List Late). (d : ℕ) → late_bytes (hears new.conns false) jobs d l ≤ (conn new.conns d).room) (sym all)
          (room_next k now jobs self.conns new.conns lates c.loop-job.after late next said.roomed c.loop-job.invariant.room
          (subst (λ (t : Table). (d : ℕ) → (conn self.conns d).room + needed late.text.cost d (filter (hears self.conns false) (listeners_of (job_of t late.job))) ≤ (conn new.conns d).room) kept
          (subst (λ (n : ℕ). (d : ℕ) → (conn self.conns d).room + needed late.text.cost d (filter (hears self.conns false) (listeners_of (job_of c.due.new.self n))) ≤ (conn new.conns d).room) (sym said.job) said.room)));
    }

pub returns-clause-late : goal.returns-clause-late
returns-clause-late c =
    subst (AreLate c.args.self.now.config c.args.now c.args.self.now.jobs.live 0) (append-nil c.loop-job.lates.items)
    (c.loop-job.invariant.late [] (subst (λ (t : Table). IsLast (is_due c.args.now) c.loop-job.after t.live) c.loop-job.invariant.jobs c.in_default.ensures.last))

pub returns-in_err-push_back-clause-goes : goal.returns-in_err-push_back-clause-goes
returns-in_err-push_back-clause-goes c =
    goes_then (goes_then c.loop-job.invariant.goes (goes_nothing refl refl refl c.in-Some.ensures.kept refl refl)) c.in_ok-late.ensures.goes
