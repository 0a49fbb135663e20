use Rattle.std.proofs.Common.{◌≡◌, ◌≤◌, ◌&&◌, ℕ, Bool, false, List, Some, None, Ok, codes, filter, refl, sym, ap, subst, ◌∙◌}
use Rattle.std.specs.Option.{option_map}
use Rattle.std.specs.Borrow.{Bor}
use Rattle.std.proofs.lemmas.Bool.{and_right}
use Rattle.gm_packet.specs.Answers.{answer_of}
use Rattle.gm_notes.specs.Settings.{Settings}
use Rattle.gm_notes.specs.Jobs.{job_of_handle, listeners}
use Rattle.gm_notes.specs.Past.{Past, refuse, tell_all}
use Rattle.gm_notes.specs.Workers.{hearers, keep_report, tell_work, work}
use Rattle.gm_conns.specs.ConnTables as conns
use Rattle.gm_jobs.specs.Live.{reported}
use Rattle.gm_jobs.specs.Tables as jobs
use Rattle.gm_jobs.specs.Tables.{job, listeners_of}
use Rattle.gm_actions.specs.declared.actions.Report.{Report}
use Rattle.gm_actions.specs.Actions.{option_report, work_of}
use Rattle.gm_core.specs.declared.server.Tables.{Tables}
use Rattle.gm_core.specs.Facts.{ConnFacts}
use Rattle.gm_core.specs.Holds.{AllTouched, Goes, HoldsConns}
use Rattle.gm_core.specs.Telling.{IsRunning, hears, needed, poured}
use Rattle.gm_core.specs.Writing.{Text}
use Rattle.gm_core.proofs.CoreLemmas.{does_as, does_not, goes_as, goes_nothing, goes_then, kept_then}
use Rattle.gm_core.proofs.WorkLemmas.{does_report, goes_with_room, reported_listeners, reported_runs, ends_itself, told_after, told_each, works_there, works_nowhere}
use Rattle.gm_core.proofs.server.Tables.work.Goals as goal
use Rattle.gm_core.proofs.server.Tables.work.Goals.{In_ok-prepare_each, in-None, in-Some-report+in_ok-report-in-Some-report}
use Rattle.gm_core.proofs.server.Tables.work.Goals.{else-packet-via-then-packet+else-ends_job, else-packet-via-else-packet}

-- what is written, with room for it, and how it is then told
abbrev ready : In_ok-prepare_each → Tables
ready c = record c.args.self.now { conns = c.prepare_each.new.conns; text = c.prepare_each.new.text }

abbrev telling : In_ok-prepare_each → Past → Past
telling c p =
    let kept = keep_report c.in-Some.job (option_report c.args.packet.now.report) p in
    tell_all (answer_of c.args.packet.now.response) (hearers c.args.packet.now.exceptions_only (listeners c.in-Some.job kept.notes) kept.notes) kept

abbrev Pours : In_ok-prepare_each → List ℕ → conns.Table → Type 0
Pours c slots told =
    (k : Settings) (names : List (List ℕ)) (facts : ConnFacts) (bytes : ℕ → List ℕ) → HoldsConns k c.prepare_each.new.conns names facts bytes
    → HoldsConns k told names facts (poured c.prepare_each.new.text.bytes (filter (hears c.prepare_each.new.conns c.args.packet.now.exceptions_only) slots) bytes)

roomed : (c : In_ok-prepare_each) → Goes c.args.self.now (ready c) (λ p. p)
roomed c = goes_with_room {old = c.args.self.now} {new = ready c} (record { config = refl; functions = refl; jobs = refl; moment = refl; mode = refl }) c.in_ok-prepare_each.ensures.roomed

-- without numbers
plain : (c : In_ok-prepare_each) (told : conns.Table) (text : Text) → c.args.packet.now.report ≡ None → AllTouched c.prepare_each.new.conns told → Pours c c.in-Some.slots.now told
    → Goes c.args.self.now (record (ready c) { conns = told; text = text }) (telling c)
plain c told text none touched pours =
    let n = c.in-Some.job in
    goes_as (telling c)
    (goes_then (roomed c) (told_each (ready c) told text n c.args.packet.now.exceptions_only c.in-Some.slots.now c.in-Some.ensures.runs c.in-Some.ensures.listeners touched pours
    (answer_of c.args.packet.now.response) c.in_ok-prepare_each.ensures.text))
    (λ p keeps. ap (λ r. let kept = keep_report n (option_report r) p in tell_all (answer_of c.args.packet.now.response) (hearers c.args.packet.now.exceptions_only (listeners n kept.notes) kept.notes) kept) (sym none))

-- with numbers, which are kept first
numbered : (c : In_ok-prepare_each) (report : Report) (table : jobs.Table) (slots : List ℕ) (told : conns.Table) (text : Text) → c.args.packet.now.report ≡ Some report
    → jobs.Changes c.in-Some.job (reported report.numerator.now report.denominator.now) c.args.self.now.jobs table → slots ≡ listeners_of (job table c.in-Some.job)
    → AllTouched c.prepare_each.new.conns told → Pours c slots told
    → Goes c.args.self.now (record (ready c) { jobs = table; conns = told; text = text }) (telling c)
numbered c report table slots told text some changes listening touched pours =
    let n = c.in-Some.job in
    let a = report.numerator.now in
    let b = report.denominator.now in
    let known = record (ready c) { jobs = table } in
    let runs = reported_runs c.args.self.now.jobs table n a b (Ok tt) changes tt c.in-Some.ensures.runs in
    goes_as (telling c)
    (goes_then (goes_then (roomed c) (does_report (ready c) table n a b (Ok tt) changes tt))
    (told_each known told text n c.args.packet.now.exceptions_only slots runs listening touched pours (answer_of c.args.packet.now.response) c.in_ok-prepare_each.ensures.text))
    (λ p keeps. ap (λ r. let kept = keep_report n (option_report r) p in tell_all (answer_of c.args.packet.now.response) (hearers c.args.packet.now.exceptions_only (listeners n kept.notes) kept.notes) kept) (sym some))

pub returns-in_default-clause-does : goal.returns-in_default-clause-does
returns-in_default-clause-does c =
    let old = c.args.self.now in
    let none = ap (option_map (λ (found : ℕ × Bor (List ℕ)). found.0)) (sym c.in_default.is) in
    does_as {f = refuse c.args.slot (codes "job_not_found")} c.refuse.result (work old.config c.args.slot c.args.packet.now.handle.now (work_of c.args.self.now.config c.args.packet.now)) c.refuse.ensures
    (λ p keeps. works_nowhere old.config c.args.slot (work_of c.args.self.now.config c.args.packet.now) (job_of_handle old.config c.args.packet.now.handle.now p.notes) p (none ∙ c.running_at.ensures.value old.functions _ p keeps.jobs))

pub returns-then-ends_job-clause-does : goal.returns-then-ends_job-clause-does
returns-then-ends_job-clause-does c =
    let old = c.args.self.now in
    let w = work_of old.config c.args.packet.now in
    let n = c.in-Some.job in
    let some = ap (option_map (λ (found : ℕ × Bor (List ℕ)). found.0)) (sym c.in-Some.is) in
    does_as {f = tell_work old.config w n} c.except.result (work old.config c.args.slot c.args.packet.now.handle.now w) c.except.ensures.does
    (λ p keeps. works_there old.config c.args.slot w n (job_of_handle old.config c.args.packet.now.handle.now p.notes) p (some ∙ c.running_at.ensures.value old.functions _ p keeps.jobs))

pub end_if-requires-clause-runs : goal.end_if-requires-clause-runs
end_if-requires-clause-runs c =
    let old = c.args.self.now in
    let n = c.in-Some.job in
    elim c.match-packet.branch [
      | in-None w ↦ subst (λ (new : Tables). IsRunning (job new.jobs n)) (sym w.self-is) c.in-Some.ensures.runs
      | in-Some-report+in_ok-report-in-Some-report w ↦
          subst (λ (new : Tables). IsRunning (job new.jobs n)) (sym w.self-is)
          (reported_runs old.jobs w.report.new.self n w.in-Some-report.report.numerator.now w.in-Some-report.report.denominator.now (Ok tt) w.in_ok-report-in-Some-report.ensures.ok tt c.in-Some.ensures.runs)
    ]

pub returns-in_err-prepare_each-clause-does : goal.returns-in_err-prepare_each-clause-does
returns-in_err-prepare_each-clause-does c =
    let old = c.args.self.now in
    does_not c.from_residual.result (work old.config c.args.slot c.args.packet.now.handle.now (work_of c.args.self.now.config c.args.packet.now)) c.from_residual.ensures
    (goes_with_room {old = old} {new = record old { conns = c.prepare_each.new.conns; text = c.prepare_each.new.text }}
    (record { config = refl; functions = refl; jobs = refl; moment = refl; mode = refl }) c.in_err-prepare_each.ensures.roomed)

pub returns-in_err-report-in-Some-report-clause-does : goal.returns-in_err-report-in-Some-report-clause-does
returns-in_err-report-in-Some-report-clause-does c =
    let old = c.args.self.now in
    let ready = ready (goal.at.returns-in_err-report-in-Some-report-clause-does c).In_ok-prepare_each in
    does_not c.from_residual-in_err-report-in-Some-report.result (work old.config c.args.slot c.args.packet.now.handle.now (work_of c.args.self.now.config c.args.packet.now)) c.from_residual-in_err-report-in-Some-report.ensures
    (goes_then (roomed (goal.at.returns-in_err-report-in-Some-report-clause-does c).In_ok-prepare_each)
    (goes_nothing {a = ready} {b = record ready { jobs = c.report.new.self }} refl refl refl c.in_err-report-in-Some-report.ensures.err refl refl))

pub put_each-requires-in-Some-report-clause-room : goal.put_each-requires-in-Some-report-clause-room
put_each-requires-in-Some-report-clause-room c =
    let n = c.in-Some.job in
    let same = c.in-Some.ensures.listeners
    ∙ sym (reported_listeners c.args.self.now.jobs c.report.new.self n c.in-Some-report.report.numerator.now c.in-Some-report.report.denominator.now c.report.result c.report.ensures.ok c.report.ensures.err)
    ∙ sym c.listeners-slots.ensures in
    subst (λ (slots : List ℕ). (d : ℕ) → needed c.prepare_each.new.text.cost d (filter (hears c.prepare_each.new.conns c.args.packet.now.exceptions_only) slots) ≤ (conns.conn c.prepare_each.new.conns d).room)
    same c.in_ok-prepare_each.ensures.room

pub end_if-requires-clause-kept : goal.end_if-requires-clause-kept
end_if-requires-clause-kept c =
    let ready = (goal.at.end_if-requires-clause-kept c).In_ok-prepare_each in
    let told : Goes c.args.self.now c.match-packet.self (telling ready) = elim c.match-packet.branch [
      | in-None w ↦
          subst (λ (new : Tables). Goes c.args.self.now new (telling ready)) (sym w.self-is)
          (plain ready w.put_each.new.conns w.put_each.new.text w.in-None.is w.put_each.ensures.poured.touched w.put_each.ensures.holds)
      | in-Some-report+in_ok-report-in-Some-report w ↦
          subst (λ (new : Tables). Goes c.args.self.now new (telling ready)) (sym w.self-is)
          (numbered ready w.in-Some-report.report w.report.new.self w.listeners-slots.result.now w.put_each-in-Some-report.new.conns w.put_each-in-Some-report.new.text w.in-Some-report.is
          w.in_ok-report-in-Some-report.ensures.ok w.listeners-slots.ensures w.put_each-in-Some-report.ensures.poured.touched w.put_each-in-Some-report.ensures.holds)
    ] in
    kept_then told c.requires.kept

pub returns-clause-does : goal.returns-clause-does
returns-clause-does c =
    let old = c.args.self.now in
    let packet = c.args.packet.now in
    let n = c.in-Some.job in
    let some = ap (option_map (λ (found : ℕ × Bor (List ℕ)). found.0)) (sym c.in-Some.is) in
    let ready = (goal.at.returns-clause-does c).In_ok-prepare_each in
    let told : Goes c.args.self.now c.match-packet.self (telling ready) = elim c.match-packet.branch [
      | in-None w ↦
          subst (λ (new : Tables). Goes c.args.self.now new (telling ready)) (sym w.self-is)
          (plain ready w.put_each.new.conns w.put_each.new.text w.in-None.is w.put_each.ensures.poured.touched w.put_each.ensures.holds)
      | in-Some-report+in_ok-report-in-Some-report w ↦
          subst (λ (new : Tables). Goes c.args.self.now new (telling ready)) (sym w.self-is)
          (numbered ready w.in-Some-report.report w.report.new.self w.listeners-slots.result.now w.put_each-in-Some-report.new.conns w.put_each-in-Some-report.new.text w.in-Some-report.is
          w.in_ok-report-in-Some-report.ensures.ok w.listeners-slots.ensures w.put_each-in-Some-report.ensures.poured.touched w.put_each-in-Some-report.ensures.holds)
    ] in
    goes_as (work old.config c.args.slot c.args.packet.now.handle.now (work_of old.config packet)) (goes_then told c.end_if.ensures.goes)
    (λ p keeps.
    let alone : (packet.exceptions_only && (work_of old.config packet).ends) ≡ false = elim c.else-packet.branch [
      | else-packet-via-then-packet+else-ends_job w ↦ and_right packet.exceptions_only (work_of old.config packet).ends (sym w.ends_job.ensures ∙ w.if-ends_job.false)
      | else-packet-via-else-packet w ↦ ap (λ (t : Bool). t && (work_of old.config packet).ends) w.if-packet.false
    ] in
    told_after old.config (work_of old.config packet) packet.ends n p alone (ends_itself packet.ends packet.exceptions_only old.config.as_gearmand alone)
    ∙ works_there old.config c.args.slot (work_of old.config packet) n (job_of_handle old.config c.args.packet.now.handle.now p.notes) p (some ∙ c.running_at.ensures.value old.functions _ p keeps.jobs))
