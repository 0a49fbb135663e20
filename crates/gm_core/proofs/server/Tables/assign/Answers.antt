use Rattle.std.proofs.Common.{◌≡◌, ℕ, [], Option, Some, None, IsSome, Bor, refl, sym, ap, ◌∙◌}
use Rattle.std.specs.Option.{option_copied}
use Rattle.gm_notes.specs.Workers.{assignment, give_out, wake_itself}
use Rattle.gm_packet.specs.Answers.{answer_packet}
use Rattle.gm_jobs.specs.Live.{Live}
use Rattle.gm_jobs.specs.Tables.{Table, job as job_of}
use Rattle.gm_core.specs.Facts.{conn_facts, function_facts}
use Rattle.gm_core.specs.Holds.{name_at, described}
use Rattle.gm_core.proofs.CoreLemmas.{goes_as, goes_then, goes_nothing, goes_queued}
use Rattle.gm_core.proofs.FunctionLemmas.{some_same}
use Rattle.gm_core.proofs.GrabLemmas.{given, told_first}
use Rattle.gm_core.proofs.server.Tables.assign.Goals as goal
use Rattle.std.proofs.lemmas.Option.{slice_get-get_or}

there : {A : Type 0} (o : Option (Bor A)) (x : A) → option_copied o ≡ Some x → IsSome o
there None x e = absurd cc
there (Some found) x e = refl

pub unwrap-job-requires : goal.unwrap-job-requires
unwrap-job-requires c =
    let old = c.args.self.now in
    let p = c.requires.kept.0 in
    let keeps = c.requires.kept.1 in
    let it = given old.config old.functions old.jobs (conn_facts p.notes).is_open p.notes (function_facts p.notes) keeps.functions keeps.jobs c.args.found.function c.args.found.pick.job c.requires.within c.requires.first in
    there c.by_number.result it.live (c.by_number.ensures ∙ ap (λ (t : Table). job_of t c.args.found.pick.job) c.reserve_run.ensures ∙ it.at)

pub returns : goal.returns
returns c =
    let old = c.args.self.now in
    let n = c.args.found.pick.job in
    let job = c.unwrap-job.result.now in
    goes_as (λ past. give_out old.config c.args.slot c.args.with_unique (Some (c.args.found.pick)) (wake_itself c.args.slot past))
    (goes_then
    (goes_then
    (goes_then (goes_nothing {a = old} {b = record old { jobs = c.reserve_run.new.self }} refl refl refl c.reserve_run.ensures refl refl)
    (goes_queued (record old { jobs = c.reserve_run.new.self }) c.prepare.new.conns c.put.new.conns c.put.new.self c.args.slot c.prepare.new.text.cost c.prepare.new.text.cost c.prepare.new.text.bytes
    c.in_ok-prepare.ensures.conns c.put.ensures.conns))
    c.wake_itself.ensures.goes) c.give_out.ensures)
    (λ p keeps.
    let it = given old.config old.functions old.jobs (conn_facts p.notes).is_open p.notes (function_facts p.notes) keeps.functions keeps.jobs c.args.found.function n c.requires.within c.requires.first in
    let job_is = keeps.jobs.live n it.live it.at in
    let is : job ≡ it.live = some_same job it.live (sym (ap option_copied c.unwrap-job.ensures) ∙ c.by_number.ensures ∙ ap (λ (t : Table). job_of t n) c.reserve_run.ensures ∙ it.at) in
    let function : c.name.result.now ≡ name_at old.functions.names it.live.function =
    sym (some_same (name_at old.functions.names c.args.found.function) c.name.result.now (sym (slice_get-get_or old.functions.names c.args.found.function [] c.requires.within) ∙ c.name.ensures.value))
    ∙ ap (λ (g : ℕ). name_at old.functions.names g) (sym it.function) in
    let priority = c.p.ensures ∙ ap (λ (l : Live). l.priority) is in
    let unique = c.unique.ensures.value ∙ ap (λ (l : Live). l.unique) is in
    let body = c.body.ensures ∙ ap (λ (l : Live). l.body) is in
    told_first old.config c.args.slot c.args.with_unique n c.args.found.pick.timeout c.wake_itself.new.self.moment c.prepare.new.text.bytes (described old.functions.names it.live) p
    (c.wake_itself.ensures.moment ∙ keeps.moment) job_is.job
    (c.in_ok-prepare.ensures.text
    ∙ (ap answer_packet (c.assignment-response.ensures.value old.config n (c.deref.ensures.value ∙ c.in_ok-handle.ensures.value))
    ∙ (λ i. answer_packet (assignment old.config c.args.with_unique n (record { function = function i; priority = priority i; unique = unique i; body = body i }))))))
