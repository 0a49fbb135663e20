use Rattle.std.proofs.Common.{◌≡◌, ◌≢◌, ℕ, List, true, false, length, Err, refl, sym, ap, ◌∙◌}
use Rattle.std.specs.Prelude.{IsNone}
use Rattle.gm_admin.specs.declared.fault.AdminError.TheVariants as errors
use Rattle.gm_queues.specs.FunctionTables.{number_of}
use Rattle.gm_notes.specs.declared.note.Note.TheVariants.{Limit}
use Rattle.gm_notes.specs.Past.{with_output, with_note, with_mention}
use Rattle.gm_notes.specs.Submissions.{is_one_too_many}
use Rattle.gm_notes.specs.Lines.{is_bad_word, maxqueue, refuse_line}
use Rattle.gm_core.proofs.CarriedLemmas.{name_written}
use Rattle.gm_core.proofs.CoreLemmas.{goes_then, goes_as, goes_nothing, goes_room, goes_printed, does_as}
use Rattle.gm_core.proofs.CommandLemmas.{goes_mentioned, goes_limit}
use Rattle.gm_core.proofs.FunctionLemmas.{few_enough, too_many, none_of}
use Rattle.gm_core.proofs.server.Tables.maxqueue.Goals as goal

pub mention-requires : goal.mention-requires
mention-requires c = name_written c.args.name.now c.requires.named

pub returns-in-Ok : goal.returns-in-Ok
returns-in-Ok c =
    let k = c.args.self.now.config in
    let slot = c.args.slot in
    let name = c.args.name.now in
    let before = record c.args.self.now { conns = c.reserve_out.new.self } in
    let ready = goes_room {old = c.args.self.now} {new = before} slot (record { config = refl; functions = refl; jobs = refl; moment = refl; mode = refl }) c.len.result c.in_ok-reserve_out.ensures.ok in
    let mentioned = record before { functions = c.mention.new.self } in
    let room : IsNone (number_of name before.functions) → length before.functions.names ≢ before.functions.most = λ none e. (let wrong = c.in-Ok.ensures.full.1 (none, e) in cc) in
    goes_as (maxqueue k slot name c.args.size)
    (goes_then
    (goes_then
    (goes_then ready
    (goes_mentioned before c.mention.new.self name c.in-Ok.f c.in-Ok.ensures.found
    (λ some. (c.in-Ok.ensures.known some).1) c.in-Ok.ensures.fresh c.in-Ok.ensures.free room))
    (goes_limit mentioned c.set_limit.new.self name c.in-Ok.f c.args.size c.in-Ok.ensures.found c.set_limit.ensures))
    (goes_printed {old = record before { functions = c.set_limit.new.self }} {new = record before { functions = c.set_limit.new.self; conns = c.put_out.new.self }} slot (record { config = refl; functions = refl; jobs = refl; moment = refl; mode = refl }) c.as_slice.result.now (length c.as_slice.result.now) c.put_out.ensures))
    (λ p keeps.
    let good : is_bad_word name ≡ false = c.requires.named in
    let few : is_one_too_many k name p.notes ≡ false =
    ap (λ s. is_one_too_many s name p.notes) (sym ready.config) ∙ few_enough before.config before.functions p.notes (ready.past p keeps).functions name room in
    rw (good, few) (ap (λ (l : List ℕ). with_output slot l (with_note (Limit name c.args.size) (with_mention name p))) (c.as_slice.ensures.value ∙ c.in_ok-text.ensures)))

pub returns-in-Err-TooManyFunctions : goal.returns-in-Err-TooManyFunctions
returns-in-Err-TooManyFunctions c =
    let k = c.args.self.now.config in
    let slot = c.args.slot in
    let name = c.args.name.now in
    let before = record c.args.self.now { conns = c.reserve_out.new.self } in
    let ready = goes_room {old = c.args.self.now} {new = before} slot (record { config = refl; functions = refl; jobs = refl; moment = refl; mode = refl }) c.len.result c.in_ok-reserve_out.ensures.ok in
    does_as {f = refuse_line slot errors.TooManyFunctions} c.refuse_line.result (maxqueue k slot name c.args.size)
    (goes_then ready (goes_then (goes_nothing refl refl c.in-Err-TooManyFunctions.ensures.err refl refl refl) c.refuse_line.ensures))
    (λ p keeps.
    let good : is_bad_word name ≡ false = c.requires.named in
    let full = c.in-Err-TooManyFunctions.ensures.full.0 (ap Err c.in-Err-TooManyFunctions.field-0-is) in
    let many : is_one_too_many k name p.notes ≡ true =
    ap (λ s. is_one_too_many s name p.notes) (sym ready.config) ∙ too_many before.config before.functions p.notes (ready.past p keeps).functions name (none_of _ full.0) full.1 in
    rw (good, many) refl)
