use Rattle.std.proofs.Common.{◌≡◌, ◌≢◌, length, codes, Err, refl, sym, ap, subst, ◌∙◌}
use Rattle.gm_notes.specs.declared.note.Note.TheVariants.{Can, Mention}
use Rattle.gm_notes.specs.Jobs.{waiting_for}
use Rattle.gm_notes.specs.Notes.{phase, is_asleep}
use Rattle.gm_notes.specs.Past.{with_note, refuse}
use Rattle.gm_queues.specs.FunctionTables.{number_of, IsFree}
use Rattle.gm_notes.specs.Workers.{can_do}
use Rattle.gm_core.proofs.MentionLemmas.{taken_back, number_here}
use Rattle.gm_core.proofs.FunctionLemmas.{anew, nothing_waits, too_many, not_yet_many, is_none_of, some_same}
use Rattle.gm_core.proofs.CoreLemmas.{goes_as, goes_then, goes_can, goes_mention, goes_back, goes_nothing, does_as, woken_not}
use Rattle.gm_core.proofs.server.Tables.can_do_new_function.Goals as goal

pub returns-in-Ok-can_do : goal.returns-in-Ok-can_do
returns-in-Ok-can_do c =
    let k = c.args.self.now.config in
    let name = c.args.function.now in
    let table = c.args.self.now.functions in
    let room : length table.names ≢ table.most = λ e. (let wrong = c.in-Ok.ensures.full.1 (is_none_of (number_of name table) c.requires.new, e) in cc) in
    let none = is_none_of (number_of name table) c.requires.new in
    let here : c.in-Ok.f ≡ length table.names = some_same c.in-Ok.f (length table.names) (sym c.in-Ok.ensures.found ∙ number_here table c.mention.new.self name c.requires.new (c.in-Ok.ensures.fresh none)) in
    let free = subst (λ f. IsFree f c.mention.new.self) here (c.in-Ok.ensures.free none) in
    goes_as (can_do k c.args.slot name c.args.timeout)
    (goes_then
    (goes_mention c.args.self.now c.mention.new.self name c.requires.new (c.in-Ok.ensures.fresh none) free room)
    (goes_can c.args.slot (record { config = refl; functions = refl; jobs = refl; moment = refl; mode = refl }) name c.in-Ok.f c.args.timeout c.in-Ok.ensures.found c.in-Ok-can_do.ensures.ok))
    (λ p keeps.
    let good = c.requires.named in
    let fresh = anew k table p.notes keeps.functions name c.requires.new in
    let few = not_yet_many k table p.notes keeps.functions name room in
    let nothing = nothing_waits p.notes name c.requires.new keeps.jobs in
    rw (good, few, fresh) (sym (woken_not c.args.slot (is_asleep (phase c.args.slot p.notes)) (waiting_for name p.notes) (with_note (Can c.args.slot name c.args.timeout) (with_note (Mention name) p)) nothing)))

pub returns-in-Err : goal.returns-in-Err
returns-in-Err c =
    goes_then
    (goes_back c.args.self.now c.unmention.new.self (taken_back c.args.self.now.functions c.mention.new.self c.unmention.new.self c.args.function.now (c.in-Ok.ensures.fresh (is_none_of (number_of c.args.function.now c.args.self.now.functions) c.requires.new)) c.unmention.ensures))
    (goes_nothing refl c.in-Err.ensures.err refl refl refl refl)

pub returns-in-Err-TooManyFunctions : goal.returns-in-Err-TooManyFunctions
returns-in-Err-TooManyFunctions c =
    let k = c.args.self.now.config in
    let name = c.args.function.now in
    let table = c.args.self.now.functions in
    does_as {f = refuse c.args.slot (codes "too_many_functions")} c.refuse.result (can_do k c.args.slot name c.args.timeout)
    (goes_then (goes_nothing refl refl c.in-Err-TooManyFunctions.ensures.err refl refl refl) c.refuse.ensures)
    (λ p keeps.
    let good = c.requires.named in
    let many = too_many k table p.notes keeps.functions name c.requires.new (c.in-Err-TooManyFunctions.ensures.full.0 (ap Err c.in-Err-TooManyFunctions.field-0-is)).1 in
    rw (good, many) refl)
