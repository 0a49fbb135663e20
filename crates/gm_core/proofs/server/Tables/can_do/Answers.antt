use Rattle.std.proofs.Common.{◌≡◌, false, List, ℕ, Some, refl, sym, ap, ◌∙◌}
use Rattle.gm_notes.specs.declared.note.Note.TheVariants.{Can}
use Rattle.gm_notes.specs.Past.{with_note}
use Rattle.gm_notes.specs.Submissions.{is_bad_name}
use Rattle.gm_notes.specs.Workers.{can_do}
use Rattle.gm_queues.specs.FunctionTables.{number_of}
use Rattle.gm_core.specs.Holds.{wake_if_waiting}
use Rattle.gm_core.proofs.FunctionLemmas.{known, not_too_many, number_is}
use Rattle.gm_core.proofs.CoreLemmas.{goes_as, goes_then, goes_can}
use Rattle.gm_core.proofs.server.Tables.can_do.Goals as goal

pub returns-in_ok-can_do-in-Some : goal.returns-in_ok-can_do-in-Some
returns-in_ok-can_do-in-Some c =
    let k = c.args.self.now.config in
    let name = c.args.function.now in
    let table = c.args.self.now.functions in
    let good : is_bad_name name ≡ false = c.requires.named in
    let at : number_of name table ≡ Some c.in-Some.f = sym c.find.ensures.value ∙ c.in-Some.is in
    goes_as (can_do k c.args.slot name c.args.timeout) (goes_then (goes_can c.args.slot (record { config = refl; functions = refl; jobs = refl; moment = refl; mode = refl }) name c.in-Some.f c.args.timeout at c.in_ok-can_do-in-Some.ensures.ok) c.wake_at_once.ensures)
    (λ p keeps.
    let there = known k table p.notes keeps.functions name c.in-Some.f at in
    let few = not_too_many k table p.notes keeps.functions name c.in-Some.f at in
    rw (good, few, there) (ap (λ (f : List ℕ). wake_if_waiting c.args.slot f (with_note (Can c.args.slot name c.args.timeout) p)) (number_is name table c.in-Some.f at)))
