use Rattle.std.proofs.Common.{◌≡◌, false, refl, sym, ◌∙◌}
use Rattle.gm_notes.specs.Submissions.{is_bad_name}
use Rattle.gm_notes.specs.Workers.{cant_do}
use Rattle.gm_core.proofs.CoreLemmas.{goes_as, goes_cant, goes_cant_unknown}
use Rattle.gm_core.proofs.FunctionLemmas.{not_some}
use Rattle.gm_core.proofs.server.Tables.cant_do.Goals as goal

pub returns-in-Some : goal.returns-in-Some
returns-in-Some c =
    let good : is_bad_name c.args.function.now ≡ false = c.requires.named in
    goes_as (cant_do c.args.slot c.args.function.now)
    (goes_cant c.args.slot (record { config = refl; functions = refl; jobs = refl; moment = refl; mode = refl }) c.args.function.now c.in-Some.f (sym c.find.ensures.value ∙ c.in-Some.is) c.cant_do.ensures) (λ p keeps. rw good refl)

pub returns-in_default : goal.returns-in_default
returns-in_default c =
    let good : is_bad_name c.args.function.now ≡ false = c.requires.named in
    goes_as (cant_do c.args.slot c.args.function.now) (goes_cant_unknown c.args.self.now c.args.slot c.args.function.now (sym c.find.ensures.value ∙ not_some c.find.result c.in_default.not-Some)) (λ p keeps. rw good refl)
