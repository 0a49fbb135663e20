use Rattle.std.proofs.Common.{◌≡◌, true, false, refl, sym, ap, ◌∙◌}
use Rattle.gm_notes.specs.Submissions.{is_bad_name, is_one_too_many}
use Rattle.gm_notes.specs.Workers.{can_do}
use Rattle.gm_plain.proofs.ServerLemmas.{does_as}
use Rattle.gm_plain.proofs.server.PlainServer.can_do.Goals as goal

pub returns-then-is_one_too_many : goal.returns-then-is_one_too_many
returns-then-is_one_too_many c =
    let good : is_bad_name c.args.function.now ≡ false = c.requires.named in
    does_as c.refuse.result (can_do c.args.self.now.config c.args.slot c.args.function.now c.args.timeout) c.refuse.ensures
    (λ p keeps.
    let test : is_one_too_many c.args.self.now.config c.args.function.now p.notes ≡ true =
    ap (is_one_too_many c.args.self.now.config c.args.function.now) (sym keeps.notes_are) ∙ (sym c.is_one_too_many.ensures ∙ c.if-is_one_too_many.true) in
    rw (good, test) refl)

pub returns : goal.returns
returns c =
    let good : is_bad_name c.args.function.now ≡ false = c.requires.named in
    does_as c.add_ability.result (can_do c.args.self.now.config c.args.slot c.args.function.now c.args.timeout) c.add_ability.ensures
    (λ p keeps.
    let test : is_one_too_many c.args.self.now.config c.args.function.now p.notes ≡ false =
    ap (is_one_too_many c.args.self.now.config c.args.function.now) (sym keeps.notes_are) ∙ (sym c.is_one_too_many.ensures ∙ c.if-is_one_too_many.false) in
    rw (good, test) refl)
