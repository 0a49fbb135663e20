use Rattle.std.proofs.Common.{◌≡◌, true, false, Some, None, refl, sym, ap, ◌∙◌}
use Rattle.gm_notes.specs.Jobs.{next_number}
use Rattle.gm_notes.specs.Submissions.{make, is_one_too_many, is_full, join_or_make}
use Rattle.gm_actions.specs.Actions.{submission_of}
use Rattle.gm_plain.proofs.ServerLemmas.{does_as}
use Rattle.gm_plain.proofs.server.PlainServer.make_new.Goals as goal

pub returns-then-is_one_too_many : goal.returns-then-is_one_too_many
returns-then-is_one_too_many c =
    does_as c.refuse.result (join_or_make c.args.self.now.config c.args.slot (submission_of c.args.asked.now) None) c.refuse.ensures
    (λ p keeps.
    let test : is_one_too_many c.args.self.now.config c.args.asked.now.function.now p.notes ≡ true =
    ap (is_one_too_many c.args.self.now.config c.args.asked.now.function.now) (sym keeps.notes_are) ∙ (sym c.is_one_too_many.ensures ∙ c.if-is_one_too_many.true) in
    rw test refl)

pub returns-then-is_full : goal.returns-then-is_full
returns-then-is_full c =
    does_as c.refuse-then-is_full.result (join_or_make c.args.self.now.config c.args.slot (submission_of c.args.asked.now) None) c.refuse-then-is_full.ensures
    (λ p keeps.
    let test : is_one_too_many c.args.self.now.config c.args.asked.now.function.now p.notes ≡ false =
    ap (is_one_too_many c.args.self.now.config c.args.asked.now.function.now) (sym keeps.notes_are) ∙ (sym c.is_one_too_many.ensures ∙ c.if-is_one_too_many.false) in
    let full : is_full c.args.asked.now.function.now p.notes ≡ true =
    ap (is_full c.args.asked.now.function.now) (sym keeps.notes_are) ∙ (sym c.is_full.ensures ∙ c.if-is_full.true) in
    rw (test, full) refl)

pub returns-in-Some : goal.returns-in-Some
returns-in-Some c =
    does_as c.make.result (join_or_make c.args.self.now.config c.args.slot (submission_of c.args.asked.now) None) c.make.ensures
    (λ p keeps.
    let test : is_one_too_many c.args.self.now.config c.args.asked.now.function.now p.notes ≡ false =
    ap (is_one_too_many c.args.self.now.config c.args.asked.now.function.now) (sym keeps.notes_are) ∙ (sym c.is_one_too_many.ensures ∙ c.if-is_one_too_many.false) in
    let full : is_full c.args.asked.now.function.now p.notes ≡ false =
    ap (is_full c.args.asked.now.function.now) (sym keeps.notes_are) ∙ (sym c.is_full.ensures ∙ c.if-is_full.false) in
    let number : Some c.in-Some.job ≡ next_number c.args.self.now.config p.notes =
    c.in-Some.ensures ∙ ap (next_number c.args.self.now.config) keeps.notes_are in
    rw (test, full) (ap (λ o. make c.args.self.now.config c.args.slot (submission_of c.args.asked.now) o p) number))

pub returns-in-None : goal.returns-in-None
returns-in-None c =
    does_as c.refuse-in-None.result (join_or_make c.args.self.now.config c.args.slot (submission_of c.args.asked.now) None) c.refuse-in-None.ensures
    (λ p keeps.
    let test : is_one_too_many c.args.self.now.config c.args.asked.now.function.now p.notes ≡ false =
    ap (is_one_too_many c.args.self.now.config c.args.asked.now.function.now) (sym keeps.notes_are) ∙ (sym c.is_one_too_many.ensures ∙ c.if-is_one_too_many.false) in
    let full : is_full c.args.asked.now.function.now p.notes ≡ false =
    ap (is_full c.args.asked.now.function.now) (sym keeps.notes_are) ∙ (sym c.is_full.ensures ∙ c.if-is_full.false) in
    let number : None ≡ next_number c.args.self.now.config p.notes =
    c.in-None.ensures ∙ ap (next_number c.args.self.now.config) keeps.notes_are in
    rw (test, full) (ap (λ o. make c.args.self.now.config c.args.slot (submission_of c.args.asked.now) o p) number))
