use Rattle.std.proofs.Common.{◌≡◌, false, Some, None, ap, ◌∙◌}
use Rattle.gm_notes.specs.Jobs.{joined}
use Rattle.gm_notes.specs.Submissions.{is_bad_name, join_or_make, submit}
use Rattle.gm_actions.specs.Actions.{submission_of}
use Rattle.gm_plain.proofs.ServerLemmas.{does_as}
use Rattle.gm_plain.proofs.server.PlainServer.submit.Goals as goal

pub returns-in-Some : goal.returns-in-Some
returns-in-Some c =
    let s = submission_of c.args.asked.now in
    let good : is_bad_name c.args.asked.now.function.now ≡ false = c.requires.named in
    does_as c.join.result (submit c.args.self.now.config c.args.slot s) c.join.ensures
    (λ p keeps.
    let found : Some c.in-Some.job ≡ joined c.args.asked.now.function.now c.args.asked.now.unique.now p.notes =
    c.in-Some.ensures ∙ ap (joined c.args.asked.now.function.now c.args.asked.now.unique.now) keeps.notes_are in
    rw good (ap (λ o. join_or_make c.args.self.now.config c.args.slot s o p) found))

pub returns-in-None : goal.returns-in-None
returns-in-None c =
    let s = submission_of c.args.asked.now in
    let good : is_bad_name c.args.asked.now.function.now ≡ false = c.requires.named in
    does_as c.make_new.result (submit c.args.self.now.config c.args.slot s) c.make_new.ensures
    (λ p keeps.
    let found : None ≡ joined c.args.asked.now.function.now c.args.asked.now.unique.now p.notes =
    c.in-None.ensures ∙ ap (joined c.args.asked.now.function.now c.args.asked.now.unique.now) keeps.notes_are in
    rw good (ap (λ o. join_or_make c.args.self.now.config c.args.slot s o p) found))
