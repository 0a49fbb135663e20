use Rattle.std.proofs.Common.{◌≡◌, Option, Some, None, sym, ap, ◌∙◌}
use Rattle.gm_packet.specs.Answers.{no_job}
use Rattle.gm_notes.specs.Jobs.{pick}
use Rattle.gm_notes.specs.declared.states.Pick.{Pick}
use Rattle.gm_notes.specs.Workers.{wake_itself, give_out, grab}
use Rattle.gm_plain.proofs.ServerLemmas.{does_not, does_as, goes_then, goes_as, woken_given}
use Rattle.gm_plain.proofs.server.PlainServer.grab.Goals as goal

pub returns-in_err-give-in-None : goal.returns-in_err-give-in-None
returns-in_err-give-in-None c =
    does_not _ _ c.from_residual-in_err-give-in-None.ensures
    c.in_err-give-in-None.ensures.does

pub returns-in-Some : goal.returns-in-Some
returns-in-Some c =
    does_as c.assign.result (grab c.args.self.now.config c.args.slot c.args.with_unique) c.assign.ensures
    (λ p keeps.
    let found : Some c.in-Some.found ≡ pick c.args.self.now.config c.args.slot p.notes =
    sym c.in-Some.is ∙ (c.in_ok-found.ensures.value ∙ ap (pick c.args.self.now.config c.args.slot) keeps.notes_are) in
    ap (λ (o : Option Pick). give_out c.args.self.now.config c.args.slot c.args.with_unique o (wake_itself c.args.slot p)) found)

pub returns-in_ok-give-in-None : goal.returns-in_ok-give-in-None
returns-in_ok-give-in-None c =
    goes_as (goes_then c.in_ok-give-in-None.ensures.does c.wake_itself.ensures.goes)
    (λ p keeps.
    let found : (let o : Option Pick = None in o) ≡ pick c.args.self.now.config c.args.slot p.notes =
    sym c.in-None.is ∙ (c.in_ok-found.ensures.value ∙ ap (pick c.args.self.now.config c.args.slot) keeps.notes_are) in
    woken_given c.args.slot no_job p ∙ ap (λ (o : Option Pick). give_out c.args.self.now.config c.args.slot c.args.with_unique o (wake_itself c.args.slot p)) found)
