use Rattle.std.proofs.Common.{◌≡◌, ℕ, Option, None, sym, ap, ◌∙◌}
use Rattle.gm_admin.specs.Commands.{command_of}
use Rattle.gm_notes.specs.Settings.{Settings}
use Rattle.gm_notes.specs.Jobs.{made}
use Rattle.gm_notes.specs.Lines.{command}
use Rattle.gm_notes.specs.Steps.{Line, refusal, run, made_since, unless_not_open}
use Rattle.gm_actions.proofs.Changing.{agrees_next, agrees_refused}
use Rattle.gm_actions.proofs.JobsMade.{none_made}
use Rattle.gm_actions.proofs.JobsMade.{command_made}
use Rattle.gm_core.proofs.server.Tables.line.Goals as goal

pub returns-in_err-command-clause-answers : goal.returns-in_err-command-clause-answers
returns-in_err-command-clause-answers c k steps agrees =
    let taken : refusal k (Line c.args.slot c.args.bytes.now) (run k steps) ≡ None =
    ap unless_not_open (sym (c.can_take_units.ensures.value (run k steps) agrees.past) ∙ c.if-not-can_take_units.false) in
    agrees_refused k steps (Line c.args.slot c.args.bytes.now) c.from_residual.result c.from_residual.ensures taken agrees c.in_err-command.ensures

pub returns-clause-answers : goal.returns-clause-answers
returns-clause-answers c k steps agrees =
    let past = run k steps in
    let taken : refusal k (Line c.args.slot c.args.bytes.now) (run k steps) ≡ None =
    ap unless_not_open (sym (c.can_take_units.ensures.value (run k steps) agrees.past) ∙ c.if-not-can_take_units.false) in
    let none : made_since (made past.notes) (made (command k c.args.slot (command_of c.args.bytes.now) past).notes) ≡ None =
    ap (made_since (made past.notes)) (command_made k c.args.slot (command_of c.args.bytes.now) past) ∙ none_made (made past.notes) in (
      (taken, ap (λ (o : Option ℕ). record { opened = None; created = o }) (sym none)),
      agrees_next k steps (Line c.args.slot c.args.bytes.now) _ agrees c.in_ok-command.ensures taken
          (ap (λ (x : Settings). command x c.args.slot (command_of c.args.bytes.now) past) agrees.settings),
    )
