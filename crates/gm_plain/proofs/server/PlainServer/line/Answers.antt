use Rattle.std.proofs.Common.{◌≡◌, ℕ, true, Option, None, sym, ap, ◌∙◌}
use Rattle.gm_admin.specs.Commands.{command_of}
use Rattle.gm_notes.specs.Settings.{Settings}
use Rattle.gm_notes.specs.Notes.{takes_units}
use Rattle.gm_notes.specs.Jobs.{made}
use Rattle.gm_notes.specs.Lines.{command}
use Rattle.gm_notes.specs.Steps.{Line, made_since}
use Rattle.gm_notes.specs.Steps.{run}
use Rattle.gm_actions.proofs.Changing.{agrees_next, agrees_refused}
use Rattle.gm_plain.proofs.ServerLemmas.{units_taken}
use Rattle.gm_actions.proofs.JobsMade.{none_made}
use Rattle.gm_actions.proofs.JobsMade.{command_made}
use Rattle.gm_plain.proofs.server.PlainServer.line.Goals as goal
use Rattle.gm_plain.proofs.server.PlainServer.line.Goals.{Else-not-can_take_units}

takes : (c : Else-not-can_take_units) → takes_units c.args.slot c.args.self.now.log.notes ≡ true
takes c = sym c.can_take_units.ensures.value ∙ c.if-not-can_take_units.false

pub returns-in_err-command : goal.returns-in_err-command
returns-in_err-command c k steps agrees =
    let taken = units_taken c.args.self.now.log.notes c.args.slot (run k steps) agrees.past.notes_are (takes (goal.at-returns-in_err-command c).Else-not-can_take_units) in
    agrees_refused k steps (Line c.args.slot c.args.bytes.now) c.from_residual.result c.from_residual.ensures taken agrees c.in_err-command.ensures

pub returns : goal.returns
returns c k steps agrees =
    let past = run k steps in
    let taken = units_taken c.args.self.now.log.notes c.args.slot past agrees.past.notes_are (takes (goal.at-returns c).Else-not-can_take_units) in
    let none : made_since (made past.notes) (made (command k c.args.slot (command_of c.args.bytes.now) past).notes) ≡ None =
    ap (made_since (made past.notes)) (command_made k c.args.slot (command_of c.args.bytes.now) past) ∙ none_made (made past.notes) in (
      (taken, ap (λ (o : Option ℕ). record { opened = None; created = o }) (sym none)),
      agrees_next k steps (Line c.args.slot c.args.bytes.now) _ agrees c.in_ok-command.ensures taken
          (ap (λ (x : Settings). command x c.args.slot (command_of c.args.bytes.now) past) agrees.settings),
    )
