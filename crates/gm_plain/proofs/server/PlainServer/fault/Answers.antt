use Rattle.std.proofs.Common.{◌≡◌, ◌++◌, ℕ, List, true, Option, None, sym, ap, ◌∙◌}
use Rattle.gm_notes.specs.declared.note.Note.TheVariants.{Shut}
use Rattle.gm_notes.specs.Notes.{takes_units}
use Rattle.gm_notes.specs.Jobs.{made}
use Rattle.gm_notes.specs.Past.{with_note, with_output}
use Rattle.gm_notes.specs.Steps.{Fault}
use Rattle.gm_notes.specs.Steps.{run}
use Rattle.gm_notes.specs.Texts.{fault_text}
use Rattle.gm_actions.proofs.Changing.{agrees_next, agrees_refused}
use Rattle.gm_plain.proofs.ServerLemmas.{goes_then, units_taken}
use Rattle.gm_actions.proofs.JobsMade.{none_made}
use Rattle.gm_plain.proofs.server.PlainServer.fault.Goals as goal
use Rattle.gm_plain.proofs.server.PlainServer.fault.Goals.{Else-not-can_take_units}

takes : (c : Else-not-can_take_units) → takes_units c.args.slot c.args.self.now.log.notes ≡ true
takes c = sym c.can_take_units.ensures.value ∙ c.if-not-can_take_units.false

pub returns-in_err-make_room : goal.returns-in_err-make_room
returns-in_err-make_room c k steps agrees =
    let taken = units_taken c.args.self.now.log.notes c.args.slot (run k steps) agrees.past.notes_are (takes (goal.at-returns-in_err-make_room c).Else-not-can_take_units) in
    agrees_refused k steps (Fault c.args.slot c.args.fault) c.from_residual-in_err-make_room.result c.from_residual-in_err-make_room.ensures taken agrees c.make_room.ensures.goes

pub returns-in_err-say : goal.returns-in_err-say
returns-in_err-say c k steps agrees =
    let taken = units_taken c.args.self.now.log.notes c.args.slot (run k steps) agrees.past.notes_are (takes (goal.at-returns-in_err-say c).Else-not-can_take_units) in
    agrees_refused k steps (Fault c.args.slot c.args.fault) c.from_residual-in_err-say.result c.from_residual-in_err-say.ensures taken agrees
    (goes_then c.make_room.ensures.goes c.in_err-say.ensures.does)

pub returns : goal.returns
returns c k steps agrees =
    let taken = units_taken c.args.self.now.log.notes c.args.slot (run k steps) agrees.past.notes_are (takes (goal.at-returns c).Else-not-can_take_units) in
    let text : c.deref.result.now ≡ fault_text c.args.fault = c.deref.ensures.value ∙ (c.in_ok-append_fault.ensures.ok ∙ ap (λ (l : List ℕ). l ++ fault_text c.args.fault) c.new-text.ensures.items) in (
      (taken, ap (λ (o : Option ℕ). record { opened = None; created = o }) (sym (none_made (made (run k steps).notes)))),
      agrees_next k steps (Fault c.args.slot c.args.fault) _ agrees (goes_then (goes_then c.make_room.ensures.goes c.in_ok-say.ensures.does) c.note.ensures.goes) taken
          (ap (λ (l : List ℕ). with_note (Shut c.args.slot) (with_output c.args.slot l (run k steps))) text),
    )
