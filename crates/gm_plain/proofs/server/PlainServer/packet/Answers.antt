use Rattle.std.proofs.Common.{◌≡◌, true, sym, ◌∙◌}
use Rattle.gm_notes.specs.Notes.{takes_units}
use Rattle.gm_notes.specs.Steps.{Packet}
use Rattle.gm_notes.specs.Steps.{run}
use Rattle.gm_actions.proofs.Changing.{agrees_refused}
use Rattle.gm_plain.proofs.ServerLemmas.{units_taken}
use Rattle.gm_plain.proofs.server.PlainServer.packet.Goals as goal
use Rattle.gm_plain.proofs.server.PlainServer.packet.Goals.{Else-not-can_take_units}

takes : (c : Else-not-can_take_units) → takes_units c.args.slot c.args.self.now.log.notes ≡ true
takes c = sym c.can_take_units.ensures.value ∙ c.if-not-can_take_units.false

pub returns-in_err-read : goal.returns-in_err-read
returns-in_err-read c k steps agrees =
    let taken = units_taken c.args.self.now.log.notes c.args.slot (run k steps) agrees.past.notes_are (takes (goal.at-returns-in_err-read c).Else-not-can_take_units) in
    agrees_refused k steps (Packet c.args.slot c.args.kind c.args.bytes.now) c.from_residual.result c.from_residual.ensures taken agrees c.in_err-read.ensures
