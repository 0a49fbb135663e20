use Rattle.std.proofs.Common.{true}
use Rattle.gm_admin.specs.Answers.{ok_text}
use Rattle.gm_notes.specs.Notes.{mode}
use Rattle.gm_notes.specs.Lines.{shutdown}
use Rattle.gm_core.proofs.CoreLemmas.{goes_then, goes_as}
use Rattle.gm_core.proofs.CommandLemmas.{turned_told}
use Rattle.gm_core.proofs.server.Tables.go_gracefully.Goals as goal

pub returns : goal.returns
returns c =
    goes_as (shutdown c.args.self.now.config c.args.slot true) (goes_then c.in_ok-say_ok.ensures.does c.turn_away.ensures)
    (λ p keeps. turned_told c.args.slot ok_text (mode p.notes) p)
