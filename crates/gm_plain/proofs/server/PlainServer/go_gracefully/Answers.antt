use Rattle.std.proofs.Common.{List, ap, sym, ◌∙◌}
use Rattle.gm_admin.specs.Answers.{ok_text}
use Rattle.gm_notes.specs.Notes.{mode, accepts_connections}
use Rattle.gm_notes.specs.declared.note.Note.{Note}
use Rattle.gm_plain.specs.Logs.{Logged}
use Rattle.gm_plain.proofs.ServerLemmas.{does_not, goes_then, goes_as}
use Rattle.gm_plain.proofs.Commands.{graceful_told, graceful_kept}
use Rattle.gm_plain.proofs.server.PlainServer.go_gracefully.Goals as goal

pub returns-in_err-make_room : goal.returns-in_err-make_room
returns-in_err-make_room c = does_not _ _ c.from_residual.ensures c.make_room.ensures.goes

pub returns-in_err-say_ok : goal.returns-in_err-say_ok
returns-in_err-say_ok c = does_not _ _ c.from_residual-in_err-say_ok.ensures (goes_then c.make_room.ensures.goes c.in_err-say_ok.ensures.does)

pub returns-then-accepts_connections : goal.returns-then-accepts_connections
returns-then-accepts_connections c =
    goes_as (goes_then (goes_then c.make_room.ensures.goes c.in_ok-say_ok.ensures.does) c.note.ensures.goes)
    (λ p keeps.
    let same = ap (λ (l : Logged). l.notes) c.in_ok-say_ok.ensures.log ∙ (c.make_room.ensures.notes ∙ keeps.notes_are) in
    graceful_told c.args.slot ok_text (mode p.notes) p (ap (λ (l : List Note). accepts_connections (mode l)) (sym same) ∙ (ap accepts_connections (sym c.mode.ensures) ∙ (sym c.accepts_connections.ensures ∙ c.if-accepts_connections.true))))

pub returns-else-accepts_connections : goal.returns-else-accepts_connections
returns-else-accepts_connections c =
    goes_as (goes_then c.make_room.ensures.goes c.in_ok-say_ok.ensures.does)
    (λ p keeps.
    let same = ap (λ (l : Logged). l.notes) c.in_ok-say_ok.ensures.log ∙ (c.make_room.ensures.notes ∙ keeps.notes_are) in
    graceful_kept c.args.slot ok_text (mode p.notes) p (ap (λ (l : List Note). accepts_connections (mode l)) (sym same) ∙ (ap accepts_connections (sym c.mode.ensures) ∙ (sym c.accepts_connections.ensures ∙ c.if-accepts_connections.false))))
