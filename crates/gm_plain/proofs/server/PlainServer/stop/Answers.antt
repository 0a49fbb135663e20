use Rattle.std.proofs.Common.{ap, ◌∙◌}
use Rattle.gm_admin.specs.Answers.{ok_text}
use Rattle.gm_notes.specs.declared.note.Note.TheVariants.{Went}
use Rattle.gm_notes.specs.declared.states.Mode.TheVariants.{Stopped}
use Rattle.gm_notes.specs.Settings.{Settings}
use Rattle.gm_notes.specs.Notes.{slots_from}
use Rattle.gm_notes.specs.Past.{with_note, with_output}
use Rattle.gm_notes.specs.Lines.{shut_each}
use Rattle.gm_plain.proofs.ServerLemmas.{does_not, goes_then, goes_as}
use Rattle.gm_plain.proofs.server.PlainServer.stop.Goals as goal

pub returns-in_err-make_room : goal.returns-in_err-make_room
returns-in_err-make_room c = does_not _ _ c.from_residual.ensures c.make_room.ensures.goes

pub returns-in_err-say_ok : goal.returns-in_err-say_ok
returns-in_err-say_ok c = does_not _ _ c.from_residual-in_err-say_ok.ensures (goes_then c.make_room.ensures.goes c.in_err-say_ok.ensures.does)

pub returns : goal.returns
returns c =
    goes_as (goes_then (goes_then (goes_then c.make_room.ensures.goes c.in_ok-say_ok.ensures.does) c.note.ensures.goes) c.shut_each.ensures)
    (λ p keeps.
    ap (λ (k : Settings). shut_each (slots_from 0 k.slots) (with_note (Went Stopped) (with_output c.args.slot ok_text p)))
    (c.note.ensures.goes.config ∙ (c.in_ok-say_ok.ensures.does.config ∙ c.make_room.ensures.goes.config)))
