use Rattle.std.proofs.Common.{false, refl, ap}
use Rattle.gm_admin.specs.Answers.{ok_text}
use Rattle.gm_notes.specs.declared.note.Note.TheVariants.{Went}
use Rattle.gm_notes.specs.declared.states.Mode.TheVariants.{Stopped}
use Rattle.gm_notes.specs.Settings.{Settings}
use Rattle.gm_notes.specs.Notes.{slots_from}
use Rattle.gm_notes.specs.Past.{with_note, with_output}
use Rattle.gm_notes.specs.Lines.{shut_each, shutdown}
use Rattle.gm_core.proofs.CoreLemmas.{goes_then, goes_as}
use Rattle.gm_core.proofs.CommandLemmas.{goes_went}
use Rattle.gm_core.proofs.server.Tables.stop.Goals as goal

pub returns : goal.returns
returns c =
    goes_as (shutdown c.args.self.now.config c.args.slot false)
    (goes_then
    (goes_then c.in_ok-say_ok.ensures.does (goes_went c.say_ok.new.self _ Stopped (record { config = refl; conns = refl; functions = refl; jobs = refl; moment = refl }) refl)) c.shut_each.ensures)
    (λ p keeps. ap (λ (k : Settings). shut_each (slots_from 0 k.slots) (with_note (Went Stopped) (with_output c.args.slot ok_text p))) c.in_ok-say_ok.ensures.does.config)
