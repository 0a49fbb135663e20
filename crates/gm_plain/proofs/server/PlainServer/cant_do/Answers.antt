use Rattle.std.proofs.Common.{◌≡◌, List, ℕ, false, ap}
use Rattle.gm_notes.specs.declared.note.Note.TheVariants.{Cant}
use Rattle.gm_notes.specs.Past.{with_note}
use Rattle.gm_notes.specs.Submissions.{is_bad_name}
use Rattle.gm_plain.proofs.ServerLemmas.{does_not, goes_then, goes_as}
use Rattle.gm_plain.proofs.server.PlainServer.cant_do.Goals as goal

pub returns-in_err-make_room : goal.returns-in_err-make_room
returns-in_err-make_room c = does_not _ _ c.from_residual-in_err-make_room.ensures c.make_room.ensures.goes

pub returns : goal.returns
returns c =
    let good : is_bad_name c.args.function.now ≡ false = c.requires.named in
    goes_as (goes_then c.make_room.ensures.goes c.note.ensures.goes)
    (λ p keeps. rw good (ap (λ (f : List ℕ). with_note (Cant c.args.slot f) p) c.in_ok-function.ensures))
