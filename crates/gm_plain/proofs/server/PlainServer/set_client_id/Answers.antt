use Rattle.std.proofs.Common.{List, ℕ, ap}
use Rattle.gm_notes.specs.declared.note.Note.TheVariants.{Named}
use Rattle.gm_notes.specs.Past.{with_note}
use Rattle.gm_plain.proofs.ServerLemmas.{does_not, goes_then, goes_as}
use Rattle.gm_plain.proofs.server.PlainServer.set_client_id.Goals as goal

pub returns-in_err-make_room : goal.returns-in_err-make_room
returns-in_err-make_room c = does_not _ _ c.from_residual-in_err-make_room.ensures c.make_room.ensures.goes

pub returns : goal.returns
returns c =
    goes_as (goes_then c.make_room.ensures.goes c.note.ensures.goes)
    (λ p keeps. ap (λ (i : List ℕ). with_note (Named c.args.slot i) p) c.in_ok-id.ensures)
