use Rattle.std.proofs.Common.{◌≡◌, true, refl, codes}
use Rattle.std.specs.Str.{bytes_eq}
use Rattle.gm_plain.proofs.ServerLemmas.{does_not, goes_then, goes_as}
use Rattle.gm_plain.proofs.server.PlainServer.set_option.Goals as goal

pub returns-in_err-make_room : goal.returns-in_err-make_room
returns-in_err-make_room c = does_not _ _ c.from_residual.ensures c.make_room.ensures.goes

pub returns-in_err-give : goal.returns-in_err-give
returns-in_err-give c = does_not _ _ c.from_residual-in_err-give.ensures (goes_then c.make_room.ensures.goes c.in_err-give.ensures.does)

pub returns : goal.returns
returns c =
    let known : bytes_eq c.args.name.now (codes "exceptions") ≡ true = c.requires.named in
    goes_as (goes_then (goes_then c.make_room.ensures.goes c.in_ok-give.ensures.does) c.note.ensures.goes) (λ p keeps. rw known refl)
