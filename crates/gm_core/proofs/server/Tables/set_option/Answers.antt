use Rattle.std.proofs.Common.{◌≡◌, true, refl, codes}
use Rattle.std.specs.Str.{bytes_eq}
use Rattle.gm_notes.specs.Requests.{set_option}
use Rattle.gm_core.proofs.CoreLemmas.{goes_then, goes_as, goes_option}
use Rattle.gm_core.proofs.server.Tables.set_option.Goals as goal

pub returns : goal.returns
returns c =
    let known : bytes_eq c.args.name.now (codes "exceptions") ≡ true = c.requires.named in
    goes_as (set_option c.args.slot c.args.name.now) (goes_then c.in_ok-answer.ensures.does (goes_option c.args.slot (record { config = refl; functions = refl; jobs = refl; moment = refl; mode = refl }) c.set_option.ensures)) (λ p keeps. rw known refl)
