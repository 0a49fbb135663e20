use Rattle.std.proofs.Common.{◌≡◌, false, ◌∙◌, sym, arith}
use Rattle.std.proofs.lemmas.Grind.{common_steps}
use Rattle.gm_notes.specs.Notes.{last_said}
use Rattle.gm_plain.specs.Searches.{says_able}
use Rattle.gm_plain.proofs.AbilityLemmas.{able_said}
use Rattle.gm_plain.proofs.abilities.is_able.Goals as goal

pub returns : goal.returns
returns c =
    let said : c.loop-note.is_able ≡ last_said (says_able c.args.slot c.args.function.now) false c.args.log.now.notes = grind (arith, common_steps) in
    said ∙ sym (able_said c.args.slot c.args.function.now c.args.log.now.notes)
