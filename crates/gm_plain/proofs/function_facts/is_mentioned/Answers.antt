use Rattle.std.proofs.Common.{◌≡◌, false, ◌∙◌, sym, arith}
use Rattle.std.proofs.lemmas.Grind.{common_steps}
use Rattle.gm_notes.specs.Notes.{last_said}
use Rattle.gm_plain.specs.Searches.{says_mentioned}
use Rattle.gm_plain.proofs.MadeJobs.{mentioned_said}
use Rattle.gm_plain.proofs.function_facts.is_mentioned.Goals as goal

pub returns : goal.returns
returns c =
    let said : c.loop-note.is_mentioned ≡ last_said (says_mentioned c.args.function.now) false c.args.log.now.notes = grind (arith, common_steps) in
    said ∙ sym (mentioned_said c.args.function.now c.args.log.now.notes)
